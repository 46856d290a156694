use Rattle.pm_pack.proofs.JudgeLaws.{packed-of_one}
use Rattle.pm_pack.proofs.WholeLaws.{begins-of_whole}
use Rattle.pm_pack.proofs.theory.packed_texts_are_sound.Goals as goal

pub returns : goal.returns
returns c = record {
  one = packed-of_one;
  beginnings = begins-of_whole c.first_records_are_sound.ensures.whole;
}
