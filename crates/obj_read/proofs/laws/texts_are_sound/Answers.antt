use Rattle.obj_read.proofs.CanonicalLaws.{canonical_is_read}
use Rattle.obj_read.proofs.CommentLaws.{comment_is_skipped, commented_is_read}
use Rattle.obj_read.proofs.laws.texts_are_sound.Goals as goal

pub returns : goal.returns
returns c = record {
  canonical = canonical_is_read;
  comment = comment_is_skipped;
  commented = commented_is_read;
}
