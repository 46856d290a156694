use Rattle.std.proofs.Common.{◌∙◌, ap, Bool, List, length, arith}
use Rattle.pm_base.specs.Counts.{count}
use Rattle.pm_turn.specs.Turning.{flag_of}
use Rattle.pm_turn.proofs.choice.chosen_turns.Goals as goal

pub count_set-requires : goal.count_set-requires
count_set-requires c = omega (arith, c.in_ok-flags.ensures.agreeing.long, c.requires.cuttable.short)

pub returns-clause-counts : goal.returns-clause-counts
returns-clause-counts c = record {
  turned =
      c.count_set.ensures
      ∙ ap (λ (bs : List Bool). count (flag_of bs) (length bs)) c.deref-5.ensures.value
      ∙ ap (count (flag_of c.in_ok-flags.flags.items)) c.in_ok-flags.ensures.agreeing.long;
  twisted = c.twisted_faces.ensures;
  crowded = c.in_ok-edges.ensures.crowded;
  inside_out = c.inside_out.ensures;
}
