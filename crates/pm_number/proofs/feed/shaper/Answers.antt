use Rattle.std.proofs.Common.{◌∙◌, inl, inr, refl, sym, ap, arith}
use Rattle.pm_forest.specs.Shaping.{nothing_in}
use Rattle.pm_number.proofs.FaceTables.{few_bases}
use Rattle.pm_number.proofs.FromLog.{counts_are, not_bad}
use Rattle.pm_number.proofs.NumberLaws.{few_left}
use Rattle.pm_number.proofs.feed.shaper.Goals as goal

pub overflow_cast-roots : goal.overflow_cast-roots
overflow_cast-roots c = omega (arith, few_left c.requires.run c.requires.left_is)

pub overflow_cast-bases : goal.overflow_cast-bases
overflow_cast-bases c = omega (arith, few_bases c.requires.run c.requires.bases_are)

pub unreachable-requires : goal.unreachable-requires
unreachable-requires c =
    elim c.in-Err-BadCount.ensures.err [
      | inl p ↦ (let q = sym c.in-Err-BadCount.field-0-is ∙ p.0 in cc)
      | inr p ↦
          not_bad c.requires
          (counts_are c.requires (omega arith) (omega arith) (omega arith) refl) p.1
    ]

pub returns-in-Ok : goal.returns-in-Ok
returns-in-Ok c =
    c.in-Ok.ensures.ok.1
    ∙ ap nothing_in
    (counts_are c.requires (omega arith) (omega arith) (omega arith) refl)
