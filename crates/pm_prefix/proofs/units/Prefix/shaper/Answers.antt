use Rattle.std.proofs.Common.{◌∙◌, inl, inr, refl, sym, ap, arith}
use Rattle.pm_forest.specs.Shaping.{nothing_in}
use Rattle.pm_prefix.specs.Tables.{hierarchy_by}
use Rattle.pm_prefix.proofs.FeedLaws.{not_bad}
use Rattle.pm_prefix.proofs.Feeding.{shaped, counts_are}
use Rattle.pm_prefix.proofs.PrefixLaws.{few_nodes}
use Rattle.pm_prefix.proofs.units.Prefix.shaper.Goals as goal

pub overflow_add-roots : goal.overflow_add-roots
overflow_add-roots c = omega (arith, few_nodes c.args.self.now c.requires, c.requires.few)

pub unreachable-requires : goal.unreachable-requires
unreachable-requires c =
    elim c.in-Err-BadCount.ensures.err [
      | inl p ↦ (let q = sym c.in-Err-BadCount.field-0-is ∙ p.0 in cc)
      | inr p ↦
          not_bad (hierarchy_by c.args.self.now) (shaped c.args.self.now c.requires)
          (counts_are c.args.self.now c.requires refl c.roots-roots.ensures.value
          c.bases.ensures.value refl) p.1
    ]

pub returns-in-Ok : goal.returns-in-Ok
returns-in-Ok c =
    c.in-Ok.ensures.ok.1
    ∙ ap nothing_in
    (counts_are c.args.self.now c.requires refl c.roots-roots.ensures.value c.bases.ensures.value
    refl)
