use Rattle.std.proofs.Common.{ap, ◌∙◌, arith}
use Rattle.pm_forest.specs.Forest.{record_count}
use Rattle.pm_morph.proofs.MarkLaws.{all_same}
use Rattle.pm_morph.proofs.marker.copy_flags.Goals as goal

pub returns-clause-same : goal.returns-clause-same
returns-clause-same c =
    all_same c.loop-k.marks.items c.args.front.now.flags (record_count c.args.front.now.h)
    (c.loop-k.invariant.len ∙ c.requires) c.invariant.ensures.flags
    (λ j l. c.loop-k.invariant.same j (omega (arith, l, ap record_count c.hierarchy.ensures)))
