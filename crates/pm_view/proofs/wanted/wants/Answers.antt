use Rattle.std.proofs.Common.{sym, ◌∙◌}
use Rattle.pm_view.proofs.NodeLaws.{wanting_passes_up, unwanted_for_a_reason}
use Rattle.pm_view.proofs.wanted.wants.Goals as goal

pub returns-clause-parent : goal.returns-clause-parent
returns-clause-parent g c wanted k l makes =
    wanting_passes_up c.args.h.now c.invariant.ensures c.args.view.now k c.args.node.0 l makes
    (sym c.passes.ensures.value ∙ wanted)

pub returns-clause-reason : goal.returns-clause-reason
returns-clause-reason g c unwanted =
    unwanted_for_a_reason c.args.h.now c.invariant.ensures c.args.view.now c.args.node.0
    c.requires.node (sym c.passes.ensures.value ∙ unwanted)
