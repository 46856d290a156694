use Rattle.std.proofs.Common.{sym, ◌∙◌, subst}
use Rattle.pm_base.specs.Counts.{set_of}
use Rattle.pm_forest.proofs.Climbing.{IsAbove}
use Rattle.pm_forest.proofs.ViewLaws.{climb_goes_on}
use Rattle.pm_viewer.proofs.looking.climb.Goals as goal

pub loop-k-preserved : goal.loop-k-preserved
loop-k-preserved c =
    let h = c.args.front.now.h in
    let T = set_of c.args.front.now.flags in
    let made = sym c.maker.ensures.value ∙ c.in-Some.is in
    let unsplit = sym c.is_split.ensures ∙ c.if-is_split.false in
    let on = climb_goes_on h c.invariant.ensures.valid.shape T c.args.leaf c.requires.leaf
    c.loop-k.node.0 c.in-Some.k c.loop-k.invariant made unsplit in
    subst (IsAbove h T c.args.leaf) (sym c.split_node-node.ensures.value) on
