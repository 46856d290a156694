use Rattle.std.proofs.lemmas.List.{get_or_default}
use Rattle.std.proofs.Common.{◌+◌, ◌≤◌, length, refl, ◌≡◌, ◌<◌, Option, Some, max, get_or, set}
use Rattle.std.proofs.Common.{subst, sym, arith, ◌∙◌}
use Rattle.std.specs.Option.{option_map}
use Rattle.pm_base.specs.declared.ids.NodeId.{NodeId}
use Rattle.pm_deviation.specs.Farthest.{few_above, plane_through, IsRung}
use Rattle.pm_deviation.proofs.FarthestLaws.{top_of, WalksUp, walk_start, walk_on, few_above-lower}
use Rattle.pm_deviation.proofs.FarthestLaws.{rung_of}
use Rattle.pm_deviation.proofs.farthest.raise_above.Goals as goal

pub loop-above-init : goal.loop-above-init
loop-above-init c =
    let h = c.args.h.now in
    let leaf = c.args.leaf in
    let own = plane_through h c.args.parts leaf in
    let old = c.args.table.now.items in
    subst (λ n. WalksUp h leaf own old old (Some n)) (sym c.leaf_node-lowest.ensures.value)
    (walk_start h c.invariant.ensures leaf c.requires.leaf own old c.requires.len c.requires.small)

stands : (c : goal.After-above-in-Some-1)
    → WalksUp c.args.h.now c.args.leaf (plane_through c.args.h.now c.args.parts c.args.leaf)
    c.args.table.now.items c.loop-above.table.items (Some c.in-Some.node.0)
stands c =
    subst (λ (o : Option NodeId). WalksUp c.args.h.now c.args.leaf
    (plane_through c.args.h.now c.args.parts c.args.leaf)
    c.args.table.now.items c.loop-above.table.items (option_map (λ (n : NodeId). n.0) o))
    c.in-Some.is
    c.loop-above.invariant

here : (c : goal.After-above-in-Some-1)
    → IsRung c.args.h.now c.in-Some.node.0 c.index-rungs-at.result
here c =
    subst (IsRung c.args.h.now c.in-Some.node.0) (sym c.index-rungs-at.is)
    (rung_of c.args.h.now c.args.rungs.now c.requires.rungs c.in-Some.node.0 (stands c).node
    c.index-rungs-at.result)

pub loop-above-smaller : goal.loop-above-smaller
loop-above-smaller c =
    let n = c.in-Some.node.0 in
    let above = c.index-rungs-at.result.above in
    let low = few_above-lower c.args.h.now c.invariant.ensures n (stands c).node in
    let step : top_of (option_map (λ (v : NodeId). v.0) above) < n + 1 =
    rw (here c).above (omega (arith, low)) in
    subst (λ (o : Option NodeId). top_of (option_map (λ (v : NodeId). v.0) above)
    < top_of (option_map (λ (v : NodeId). v.0) o)) (sym c.in-Some.is) step

pub loop-above-preserved : goal.loop-above-preserved
unfolding plane_through
loop-above-preserved c =
    let h = c.args.h.now in
    let leaf = c.args.leaf in
    let own = plane_through h c.args.parts leaf in
    let old = c.args.table.now.items in
    let now = c.loop-above.table.items in
    let n = c.in-Some.node.0 in
    let w = stands c in
    let at = here c in
    let low =
    rung_of h c.args.rungs.now c.requires.rungs c.leaf_node-lowest.result.0
    c.leaf_node-lowest.ensures.node c.index-rungs-lowest.result in
    let inside : n < length now = (let len = w.len in let node = w.node in omega arith) in
    let before : c.index.result.now ≡ get_or now n 0 =
    c.index.ensures ∙ get_or_default now n c.index.result.now 0 inside in
    let way : c.way_along.result ≡ own n =
    c.way_along.ensures.value
    ∙ (rw (at.place, low.place, c.leaf_node-lowest.ensures.value) refl) in
    let short : own n ≤ 113509 = subst (λ m. m ≤ 113509) way c.way_along.ensures.small in
    let value : c.max.result ≡ max (get_or now n 0) (own n) =
    c.max.ensures ∙ (rw (before, way) refl) in
    subst (WalksUp h leaf own old (set now n c.max.result)) (sym at.above)
    (subst (λ m. WalksUp h leaf own old (set now n m) (few_above h n)) (sym value)
    (walk_on h c.invariant.ensures leaf c.requires.leaf own old now n w short))
