use Rattle.std.proofs.Common.{◌≡◌, List, ℕ, [], ◌∷◌, ◌+◌, ◌*◌, length, take, drop, ap, sym, ◌∙◌}
use Rattle.std.proofs.Common.{subst, arith}
use Rattle.std.specs.List.{flat_map}
use Rattle.pm_sets.proofs.FlagLaws.{in_below}
use Rattle.pm_base.specs.Place.{Place}
use Rattle.pm_forest.specs.Forest.{Hierarchy, node_count}
use Rattle.pm_forest.specs.Places.{place_of_node}
use Rattle.pm_arrays.specs.Arrays.{coordinates_of}
use Rattle.pm_change.proofs.PartLaws.{nodes_most}
use Rattle.pm_arrays.proofs.StoreLaws.{further_behind}
use Rattle.pm_change.proofs.StoreLaws.{one_more, has_room, threes_more, all_numbers}
use Rattle.pm_change.proofs.storing.store_places.Goals as goal

pub overflow_add-from : goal.overflow_add-from
overflow_add-from c =
    let low = in_below c.args.nodes.now c.in-Some.node c.in-Some.ensures.some.there in
    let most = nodes_most c.args.front.now.h c.invariant.ensures.valid.shape in
    omega (arith, c.requires.there)

pub place-requires : goal.place-requires
place-requires c =
    let low = in_below c.args.nodes.now c.in-Some.node c.in-Some.ensures.some.there in
    omega (arith, c.requires.there, ap node_count c.hierarchy.ensures)

pub store_place-requires : goal.store_place-requires
store_place-requires c =
    let i = c.loop-node.invariant in
    let room = has_room c.args.nodes.now c.loop-node.from c.in-Some.node
    c.in-Some.ensures.some in
    omega (arith, i.counted, i.len, c.requires.room)

pub loop-node-preserved : goal.loop-node-preserved
loop-node-preserved c =
    let flags = c.args.nodes.now in
    let i = c.loop-node.invariant in
    let node = c.in-Some.node in
    let first = c.in-Some.ensures.some in
    let low = in_below flags node first.there in
    let place = c.place.ensures
    ∙ ap (λ (h : Hierarchy). place_of_node h node) c.hierarchy.ensures in
    record {
      within = omega arith;
      counted = ap (λ n. n + 1) i.counted ∙ sym (one_more flags c.loop-node.from node first);
      stored = threes_more flags c.loop-node.from node first (coordinates_of c.args.front.now.h)
          c.loop-node.count c.loop-node.to c.store_place.new.to _
          (ap (λ (p : Place). p.x ∷ p.y ∷ p.z ∷ []) place) i.stored c.store_place.ensures.stored;
      behind = c.store_place.ensures.behind
          ∙ further_behind (3 * c.loop-node.count) (3 * (c.loop-node.count + 1)) c.loop-node.to
          c.args.to.now (omega arith) i.behind;
      len = c.store_place.ensures.len ∙ i.len;
    }

pub returns-clause-stored : goal.returns-clause-stored
returns-clause-stored c =
    let i = c.loop-node.invariant in
    let all = all_numbers c.args.nodes.now c.loop-node.from i.within
    c.in_default.ensures.none in
    ap (λ n. take (3 * n) c.loop-node.to) (ap (λ (l : List ℕ). length l) all ∙ sym i.counted)
    ∙ i.stored ∙ sym (ap (λ (l : List ℕ). flat_map (coordinates_of c.args.front.now.h) l) all)

pub returns-clause-behind : goal.returns-clause-behind
returns-clause-behind c =
    let i = c.loop-node.invariant in
    let all = all_numbers c.args.nodes.now c.loop-node.from i.within
    c.in_default.ensures.none in
    subst (λ n. drop (3 * n) c.loop-node.to ≡ drop (3 * n) c.args.to.now)
    (i.counted ∙ sym (ap (λ (l : List ℕ). length l) all)) i.behind
