use Rattle.std.proofs.Common.{◌≡◌, ℕ, ◌<◌, List, Option, length, true, sym, subst}
use Rattle.pm_base.specs.declared.ids.Side.{Side}
use Rattle.pm_fine.specs.Normals.{doubled}
use Rattle.pm_links.specs.Lists.{has}
use Rattle.pm_shrink.specs.Shrinking.{fan_at}
use Rattle.pm_simplify.specs.Walks.{still}
use Rattle.pm_simplify.proofs.Walking.{first_held, next_held, fan_shorter}
use Rattle.pm_fine_costs.proofs.TakenLaws.{walk_first, walk_stands, walk_on, walk_few, walk_done}
use Rattle.pm_fine_costs.proofs.round.taken_at.Goals as goal

pub loop-at-init : goal.loop-at-init
loop-at-init c =
    let s = c.args.shrink.now in
    let v : ℕ = c.args.v in
    let corners = c.invariant.ensures.kept.corners v in
    record {
      held = first_held s v corners c.first_corner-at.result c.first_corner-at.ensures.value;
      sum = walk_first doubled s v corners c.zero-quadric.result c.first_corner-at.result
          c.zero-quadric.ensures c.first_corner-at.ensures.value;
    }

pub corner_quadric-requires : goal.corner_quadric-requires
corner_quadric-requires c =
    let s = c.args.shrink.now in
    let corners = c.invariant.ensures.kept.corners c.args.v in
    let held = walk_stands doubled s c.args.v corners c.loop-at.at c.in-Some.corner c.in-Some.is
    c.loop-at.invariant.held in
    ((corners.each c.in-Some.corner.0).0 held).0

pub plus-quadric-requires : goal.plus-quadric-requires
plus-quadric-requires c =
    walk_few doubled c.args.shrink.now c.args.v (c.invariant.ensures.kept.corners c.args.v)
    c.loop-at.quadric c.corner_quadric.result c.loop-at.at c.invariant.ensures.few_sides
    c.corner_quadric.ensures.few c.loop-at.invariant.sum

pub next_corner-at-requires : goal.next_corner-at-requires
next_corner-at-requires c =
    let s = c.args.shrink.now in
    let corners = c.invariant.ensures.kept.corners c.args.v in
    let held = walk_stands doubled s c.args.v corners c.loop-at.at c.in-Some.corner c.in-Some.is
    c.loop-at.invariant.held in
    ((corners.each c.in-Some.corner.0).0 held).0

pub loop-at-smaller : goal.loop-at-smaller
loop-at-smaller c =
    let s = c.args.shrink.now in
    let v : ℕ = c.args.v in
    let fan : List ℕ = fan_at s v in
    let corners = c.invariant.ensures.kept.corners v in
    let held : has fan c.in-Some.corner.0 ≡ true =
    walk_stands doubled s v corners c.loop-at.at c.in-Some.corner c.in-Some.is
    c.loop-at.invariant.held in
    subst (λ (o : Option Side). length (still c.next_corner-at.result fan) < length (still o fan))
    (sym c.in-Some.is)
    (fan_shorter s v corners c.in-Some.corner c.next_corner-at.result held
    c.next_corner-at.ensures.value)

pub loop-at-preserved : goal.loop-at-preserved
loop-at-preserved c =
    let s = c.args.shrink.now in
    let v : ℕ = c.args.v in
    let corners = c.invariant.ensures.kept.corners v in
    let held : has (fan_at s v) c.in-Some.corner.0 ≡ true =
    walk_stands doubled s v corners c.loop-at.at c.in-Some.corner c.in-Some.is
    c.loop-at.invariant.held in
    record {
      held = next_held s v corners c.in-Some.corner c.next_corner-at.result held
          c.next_corner-at.ensures.value;
      sum = walk_on doubled s v corners c.loop-at.quadric c.corner_quadric.result
          c.plus-quadric.result c.loop-at.at c.next_corner-at.result c.in-Some.corner c.in-Some.is
          held c.loop-at.invariant.sum c.corner_quadric.ensures.stands c.plus-quadric.ensures.sums
          c.next_corner-at.ensures.value;
    }

pub returns : goal.returns
returns c =
    walk_done doubled c.args.shrink.now c.args.v (c.invariant.ensures.kept.corners c.args.v)
    c.loop-at.quadric c.loop-at.at c.in_default.is c.loop-at.invariant.sum
