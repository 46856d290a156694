use Rattle.std.proofs.Common.{◌≡◌, ℕ, ◌<◌, List, Option, length, true, sym, subst, lit≤}
use Rattle.pm_base.specs.declared.ids.Side.{Side}
use Rattle.pm_links.specs.Lists.{has}
use Rattle.pm_fine.specs.Normals.{doubled}
use Rattle.pm_shrink.specs.Shrinking.{fan_at}
use Rattle.pm_simplify.specs.Walks.{still}
use Rattle.pm_simplify.proofs.Walking.{first_held, next_held, fan_shorter}
use Rattle.pm_fine_costs.specs.declared.face_sum.FaceSum.{FaceSum}
use Rattle.pm_fine_costs.specs.Volumes.{face_but}
use Rattle.pm_fine_costs.proofs.TakenLaws.{walk_stands}
use Rattle.pm_fine_costs.proofs.VolumeLaws.{small_more}
use Rattle.pm_fine_costs.proofs.VolumeWalks.{sum_small, sum_begins, sum_goes, sum_ends}
use Rattle.pm_fine_costs.proofs.VolumeWalks.{fan_within, fan_few}
use Rattle.pm_fine_costs.proofs.volume.faces_but.Goals as goal

pub loop-at-init : goal.loop-at-init
loop-at-init c =
    let s = c.args.shrink.now in
    let v : ℕ = c.args.v in
    let corners = c.invariant.ensures.kept.corners v in
    record {
      held = first_held s v corners c.first_corner-at.result c.first_corner-at.ensures.value;
      sum = sum_begins s v corners (face_but s.surface c.args.but c.args.p) c.zero-sum.result
          c.first_corner-at.result c.zero-sum.ensures c.first_corner-at.ensures.value;
    }

pub face_but-requires : goal.face_but-requires
face_but-requires c =
    let s = c.args.shrink.now in
    let corners = c.invariant.ensures.kept.corners c.args.v in
    let held = walk_stands doubled s c.args.v corners c.loop-at.at c.in-Some.corner c.in-Some.is
    c.loop-at.invariant.held in
    ((corners.each c.in-Some.corner.0).0 held).0

pub plus-sum-requires : goal.plus-sum-requires
plus-sum-requires c =
    let s = c.args.shrink.now in
    let v : ℕ = c.args.v in
    let corners = c.invariant.ensures.kept.corners v in
    let f : ℕ → FaceSum = face_but s.surface c.args.but c.args.p in
    record {
      first =
          sum_small f (fan_at s v) (still c.loop-at.at (fan_at s v)) c.loop-at.sum 4194304
          c.loop-at.invariant.sum (fan_within s v corners f c.invariant.ensures.few_sides);
      second = small_more 1 4194304 c.face_but.result (lit≤ tt) c.face_but.ensures.small;
    }

pub next_corner-at-requires : goal.next_corner-at-requires
next_corner-at-requires c =
    let s = c.args.shrink.now in
    let corners = c.invariant.ensures.kept.corners c.args.v in
    let held = walk_stands doubled s c.args.v corners c.loop-at.at c.in-Some.corner c.in-Some.is
    c.loop-at.invariant.held in
    ((corners.each c.in-Some.corner.0).0 held).0

pub loop-at-smaller : goal.loop-at-smaller
loop-at-smaller c =
    let s = c.args.shrink.now in
    let v : ℕ = c.args.v in
    let fan : List ℕ = fan_at s v in
    let corners = c.invariant.ensures.kept.corners v in
    let held : has fan c.in-Some.corner.0 ≡ true =
    walk_stands doubled s v corners c.loop-at.at c.in-Some.corner c.in-Some.is
    c.loop-at.invariant.held in
    subst (λ (o : Option Side). length (still c.next_corner-at.result fan) < length (still o fan))
    (sym c.in-Some.is)
    (fan_shorter s v corners c.in-Some.corner c.next_corner-at.result held
    c.next_corner-at.ensures.value)

pub loop-at-preserved : goal.loop-at-preserved
loop-at-preserved c =
    let s = c.args.shrink.now in
    let v : ℕ = c.args.v in
    let corners = c.invariant.ensures.kept.corners v in
    let held : has (fan_at s v) c.in-Some.corner.0 ≡ true =
    walk_stands doubled s v corners c.loop-at.at c.in-Some.corner c.in-Some.is
    c.loop-at.invariant.held in
    record {
      held = next_held s v corners c.in-Some.corner c.next_corner-at.result held
          c.next_corner-at.ensures.value;
      sum = sum_goes s v corners (face_but s.surface c.args.but c.args.p) c.loop-at.sum
          c.face_but.result c.plus-sum.result c.loop-at.at c.next_corner-at.result
          c.in-Some.corner c.in-Some.is held c.loop-at.invariant.sum c.face_but.ensures.value
          c.face_but.ensures.small c.plus-sum.ensures c.next_corner-at.ensures.value;
    }

pub returns-clause-value : goal.returns-clause-value
returns-clause-value c =
    let s = c.args.shrink.now in
    sum_ends s c.args.v (c.invariant.ensures.kept.corners c.args.v)
    (face_but s.surface c.args.but c.args.p) c.loop-at.sum c.loop-at.at c.in_default.is
    c.loop-at.invariant.sum

pub returns-clause-small : goal.returns-clause-small
returns-clause-small c =
    let s = c.args.shrink.now in
    let v : ℕ = c.args.v in
    let f : ℕ → FaceSum = face_but s.surface c.args.but c.args.p in
    sum_small f (fan_at s v) (still c.loop-at.at (fan_at s v)) c.loop-at.sum 1048576
    c.loop-at.invariant.sum
    (fan_few s v (c.invariant.ensures.kept.corners v) f c.invariant.ensures.kept.short)
