use Rattle.std.proofs.Common.{◌≡◌, ℕ, ◌∙◌, Some, None, ap, sym, subst, arith}
use Rattle.pm_base.specs.Place.{Place}
use Rattle.pm_runs.specs.Surfaces.{Surface}
use Rattle.pm_fine_costs.specs.declared.face_sum.FaceSum.{FaceSum}
use Rattle.pm_fine_costs.specs.Corners.{corners_round}
use Rattle.pm_fine_costs.specs.Volumes.{plus_faces, total_of, face_at, face_but, corners_at_ends}
use Rattle.pm_fine_costs.specs.Volumes.{IsSmall}
use Rattle.pm_fine_costs.proofs.VolumeLaws.{small_plus, small_more, ends_sum, put_none, put_out}
use Rattle.pm_fine_costs.proofs.VolumeLaws.{put_in}
use Rattle.pm_fine_costs.proofs.volume.volume_place.Goals as goal

sum_is :
    (s : Surface) (a b : ℕ) (p : Place) (f g h : FaceSum) →
    f ≡ total_of (face_but s None p) (corners_round s a) →
    g ≡ total_of (face_but s (Some a) p) (corners_round s b) → h ≡ plus_faces f g →
    h ≡ total_of (face_at s p) (corners_at_ends s a b)
sum_is s a b p f g h ef eg eh =
    eh ∙ ap (λ (k : FaceSum). plus_faces k g) ef
    ∙ ap (plus_faces (total_of (face_but s None p) (corners_round s a))) eg ∙ ends_sum s a b p

small_is :
    (f g h : FaceSum) → IsSmall 1048576 f → IsSmall 1048576 g → h ≡ plus_faces f g →
    IsSmall 2097152 h
small_is f g h sf sg eh =
    subst (IsSmall 2097152) (sym eh) (small_plus 1048576 1048576 f g sf sg)

pub plus-sum-requires : goal.plus-sum-requires
plus-sum-requires c = record {
  first = small_more 1048576 4194304 c.faces_but-first.result (omega arith)
      c.faces_but-first.ensures.small;
  second = small_more 1048576 4194304 c.faces_but-second.result (omega arith)
      c.faces_but-second.ensures.small;
}

pub norm2-norm2-requires : goal.norm2-norm2-requires
norm2-norm2-requires c =
    small_is c.faces_but-first.result c.faces_but-second.result c.plus-sum.result
    c.faces_but-first.ensures.small c.faces_but-second.ensures.small c.plus-sum.ensures

pub moved-requires-clause-small : goal.moved-requires-clause-small
moved-requires-clause-small c =
    small_is c.faces_but-first.result c.faces_but-second.result c.plus-sum.result
    c.faces_but-first.ensures.small c.faces_but-second.ensures.small c.plus-sum.ensures

pub returns-then-norm2-eq0 : goal.returns-then-norm2-eq0
returns-then-norm2-eq0 c =
    let s : Surface = c.args.shrink.now.surface in
    let is = sum_is s c.args.a c.args.b c.args.p c.faces_but-first.result c.faces_but-second.result
    c.plus-sum.result c.faces_but-first.ensures.value c.faces_but-second.ensures.value
    c.plus-sum.ensures in
    put_none s c.args.a c.args.b c.args.p c.plus-sum.result is c.norm2-norm2.result
    c.norm2-norm2.ensures.value (omega arith)

pub returns-in-Some : goal.returns-in-Some
returns-in-Some c =
    let s : Surface = c.args.shrink.now.surface in
    let is = sum_is s c.args.a c.args.b c.args.p c.faces_but-first.result c.faces_but-second.result
    c.plus-sum.result c.faces_but-first.ensures.value c.faces_but-second.ensures.value
    c.plus-sum.ensures in
    put_in s c.args.a c.args.b c.args.p c.plus-sum.result is c.norm2-norm2.result
    c.norm2-norm2.ensures.value c.in-Some.q c.if_near.result (omega arith) c.in-Some.ensures.some
    c.in-Some.ensures.in_range c.if_near.ensures

pub returns-in-None : goal.returns-in-None
returns-in-None c =
    let s : Surface = c.args.shrink.now.surface in
    let is = sum_is s c.args.a c.args.b c.args.p c.faces_but-first.result c.faces_but-second.result
    c.plus-sum.result c.faces_but-first.ensures.value c.faces_but-second.ensures.value
    c.plus-sum.ensures in
    put_out s c.args.a c.args.b c.args.p c.plus-sum.result is c.norm2-norm2.result
    c.norm2-norm2.ensures.value (omega arith) c.in-None.ensures.none
