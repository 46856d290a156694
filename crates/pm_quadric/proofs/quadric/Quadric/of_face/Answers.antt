use Rattle.std.proofs.Common.{◌∙◌, refl, sym, subst, w64, FitsSigned, lit≤, rules}
use Rattle.pm_base.specs.Geometry.{Direction, cross_of}
use Rattle.pm_quadric.specs.Planes.{Plane, plane_of}
use Rattle.pm_quadric.specs.Quadrics.{IsQuadric}
use Rattle.pm_quadric.proofs.Words.{kept_small}
use Rattle.pm_quadric.proofs.ReadBack.{pair_is, double_is, offset_is, coefficients_are}
use Rattle.pm_quadric.proofs.Expansion.{sums-one}
use Rattle.pm_quadric.proofs.QuadricLaws.{quadric_face}
use Rattle.pm_quadric.proofs.quadric.Quadric.of_face.Goals as goal

pub pair-requires : goal.pair-requires
pair-requires c = record {
  a_small = kept_small _ _ _ _ c.cross-n.ensures.x c.cross-n.ensures.small.0 (lit≤ tt) (lit≤ tt);
  b_small = kept_small _ _ _ _ c.cross-n.ensures.x c.cross-n.ensures.small.0 (lit≤ tt) (lit≤ tt);
}

pub double-requires : goal.double-requires
double-requires c = record {
  a_small = kept_small _ _ _ _ c.cross-n.ensures.x c.cross-n.ensures.small.0 (lit≤ tt) (lit≤ tt);
  b_small = kept_small _ _ _ _ c.cross-n.ensures.y c.cross-n.ensures.small.1 (lit≤ tt) (lit≤ tt);
}

pub double-requires-2 : goal.double-requires-2
double-requires-2 c = record {
  a_small = kept_small _ _ _ _ c.cross-n.ensures.x c.cross-n.ensures.small.0 (lit≤ tt) (lit≤ tt);
  b_small = kept_small _ _ _ _ c.cross-n.ensures.z c.cross-n.ensures.small.2 (lit≤ tt) (lit≤ tt);
}

pub double-requires-3 : goal.double-requires-3
double-requires-3 c = record {
  a_small = kept_small _ _ _ _ c.cross-n.ensures.x c.cross-n.ensures.small.0 (lit≤ tt) (lit≤ tt);
  b_small = kept_small c.offset-d.result _ _ _ refl c.offset-d.ensures.small (lit≤ tt) (lit≤ tt);
}

pub pair-requires-2 : goal.pair-requires-2
pair-requires-2 c = record {
  a_small = kept_small _ _ _ _ c.cross-n.ensures.y c.cross-n.ensures.small.1 (lit≤ tt) (lit≤ tt);
  b_small = kept_small _ _ _ _ c.cross-n.ensures.y c.cross-n.ensures.small.1 (lit≤ tt) (lit≤ tt);
}

pub double-requires-4 : goal.double-requires-4
double-requires-4 c = record {
  a_small = kept_small _ _ _ _ c.cross-n.ensures.y c.cross-n.ensures.small.1 (lit≤ tt) (lit≤ tt);
  b_small = kept_small _ _ _ _ c.cross-n.ensures.z c.cross-n.ensures.small.2 (lit≤ tt) (lit≤ tt);
}

pub double-requires-5 : goal.double-requires-5
double-requires-5 c = record {
  a_small = kept_small _ _ _ _ c.cross-n.ensures.y c.cross-n.ensures.small.1 (lit≤ tt) (lit≤ tt);
  b_small = kept_small c.offset-d.result _ _ _ refl c.offset-d.ensures.small (lit≤ tt) (lit≤ tt);
}

pub pair-requires-3 : goal.pair-requires-3
pair-requires-3 c = record {
  a_small = kept_small _ _ _ _ c.cross-n.ensures.z c.cross-n.ensures.small.2 (lit≤ tt) (lit≤ tt);
  b_small = kept_small _ _ _ _ c.cross-n.ensures.z c.cross-n.ensures.small.2 (lit≤ tt) (lit≤ tt);
}

pub double-requires-6 : goal.double-requires-6
double-requires-6 c = record {
  a_small = kept_small _ _ _ _ c.cross-n.ensures.z c.cross-n.ensures.small.2 (lit≤ tt) (lit≤ tt);
  b_small = kept_small c.offset-d.result _ _ _ refl c.offset-d.ensures.small (lit≤ tt) (lit≤ tt);
}

pub pair-requires-4 : goal.pair-requires-4
pair-requires-4 c = record {
  a_small = kept_small c.offset-d.result _ _ _ refl c.offset-d.ensures.small (lit≤ tt) (lit≤ tt);
  b_small = kept_small c.offset-d.result _ _ _ refl c.offset-d.ensures.small (lit≤ tt) (lit≤ tt);
}

pub returns : goal.returns
returns c =
    let n : Direction = cross_of c.args.a c.args.b c.args.c in
    let f : Plane = plane_of c.args.a c.args.b c.args.c in
    let fa : FitsSigned w64 c.cross-n.result.x = search rules in
    let fb : FitsSigned w64 c.cross-n.result.y = search rules in
    let fc : FitsSigned w64 c.cross-n.result.z = search rules in
    let fd : FitsSigned w64 c.offset-d.result = search rules in
    let ea = c.cross-n.ensures.x in
    let eb = c.cross-n.ensures.y in
    let ec = c.cross-n.ensures.z in
    let ed = offset_is _ _ _ _ n c.args.a c.offset-d.ensures.value ea eb ec in
    let xx = pair_is c.pair.result _ _ f.a f.a (search rules) c.pair.ensures fa fa ea ea in
    let xy = double_is c.double.result _ _ f.a f.b (search rules) c.double.ensures fa fb ea eb in
    let xz = double_is c.double-2.result _ _ f.a f.c (search rules) c.double-2.ensures fa fc ea
    ec in
    let x = double_is c.double-3.result _ _ f.a f.d (search rules) c.double-3.ensures fa fd ea ed in
    let yy = pair_is c.pair-2.result _ _ f.b f.b (search rules) c.pair-2.ensures fb fb eb eb in
    let yz = double_is c.double-4.result _ _ f.b f.c (search rules) c.double-4.ensures fb fc eb
    ec in
    let y = double_is c.double-5.result _ _ f.b f.d (search rules) c.double-5.ensures fb fd eb ed in
    let zz = pair_is c.pair-3.result _ _ f.c f.c (search rules) c.pair-3.ensures fc fc ec ec in
    let z = double_is c.double-6.result _ _ f.c f.d (search rules) c.double-6.ensures fc fd ec ed in
    let one = pair_is c.pair-4.result _ _ f.d f.d (search rules) c.pair-4.ensures fd fd ed ed in
    coefficients_are f _ _ _ _ _ _ _ _ _ _ xx xy xz x yy yz y zz z one ∙ sym (sums-one f)

pub invariant_of-result : goal.invariant_of-result
invariant_of-result c =
    let p = c.cross-n.ensures.in_range in
    subst IsQuadric (sym (returns c)) (quadric_face c.args.a c.args.b c.args.c p.0 p.1 p.2)
