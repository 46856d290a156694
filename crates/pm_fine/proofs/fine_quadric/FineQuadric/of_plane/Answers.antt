use Rattle.std.proofs.Common.{◌∙◌, sym, subst, w64, FitsSigned, lit≤, rules}
use Rattle.pm_quadric.specs.Planes.{Plane}
use Rattle.pm_quadric.proofs.Expansion.{sums-one}
use Rattle.pm_quadric.proofs.Words.{kept_small}
use Rattle.pm_quadric.proofs.ReadBack.{pair_is, double_is, coefficients_are}
use Rattle.pm_fine.specs.FineSums.{IsFineQuadric}
use Rattle.pm_fine.proofs.FineLaws.{fine_one}
use Rattle.pm_fine.proofs.fine_quadric.FineQuadric.of_plane.Goals as goal

pub pair-requires : goal.pair-requires
pair-requires c = record {
  a_small = kept_small _ _ _ _ c.a-a.ensures.value c.a-a.ensures.in_range.a (lit≤ tt) (lit≤ tt);
  b_small = kept_small _ _ _ _ c.a-a.ensures.value c.a-a.ensures.in_range.a (lit≤ tt) (lit≤ tt);
}

pub double-requires : goal.double-requires
double-requires c = record {
  a_small = kept_small _ _ _ _ c.a-a.ensures.value c.a-a.ensures.in_range.a (lit≤ tt) (lit≤ tt);
  b_small = kept_small _ _ _ _ c.b-b.ensures.value c.b-b.ensures.in_range.b (lit≤ tt) (lit≤ tt);
}

pub double-requires-2 : goal.double-requires-2
double-requires-2 c = record {
  a_small = kept_small _ _ _ _ c.a-a.ensures.value c.a-a.ensures.in_range.a (lit≤ tt) (lit≤ tt);
  b_small = kept_small _ _ _ _ c.c-c.ensures.value c.c-c.ensures.in_range.c (lit≤ tt) (lit≤ tt);
}

pub double-requires-3 : goal.double-requires-3
double-requires-3 c = record {
  a_small = kept_small _ _ _ _ c.a-a.ensures.value c.a-a.ensures.in_range.a (lit≤ tt) (lit≤ tt);
  b_small = kept_small _ _ _ _ c.d-d.ensures.value c.d-d.ensures.in_range.d (lit≤ tt) (lit≤ tt);
}

pub pair-requires-2 : goal.pair-requires-2
pair-requires-2 c = record {
  a_small = kept_small _ _ _ _ c.b-b.ensures.value c.b-b.ensures.in_range.b (lit≤ tt) (lit≤ tt);
  b_small = kept_small _ _ _ _ c.b-b.ensures.value c.b-b.ensures.in_range.b (lit≤ tt) (lit≤ tt);
}

pub double-requires-4 : goal.double-requires-4
double-requires-4 c = record {
  a_small = kept_small _ _ _ _ c.b-b.ensures.value c.b-b.ensures.in_range.b (lit≤ tt) (lit≤ tt);
  b_small = kept_small _ _ _ _ c.c-c.ensures.value c.c-c.ensures.in_range.c (lit≤ tt) (lit≤ tt);
}

pub double-requires-5 : goal.double-requires-5
double-requires-5 c = record {
  a_small = kept_small _ _ _ _ c.b-b.ensures.value c.b-b.ensures.in_range.b (lit≤ tt) (lit≤ tt);
  b_small = kept_small _ _ _ _ c.d-d.ensures.value c.d-d.ensures.in_range.d (lit≤ tt) (lit≤ tt);
}

pub pair-requires-3 : goal.pair-requires-3
pair-requires-3 c = record {
  a_small = kept_small _ _ _ _ c.c-c.ensures.value c.c-c.ensures.in_range.c (lit≤ tt) (lit≤ tt);
  b_small = kept_small _ _ _ _ c.c-c.ensures.value c.c-c.ensures.in_range.c (lit≤ tt) (lit≤ tt);
}

pub double-requires-6 : goal.double-requires-6
double-requires-6 c = record {
  a_small = kept_small _ _ _ _ c.c-c.ensures.value c.c-c.ensures.in_range.c (lit≤ tt) (lit≤ tt);
  b_small = kept_small _ _ _ _ c.d-d.ensures.value c.d-d.ensures.in_range.d (lit≤ tt) (lit≤ tt);
}

pub pair-requires-4 : goal.pair-requires-4
pair-requires-4 c = record {
  a_small = kept_small _ _ _ _ c.d-d.ensures.value c.d-d.ensures.in_range.d (lit≤ tt) (lit≤ tt);
  b_small = kept_small _ _ _ _ c.d-d.ensures.value c.d-d.ensures.in_range.d (lit≤ tt) (lit≤ tt);
}

pub returns : goal.returns
returns c =
    let f : Plane = c.args.f.now in
    let fa : FitsSigned w64 c.a-a.result = search rules in
    let fb : FitsSigned w64 c.b-b.result = search rules in
    let fc : FitsSigned w64 c.c-c.result = search rules in
    let fd : FitsSigned w64 c.d-d.result = search rules in
    let ea = c.a-a.ensures.value in
    let eb = c.b-b.ensures.value in
    let ec = c.c-c.ensures.value in
    let ed = c.d-d.ensures.value in
    let xx = pair_is c.pair.result _ _ f.a f.a (search rules) c.pair.ensures fa fa ea ea in
    let xy = double_is c.double.result _ _ f.a f.b (search rules) c.double.ensures fa fb ea eb in
    let xz = double_is c.double-2.result _ _ f.a f.c (search rules) c.double-2.ensures fa fc ea
    ec in
    let x = double_is c.double-3.result _ _ f.a f.d (search rules) c.double-3.ensures fa fd ea ed in
    let yy = pair_is c.pair-2.result _ _ f.b f.b (search rules) c.pair-2.ensures fb fb eb eb in
    let yz = double_is c.double-4.result _ _ f.b f.c (search rules) c.double-4.ensures fb fc eb
    ec in
    let y = double_is c.double-5.result _ _ f.b f.d (search rules) c.double-5.ensures fb fd eb ed in
    let zz = pair_is c.pair-3.result _ _ f.c f.c (search rules) c.pair-3.ensures fc fc ec ec in
    let z = double_is c.double-6.result _ _ f.c f.d (search rules) c.double-6.ensures fc fd ec ed in
    let one = pair_is c.pair-4.result _ _ f.d f.d (search rules) c.pair-4.ensures fd fd ed ed in
    coefficients_are f _ _ _ _ _ _ _ _ _ _ xx xy xz x yy yz y zz z one ∙ sym (sums-one f)

pub invariant_of-result : goal.invariant_of-result
invariant_of-result c =
    subst IsFineQuadric (sym (returns c)) (fine_one c.args.f.now c.a-a.ensures.in_range)
