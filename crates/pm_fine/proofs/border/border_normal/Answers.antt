use Rattle.std.proofs.Common.{◌≡◌, ◌∙◌, rules, arith, pos, ◌*◌, ◌*ℤ◌, ◌+◌, ◌≤◌, w64, FitsSigned}
use Rattle.std.proofs.Common.{to_z, of_z, unsigned_abs, refl, lit≤}
use Rattle.std.proofs.lemmas.Int.{to_z-of_z}
use Rattle.pm_base.specs.Geometry.{Direction, square_of}
use Rattle.pm_quadric.proofs.Words.{kept_small}
use Rattle.pm_fine.specs.Rounded.{near}
use Rattle.pm_fine.specs.Normals.{product_of, way_of}
use Rattle.pm_fine.proofs.NormalLaws.{border_none, border_some}
use Rattle.pm_fine.proofs.border.border_normal.Goals as goal

pub returns-then-square-eq0-clause-value : goal.returns-then-square-eq0-clause-value
returns-then-square-eq0-clause-value c =
    let n : Direction = record { x = c.args.n.x; y = c.args.n.y; z = c.args.n.z } in
    c.zero.ensures
    ∙ border_none c.args.a c.args.b n c.norm2-square.result c.norm2-square.ensures.value
    (omega arith)

pub minor-requires : goal.minor-requires
minor-requires c = record {
  a_small =
      kept_small c.above-y.result _ _ _ refl c.above-y.ensures.small (lit≤ tt) (lit≤ tt);
  b_small =
      kept_small c.above-z.result _ _ _ refl c.above-z.ensures.small (lit≤ tt) (lit≤ tt);
  c_small = kept_small c.args.n.y _ _ _ refl c.requires.1 (lit≤ tt) (lit≤ tt);
  d_small = kept_small c.args.n.z _ _ _ refl c.requires.2 (lit≤ tt) (lit≤ tt);
}

pub part-requires-clause-m_small : goal.part-requires-clause-m_small
part-requires-clause-m_small c =
    kept_small c.minor.result _ _ _ refl c.minor.ensures.small (lit≤ tt) (lit≤ tt)

pub minor-requires-2 : goal.minor-requires-2
minor-requires-2 c = record {
  a_small =
      kept_small c.above-z.result _ _ _ refl c.above-z.ensures.small (lit≤ tt) (lit≤ tt);
  b_small =
      kept_small c.above-x.result _ _ _ refl c.above-x.ensures.small (lit≤ tt) (lit≤ tt);
  c_small = kept_small c.args.n.z _ _ _ refl c.requires.2 (lit≤ tt) (lit≤ tt);
  d_small = kept_small c.args.n.x _ _ _ refl c.requires.0 (lit≤ tt) (lit≤ tt);
}

pub part-requires-2-clause-m_small : goal.part-requires-2-clause-m_small
part-requires-2-clause-m_small c =
    kept_small c.minor-2.result _ _ _ refl c.minor-2.ensures.small (lit≤ tt) (lit≤ tt)

pub minor-requires-3 : goal.minor-requires-3
minor-requires-3 c = record {
  a_small =
      kept_small c.above-x.result _ _ _ refl c.above-x.ensures.small (lit≤ tt) (lit≤ tt);
  b_small =
      kept_small c.above-y.result _ _ _ refl c.above-y.ensures.small (lit≤ tt) (lit≤ tt);
  c_small = kept_small c.args.n.x _ _ _ refl c.requires.0 (lit≤ tt) (lit≤ tt);
  d_small = kept_small c.args.n.y _ _ _ refl c.requires.1 (lit≤ tt) (lit≤ tt);
}

pub part-requires-3-clause-m_small : goal.part-requires-3-clause-m_small
part-requires-3-clause-m_small c =
    kept_small c.minor-3.result _ _ _ refl c.minor-3.ensures.small (lit≤ tt) (lit≤ tt)

pub returns-clause-value : goal.returns-clause-value
returns-clause-value c =
    let n : Direction = record { x = c.args.n.x; y = c.args.n.y; z = c.args.n.z } in
    let w : Direction = product_of (way_of c.args.a c.args.b) n in
    let d : Direction = record { x = c.part.result; y = c.part-2.result; z = c.part-3.result } in
    let en : c.new.result ≡ d = search rules in
    let ex : c.part.result ≡ near (pos 2883584 *ℤ w.x) (2 * c.fine_length-length.result) =
    search rules in
    let ey : c.part-2.result ≡ near (pos 2883584 *ℤ w.y) (2 * c.fine_length-length.result) =
    search rules in
    let ez : c.part-3.result ≡ near (pos 2883584 *ℤ w.z) (2 * c.fine_length-length.result) =
    search rules in
    en ∙ border_some c.args.a c.args.b n c.norm2-square.result c.fine_length-length.result
    c.part.result c.part-2.result c.part-3.result c.norm2-square.ensures.value (omega arith)
    c.fine_length-length.ensures.value ex ey ez

pub part-requires-clause-reaches : goal.part-requires-clause-reaches
part-requires-clause-reaches c =
    let f : FitsSigned w64 c.minor.result = search rules in
    let fu : FitsSigned w64 c.args.n.y = search rules in
    let fv : FitsSigned w64 c.args.n.z = search rules in
    let h : square_of (unsigned_abs (to_z w64 (of_z w64 c.args.n.y))) + square_of
    (unsigned_abs (to_z w64 (of_z w64 c.args.n.z))) ≤ c.norm2-square.result =
    rw (to_z-of_z w64 c.args.n.y fu, to_z-of_z w64 c.args.n.z fv)
    (omega (arith, c.norm2-square.ensures.value)) in
    simp to_z-of_z
    (c.fine_length-length.ensures.reaches (unsigned_abs c.minor.result)
    (c.minor.ensures.square c.norm2-square.result h))

pub part-requires-2-clause-reaches : goal.part-requires-2-clause-reaches
part-requires-2-clause-reaches c =
    let f : FitsSigned w64 c.minor-2.result = search rules in
    let fu : FitsSigned w64 c.args.n.z = search rules in
    let fv : FitsSigned w64 c.args.n.x = search rules in
    let h : square_of (unsigned_abs (to_z w64 (of_z w64 c.args.n.z))) + square_of
    (unsigned_abs (to_z w64 (of_z w64 c.args.n.x))) ≤ c.norm2-square.result =
    rw (to_z-of_z w64 c.args.n.z fu, to_z-of_z w64 c.args.n.x fv)
    (omega (arith, c.norm2-square.ensures.value)) in
    simp to_z-of_z
    (c.fine_length-length.ensures.reaches (unsigned_abs c.minor-2.result)
    (c.minor-2.ensures.square c.norm2-square.result h))

pub part-requires-3-clause-reaches : goal.part-requires-3-clause-reaches
part-requires-3-clause-reaches c =
    let f : FitsSigned w64 c.minor-3.result = search rules in
    let fu : FitsSigned w64 c.args.n.x = search rules in
    let fv : FitsSigned w64 c.args.n.y = search rules in
    let h : square_of (unsigned_abs (to_z w64 (of_z w64 c.args.n.x))) + square_of
    (unsigned_abs (to_z w64 (of_z w64 c.args.n.y))) ≤ c.norm2-square.result =
    rw (to_z-of_z w64 c.args.n.x fu, to_z-of_z w64 c.args.n.y fv)
    (omega (arith, c.norm2-square.ensures.value)) in
    simp to_z-of_z
    (c.fine_length-length.ensures.reaches (unsigned_abs c.minor-3.result)
    (c.minor-3.ensures.square c.norm2-square.result h))
