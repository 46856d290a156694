-- How great sums over faces are, and where a pair is put by those at each of its ends.
use Rattle.std.proofs.Common.{◌≡◌, ℕ, ◌+◌, ◌*◌, ◌^◌, ◌<◌, ◌≤◌, ◌==◌, Bool, true, false, cond, not}
use Rattle.std.proofs.Common.{None, Some, List, refl, sym, ap, ◌∙◌, subst, arith, lit≤}
use Rattle.std.specs.Prelude.{◌+ℤ◌, ◌*ℤ◌, ◌&&◌, nat_le, unsigned_abs}
use Rattle.std.specs.List.{filter}
use Rattle.std.proofs.Math.Nat.{le_trans}
use Rattle.std.proofs.lemmas.Bool.{cond-true, cond-false, eq-eqb, ne_eqb, not-true, not-false}
use Rattle.pm_base.specs.Place.{Place, is_place}
use Rattle.pm_base.specs.Geometry.{Direction, IsNormal, cross_of, dot_of, dist2_of, norm2_of}
use Rattle.pm_base.proofs.Range.{abs_product}
use Rattle.pm_base.proofs.Squares.{abs_plus}
use Rattle.pm_runs.specs.Surfaces.{Surface, place_at}
use Rattle.pm_fine.specs.Normals.{IsWithin, way_of}
use Rattle.pm_fine_costs.specs.declared.corner.Corner.{Corner}
use Rattle.pm_fine_costs.specs.declared.face_sum.FaceSum.{FaceSum}
use Rattle.pm_fine_costs.specs.Corners.{corners_round}
use Rattle.pm_fine_costs.specs.Volumes.{no_faces, plus_faces, total_of, face_of, face_at, face_but}
use Rattle.pm_fine_costs.specs.Volumes.{has_other, corners_at_ends, normal_of, moved_by, is_near}
use Rattle.pm_fine_costs.specs.Volumes.{volume_place, IsSmall}
use Rattle.pm_fine_costs.proofs.FaceTotals.{total-append, total-filter, total-same}

pub small_zero : (n : ℕ) → IsSmall n no_faces
small_zero n = record { x = omega arith; y = omega arith; z = omega arith; volume = omega arith }

pub small_plus :
    (n k : ℕ) (f g : FaceSum) → IsSmall n f → IsSmall k g → IsSmall (n + k) (plus_faces f g)
small_plus n k f g h j = record {
  x = omega (arith, abs_plus f.x g.x, h.x, j.x);
  y = omega (arith, abs_plus f.y g.y, h.y, j.y);
  z = omega (arith, abs_plus f.z g.z, h.z, j.z);
  volume = omega (arith, abs_plus f.volume g.volume, h.volume, j.volume);
}

pub small_more : (n k : ℕ) (f : FaceSum) → n ≤ k → IsSmall n f → IsSmall k f
small_more n k f l h = record {
  x = omega (arith, l, h.x);
  y = omega (arith, l, h.y);
  z = omega (arith, l, h.z);
  volume = omega (arith, l, h.volume);
}

dot_small : (m n : Direction) → IsNormal m → IsWithin 65534 n → unsigned_abs (dot_of m n) ≤ 3 * 2
    ^ 49
dot_small m n h w =
    let a = abs_product m.x n.x 8589410312 65534 h.0 w.0 in
    let b = abs_product m.y n.y 8589410312 65534 h.1 w.1 in
    let c = abs_product m.z n.z 8589410312 65534 h.2 w.2 in
    let ab = abs_plus (m.x *ℤ n.x) (m.y *ℤ n.y) in
    omega (arith, a, b, c, ab, abs_plus (m.x *ℤ n.x +ℤ m.y *ℤ n.y) (m.z *ℤ n.z))

pub face_small :
    (k : Corner) (p : Place) → IsNormal (cross_of k.at k.next k.last) →
    IsWithin 65534 (way_of k.at p) → IsSmall 1 (face_of k p)
face_small k p n w = record {
  x = le_trans n.0 (lit≤ tt);
  y = le_trans n.1 (lit≤ tt);
  z = le_trans n.2 (lit≤ tt);
  volume = dot_small (cross_of k.at k.next k.last) (way_of k.at p) n w;
}

module _ (s : Surface) (a b : ℕ) (p : Place) where
  abbrev all : FaceSum
  all = total_of (face_at s p) (corners_at_ends s a b)

  taken_in :
      (e : ℕ) → not (has_other s a e) ≡ true → face_but s (Some a) p e ≡ face_at s p e
  taken_in e t =
      cond-false (has_other s a e) no_faces (face_at s p e) (not-true (has_other s a e) t)

  left_out :
      (e : ℕ) → not (has_other s a e) ≡ false → face_but s (Some a) p e ≡ no_faces
  left_out e t =
      cond-true (has_other s a e) no_faces (face_at s p e) (not-false (has_other s a e) t)

  -- The faces at both ends.
  pub ends_sum :
      plus_faces (total_of (face_but s None p) (corners_round s a))
      (total_of (face_but s (Some a) p) (corners_round s b)) ≡ all
  ends_sum =
      let rest : List ℕ = filter (λ e. not (has_other s a e)) (corners_round s b) in
      ap (λ (g : FaceSum). plus_faces g
      (total_of (face_but s (Some a) p) (corners_round s b)))
      (total-same (face_but s None p) (face_at s p) (λ e. refl) (corners_round s a))
      ∙ ap (plus_faces (total_of (face_at s p) (corners_round s a)))
      (sym (total-filter (face_at s p) (face_but s (Some a) p) (λ e. not (has_other s a e))
      taken_in left_out (corners_round s b)))
      ∙ sym (total-append (face_at s p) (corners_round s a) rest)

  module _ (f : FaceSum) (is : f ≡ all) (norm2 : ℕ) (norm : norm2 ≡ norm2_of (normal_of f)) where
    abbrev wanted : Place
    wanted = moved_by all p

    abbrev length2 : ℕ
    length2 = dist2_of (place_at s a) (place_at s b)

    abbrev by_norm : ℕ → Place
    by_norm n = cond (n == 0) p (cond (is_near length2 p wanted) wanted p)

    put_is : by_norm norm2 ≡ volume_place s a b p
    unfolding volume_place
    put_is = ap by_norm (norm ∙ ap (λ (g : FaceSum). norm2_of (normal_of g)) is)

    -- Without a normal the pair stays.
    pub put_none : norm2 ≡ 0 → p ≡ volume_place s a b p
    put_none zero = sym (cond-true (norm2 == 0) p _ (eq-eqb norm2 0 zero)) ∙ put_is

    moved_is : 0 < norm2 → cond (is_near length2 p wanted) wanted p ≡ volume_place s a b p
    moved_is some =
        sym (cond-false (norm2 == 0) p _ (ne_eqb norm2 0 (λ z. absurd (omega (arith, some, z)))))
        ∙ put_is

    -- A place out of range isn't taken.
    pub put_out : 0 < norm2 → is_place (moved_by f p) ≡ false → p ≡ volume_place s a b p
    put_out some out =
        let off : is_place wanted ≡ false =
        subst (λ (g : FaceSum). is_place (moved_by g p) ≡ false) is out in
        let far : is_near length2 p wanted ≡ false =
        ap (λ (t : Bool). t && nat_le (dist2_of wanted p) (4 * length2)) off in
        sym (cond-false (is_near length2 p wanted) wanted p far) ∙ moved_is some

    pub put_in :
        (q r : Place) → 0 < norm2 → q ≡ moved_by f p → is_place (moved_by f p) ≡ true →
        r ≡ cond (nat_le (dist2_of q p) (4 * length2)) q p → r ≡ volume_place s a b p
    put_in q r some at within e =
        let there : q ≡ wanted = at ∙ ap (λ (g : FaceSum). moved_by g p) is in
        let on : is_place wanted ≡ true =
        subst (λ (g : FaceSum). is_place (moved_by g p) ≡ true) is within in
        let near : is_near length2 p wanted ≡ nat_le (dist2_of wanted p) (4 * length2) =
        ap (λ (t : Bool). t && nat_le (dist2_of wanted p) (4 * length2)) on in
        e
        ∙ ap (λ (k : Place). cond (nat_le (dist2_of k p) (4 * length2)) k p) there
        ∙ ap (λ (t : Bool). cond t wanted p) (sym near) ∙ moved_is some
