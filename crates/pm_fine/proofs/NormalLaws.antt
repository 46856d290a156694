-- Normals brought to a length, from their numbers.
use Rattle.std.proofs.Common.{◌≡◌, ℕ, ◌*◌, ◌^◌, ◌<◌, ◌==◌, false, inl, inr, refl, sym, ◌∙◌}
use Rattle.std.proofs.lemmas.Grind.{common_steps}
use Rattle.std.proofs.Common.{arith}
use Rattle.std.specs.Prelude.{ℤ, pos, ◌*ℤ◌}
use Rattle.std.proofs.lemmas.Bool.{cond-true, cond-false, cases_Bool, eqb-true, eq-eqb}
use Rattle.pm_base.specs.Place.{Place}
use Rattle.pm_base.specs.Geometry.{Direction, norm2_of}
use Rattle.pm_fine.specs.Rounded.{near, root}
use Rattle.pm_fine.specs.Normals.{no_direction, scaled, root_length, area_normal_of}
use Rattle.pm_fine.specs.Normals.{product_of, way_of, border_normal_of}

not_none : (q : ℕ) → 0 < q → (q == 0) ≡ false
not_none q h =
    elim (cases_Bool (q == 0)) [ inl e ↦ absurd (omega (arith, eqb-true q 0 e)) | inr e ↦ e ]

scaled_is : (k : ℤ) (r s : ℕ) (n : Direction) (x y z : ℤ) → r ≡ s → x ≡ near (k *ℤ n.x) r
    → y ≡ near (k *ℤ n.y) r → z ≡ near (k *ℤ n.z) r
    → (let d : Direction = record { x = x; y = y; z = z } in d) ≡ scaled k s n
scaled_is k r s n x y z e ex ey ez = rw (ex, ey, ez, e) refl

-- a face without area
pub area_none : (n : Direction) (q : ℕ) → q ≡ norm2_of n → q ≡ 0 → no_direction ≡ area_normal_of n
unfolding area_normal_of
area_none n q is none =
    sym (cond-true (norm2_of n == 0) no_direction (scaled (pos (2 ^ 18)) (root_length n) n)
    (eq-eqb (norm2_of n) 0 (sym is ∙ none)))

pub border_none : (a b : Place) (n : Direction) (q : ℕ) → q ≡ norm2_of n → q ≡ 0
    → no_direction ≡ border_normal_of a b n
unfolding border_normal_of
border_none a b n q is none = grind (arith, common_steps, cond-true, eq-eqb)

-- and one with some
pub area_some : (n : Direction) (q r : ℕ) (x y z : ℤ) → q ≡ norm2_of n → 0 < q
    → r ≡ root (root (q * 2 ^ 48)) → x ≡ near (pos (2 ^ 18) *ℤ n.x) r
    → y ≡ near (pos (2 ^ 18) *ℤ n.y) r → z ≡ near (pos (2 ^ 18) *ℤ n.z) r
    → (let d : Direction = record { x = x; y = y; z = z } in d) ≡ area_normal_of n
unfolding area_normal_of
area_some n q r x y z is some er ex ey ez =
    grind (arith, common_steps, cond-false, not_none, scaled_is)

pub border_some : (a b : Place) (n : Direction) (q r : ℕ) (x y z : ℤ) → q ≡ norm2_of n → 0 < q
    → r ≡ root (q * 2 ^ 24)
    → x ≡ near (pos (11 * 2 ^ 18) *ℤ (product_of (way_of a b) n).x) (2 * r)
    → y ≡ near (pos (11 * 2 ^ 18) *ℤ (product_of (way_of a b) n).y) (2 * r)
    → z ≡ near (pos (11 * 2 ^ 18) *ℤ (product_of (way_of a b) n).z) (2 * r)
    → (let d : Direction = record { x = x; y = y; z = z } in d) ≡ border_normal_of a b n
unfolding border_normal_of
border_some a b n q r x y z is some er ex ey ez =
    grind (arith, common_steps, cond-false, not_none, scaled_is)
