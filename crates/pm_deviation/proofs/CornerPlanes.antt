-- A face's corners lie in its plane, and what a way from there goes along the normal.
use Rattle.std.proofs.Common.{◌≡◌, ℕ, ◌*◌, ◌<◌, ◌≤◌, max, min, inl, inr, sym, subst, arith}
use Rattle.std.proofs.lemmas.Grind.{common_steps}
use Rattle.std.specs.Prelude.{ℤ, pos, ◌+ℤ◌, ◌-ℤ◌, ◌*ℤ◌, unsigned_abs}
use Rattle.std.proofs.lemmas.Bool.{cases_eq}
use Rattle.pm_base.specs.Place.{Place}
use Rattle.pm_base.specs.Geometry.{Direction, dot_of, norm2_of, cross_of}
use Rattle.pm_base.specs.Rounded.{distance_of}
use Rattle.pm_base.specs.Sides.{face_of}
use Rattle.pm_base.proofs.Lengths.{dot_le}
use Rattle.pm_base.proofs.Ring.{diff-of, diff_same, add-diff, mul-diff, neg-diff, pos_is_diff}
use Rattle.pm_forest.specs.Forest.{Hierarchy}
use Rattle.pm_forest.specs.Faces.{corners_of, from_leaf}
use Rattle.pm_forest.specs.Meshes.{leaf_place}
use Rattle.pm_forest.proofs.Corners.{which_corner, corner_a, corner_b, corner_c}
use Rattle.pm_bounds.proofs.Covering.{near}
use Rattle.pm_deviation.specs.declared.unit_box.UnitBox.{UnitBox}
use Rattle.pm_deviation.specs.Spreads.{along, most_of, most_along}
use Rattle.pm_deviation.specs.Normals.{root_down}
use Rattle.pm_deviation.specs.Lines.{way}
use Rattle.pm_deviation.specs.Farthest.{way_along}
use Rattle.pm_deviation.specs.Laws.{value_of, IsWithin}
use Rattle.pm_deviation.proofs.PartLaws.{root_down_is, ceil_enough}
use Rattle.pm_deviation.proofs.PlaneValues.{within_way, within_box}
use Rattle.pm_deviation.proofs.Products.{IsScaledInBox}

-- A face's corners lie in its plane.

nowhere : (x y z a b c : ℤ) → a *ℤ (x -ℤ x) +ℤ b *ℤ (y -ℤ y) +ℤ c *ℤ (z -ℤ z) ≡ pos 0
nowhere x y z a b c =
    rw (diff-of x, diff-of y, diff-of z, diff-of a, diff-of b, diff-of c, pos_is_diff 0)
    (simp (add-diff, neg-diff, mul-diff) (diff_same _ _ _ _ (omega arith)))

along_first : (px py pz qx qy qz : ℤ) →
    (py *ℤ qz -ℤ pz *ℤ qy) *ℤ px +ℤ (pz *ℤ qx -ℤ px *ℤ qz) *ℤ py +ℤ (px *ℤ qy -ℤ py *ℤ qx) *ℤ pz
    ≡ pos 0
along_first px py pz qx qy qz =
    rw (diff-of px, diff-of py, diff-of pz, diff-of qx, diff-of qy, diff-of qz, pos_is_diff 0)
    (simp (add-diff, neg-diff, mul-diff) (diff_same _ _ _ _ (omega arith)))

along_second : (px py pz qx qy qz : ℤ) →
    (py *ℤ qz -ℤ pz *ℤ qy) *ℤ qx +ℤ (pz *ℤ qx -ℤ px *ℤ qz) *ℤ qy +ℤ (px *ℤ qy -ℤ py *ℤ qx) *ℤ qz
    ≡ pos 0
along_second px py pz qx qy qz =
    rw (diff-of px, diff-of py, diff-of pz, diff-of qx, diff-of qy, diff-of qz, pos_is_diff 0)
    (simp (add-diff, neg-diff, mul-diff) (diff_same _ _ _ _ (omega arith)))

at_a : (a b c : Place) → dot_of (cross_of a b c) (way a a) ≡ pos 0
at_a a b c = nowhere a.x a.y a.z (cross_of a b c).x (cross_of a b c).y (cross_of a b c).z

at_b : (a b c : Place) → dot_of (cross_of a b c) (way b a) ≡ pos 0
at_b a b c =
    along_first (b.x -ℤ a.x) (b.y -ℤ a.y) (b.z -ℤ a.z) (c.x -ℤ a.x) (c.y -ℤ a.y) (c.z -ℤ a.z)

at_c : (a b c : Place) → dot_of (cross_of a b c) (way c a) ≡ pos 0
at_c a b c =
    along_second (b.x -ℤ a.x) (b.y -ℤ a.y) (b.z -ℤ a.z) (c.x -ℤ a.x) (c.y -ℤ a.y) (c.z -ℤ a.z)

pub on_plane : (h : Hierarchy) (e : ℕ)
    → value_of h (corners_of h (face_of e)) (leaf_place h (from_leaf h e)) ≡ pos 0
on_plane h e =
    grind (arith, common_steps, at_a, at_b, at_c, corner_a, corner_b, corner_c, which_corner)

nothing : (d n : ℕ) → 0 * 0 ≤ d * d * n
nothing d n = omega arith

pub zero_within : (v : ℤ) (n d : ℕ) → v ≡ pos 0 → IsWithin v n d
zero_within v n d is = subst (λ (z : ℤ). IsWithin z n d) (sym is) (nothing d n)

within_min : (v : ℤ) (n a b : ℕ) → IsWithin v n a → IsWithin v n b → IsWithin v n (min a b)
within_min v n a b p q = grind (arith, common_steps)

pub max_first : (a b m e : ℕ) → max a b ≤ e * m → a ≤ m * e
max_first a b m e h = omega arith

pub max_second : (a b m e : ℕ) → max a b ≤ e * m → b ≤ m * e
max_second a b m e h = omega arith

pub no_normal : (v m e n : ℕ) → v * v ≤ n * m → n ≡ 0 → v * v ≤ e * e * n
no_normal v m e n h is =
    subst (λ k. v * v ≤ e * e * k) (sym is) (omega (arith, subst (λ k. v * v ≤ k * m) is h))

-- A box of a face's normals in parts of their lengths, where they have lengths.
abbrev pub HasNormal : Direction → UnitBox → Type 0
HasNormal normal b =
    0 < norm2_of normal → IsScaledInBox normal (root_down (norm2_of normal)) b

by_box : (normal move : Direction) (b : UnitBox) → HasNormal normal b
    → IsWithin (dot_of normal move) (norm2_of normal) (most_along b move)
by_box normal move b has =
    let square = norm2_of normal in
    let d = most_along b move in
    let enough = ceil_enough (most_of (along b move)) 16384 (omega arith) in
    elim (cases_eq square 0) [
      | inl is ↦ no_normal (unsigned_abs (dot_of normal move)) (norm2_of move) d square
          (dot_le normal move) is
      | inr differs ↦
          within_box normal move (root_down square) square d b (has (omega (arith, differs)))
          (root_down_is square).square (max_first _ _ 16384 d enough)
          (max_second _ _ 16384 d enough)
    ]

pub by_way : (normal : Direction) (p q : Place) (b : UnitBox) → HasNormal normal b
    → IsWithin (dot_of normal (way p q)) (norm2_of normal) (way_along b p q)
by_way normal p q b has =
    within_min (dot_of normal (way p q)) (norm2_of normal) (distance_of p q)
    (most_along b (way p q)) (within_way normal (way p q) (distance_of p q) (near p q))
    (by_box normal (way p q) b has)
