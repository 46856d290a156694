-- Sums of integers, counts in a patch, and determinants of turned faces.
use Rattle.std.proofs.Common.{◌≡◌, ◌≢◌, ℕ, zero, suc, ◌*◌, ◌<◌, ◌≤◌, ◌^◌, refl, sym, ap}
use Rattle.std.proofs.lemmas.Grind.{common_steps}
use Rattle.std.proofs.Common.{◌∙◌, Bool, true, false, ◌&&◌, arith}
use Rattle.std.specs.Prelude.{ℤ, pos, negsuc, neg_ℤ, ◌+ℤ◌, ◌-ℤ◌, ◌*ℤ◌, ◌==◌, unsigned_abs}
use Rattle.std.specs.Prelude.{if◌then◌else◌}
use Rattle.std.proofs.Math.IntN.{*ℤ_comm, *ℤ-zero, *ℤ-negsuc, neg_ℤ-neg_ℤ}
use Rattle.std.proofs.lemmas.Bool.{cond-true, cond-false, eq-eqb, ne_eqb}
use borrow.Author.Differences.{ints}
use Rattle.pm_base.specs.Place.{Place}
use Rattle.pm_base.specs.Geometry.{Direction, IsNormal, dot_of, cross_of}
use Rattle.pm_base.specs.Counts.{count}
use Rattle.pm_base.proofs.Counted.{count_none, count_some}
use Rattle.pm_base.proofs.Squares.{abs_plus}
use Rattle.pm_base.proofs.Range.{abs_product}
use Rattle.pm_turn.specs.Choice.{total, determinant_of}
use Rattle.pm_turn.specs.ChoiceLaws.{UnitTetrahedronFacesOut}

pub total-zero : (g : ℕ → ℤ) → total g zero ≡ pos 0
unfolding total
total-zero g = refl

pub total-suc : (g : ℕ → ℤ) (n : ℕ) → total g (suc n) ≡ g n +ℤ total g n
unfolding total
total-suc g n = refl

pub total_same : (g h : ℕ → ℤ) (n : ℕ) → ((i : ℕ) → i < n → g i ≡ h i) → total g n ≡ total h n
total_same g h zero e = total-zero g ∙ sym (total-zero h)
total_same g h (suc n) e = grind (arith, common_steps, total-suc, total_same g h n)

-- The sum of the opposites.
pub total_opposite : (g h : ℕ → ℤ) (n : ℕ) → ((i : ℕ) → i < n → h i ≡ neg_ℤ (g i))
    → total h n ≡ neg_ℤ (total g n)
total_opposite g h zero e = grind (arith, common_steps, total-zero)
total_opposite g h (suc n) e =
    let a = total-suc g n in
    let b = total-suc h n in
    let c = e n (omega arith) in
    let d = total_opposite g h n (λ i l. e i (omega (arith, l))) in
    omega (arith, ints, a, b, c, d)

pub total_small : (g : ℕ → ℤ) (b n : ℕ) → ((i : ℕ) → unsigned_abs (g i) ≤ b)
    → unsigned_abs (total g n) ≤ n * b
total_small g b zero e = let a : unsigned_abs (total g zero) ≡ 0 =
    ap unsigned_abs (total-zero g) in omega (arith, a)
total_small g b (suc n) e = grind (arith, common_steps, abs_plus, total-suc, total_small g b n e)

-- Tests of the faces of one patch.
pub in_patch : (root : ℕ → ℕ) (r f : ℕ) (b : Bool) → root f ≡ r → ((root f == r) && b) ≡ b
in_patch root r f b is = ap (λ (t : Bool). t && b) (eq-eqb (root f) r is)

pub out_of_patch : (root : ℕ → ℕ) (r f : ℕ) (b : Bool) → root f ≢ r → ((root f == r) && b) ≡ false
out_of_patch root r f b ne = ap (λ (t : Bool). t && b) (ne_eqb (root f) r ne)

pub patch_none : (root : ℕ → ℕ) (r n : ℕ) (p : ℕ → Bool)
    → ((f : ℕ) → f < n → root f ≡ r → p f ≡ false) → count (λ f. (root f == r) && p f) n ≡ 0
patch_none root r n p h = grind (arith, common_steps, count_none, in_patch, out_of_patch)

pub patch_some : (root : ℕ → ℕ) (r n : ℕ) (p : ℕ → Bool) (f : ℕ) → f < n → root f ≡ r → p f ≡ true
    → 0 < count (λ f. (root f == r) && p f) n
patch_some root r n p f l is e =
    count_some (λ f. (root f == r) && p f) n f l (in_patch root r f (p f) is ∙ e)

-- Volumes of the faces of one patch.
pub patch_total : (root : ℕ → ℕ) (r n : ℕ) (g h : ℕ → ℤ)
    → ((f : ℕ) → f < n → root f ≡ r → g f ≡ h f)
    → total (λ f. if root f == r then g f else pos 0) n ≡ total (λ f. if root f == r then h f
    else pos 0) n
patch_total root r n g h e =
    grind (arith, common_steps, cond-false, cond-true, eq-eqb, ne_eqb, total_same)

pub patch_opposite : (root : ℕ → ℕ) (r n : ℕ) (g h : ℕ → ℤ)
    → ((f : ℕ) → f < n → root f ≡ r → h f ≡ neg_ℤ (g f))
    → total (λ f. if root f == r then h f else pos 0) n
    ≡ neg_ℤ (total (λ f. if root f == r then g f else pos 0) n)
patch_opposite root r n g h e =
    grind (arith, common_steps, cond-false, cond-true, eq-eqb, ne_eqb, total_opposite)

-- Determinants.
minor_back : (p q r s : ℤ) → r *ℤ q -ℤ s *ℤ p ≡ neg_ℤ (p *ℤ s -ℤ q *ℤ r)
minor_back p q r s =
    let a = *ℤ_comm r q in
    let b = *ℤ_comm s p in
    omega (arith, ints, a, b)

times_opposite : (x y : ℤ) → x *ℤ neg_ℤ y ≡ neg_ℤ (x *ℤ y)
times_opposite x (pos zero) = *ℤ-zero x ∙ ap neg_ℤ (sym (*ℤ-zero x))
times_opposite x (pos (suc n)) = *ℤ-negsuc x n
times_opposite x (negsuc n) = sym (neg_ℤ-neg_ℤ (x *ℤ pos (suc n))) ∙ ap neg_ℤ (sym (*ℤ-negsuc x n))

opposite_sum : (x y z u v w : ℤ) → u ≡ neg_ℤ x → v ≡ neg_ℤ y → w ≡ neg_ℤ z
    → u +ℤ v +ℤ w ≡ neg_ℤ (x +ℤ y +ℤ z)
opposite_sum x y z u v w a b c = omega (arith, ints, a, b, c)

-- A face that is turned has the opposite determinant.
pub determinant_turned : (a b c : Place) → determinant_of a c b ≡ neg_ℤ (determinant_of a b c)
unfolding determinant_of
determinant_turned a b c =
    let n : Direction = cross_of a b c in
    let k : Direction = cross_of a c b in
    let x : k.x ≡ neg_ℤ n.x = minor_back (b.y -ℤ a.y) (b.z -ℤ a.z) (c.y -ℤ a.y) (c.z -ℤ a.z) in
    let y : k.y ≡ neg_ℤ n.y = minor_back (b.z -ℤ a.z) (b.x -ℤ a.x) (c.z -ℤ a.z) (c.x -ℤ a.x) in
    let z : k.z ≡ neg_ℤ n.z = minor_back (b.x -ℤ a.x) (b.y -ℤ a.y) (c.x -ℤ a.x) (c.y -ℤ a.y) in
    let dx : a.x *ℤ k.x ≡ neg_ℤ (a.x *ℤ n.x) =
    ap (λ (t : ℤ). a.x *ℤ t) x ∙ times_opposite a.x n.x in
    let dy : a.y *ℤ k.y ≡ neg_ℤ (a.y *ℤ n.y) =
    ap (λ (t : ℤ). a.y *ℤ t) y ∙ times_opposite a.y n.y in
    let dz : a.z *ℤ k.z ≡ neg_ℤ (a.z *ℤ n.z) =
    ap (λ (t : ℤ). a.z *ℤ t) z ∙ times_opposite a.z n.z in
    opposite_sum (a.x *ℤ n.x) (a.y *ℤ n.y) (a.z *ℤ n.z) (a.x *ℤ k.x) (a.y *ℤ k.y) (a.z *ℤ k.z) dx dy
    dz

pub dot_small : (x y z : ℤ) (n : Direction) → unsigned_abs x ≤ 32767 → unsigned_abs y ≤ 32767
    → unsigned_abs z ≤ 32767 → IsNormal n
    → unsigned_abs (dot_of (record { x = x; y = y; z = z }) n) ≤ 2 ^ 51
dot_small x y z n p q r s = grind (arith, common_steps, abs_plus, abs_product)

-- One worked row.
pub unit_tetrahedron_faces_out : UnitTetrahedronFacesOut
unfolding total determinant_of
unit_tetrahedron_faces_out = refl
