-- What the code finds of roots and parts.
use Rattle.std.proofs.Common.{◌≡◌, ℕ, ◌+◌, ◌*◌, ◌<◌, ◌≤◌, min, eqb, true, false, None, Some, inl}
use Rattle.std.proofs.lemmas.Grind.{common_steps}
use Rattle.std.proofs.Common.{inr, refl, sym, ◌∙◌, subst, arith, w32, to_z}
use Rattle.std.specs.Prelude.{ℤ, pos, negsuc, int_lt, unsigned_abs}
use Rattle.std.proofs.lemmas.Nat.{mul-le}
use Rattle.std.proofs.lemmas.Bool.{cases_lt, cond-true, eq-eqb}
use borrow.Author.Differences.{ints}
use Rattle.pm_base.specs.Geometry.{Direction, norm2_of}
use Rattle.pm_base.specs.Rounded.{root_up}
use Rattle.pm_base.proofs.Root.{root_up_is, root_up_only}
use Rattle.pm_base.proofs.Squares.{root_le}
use Rattle.pm_deviation.specs.declared.spread.Spread.{Spread}
use Rattle.pm_deviation.specs.Spreads.{mirrored}
use Rattle.pm_deviation.specs.Normals.{root_down, share, part_of, unit_box}
use Rattle.pm_deviation.proofs.PartLaws.{root_down_is, parts_of, unit_box_some}

-- Roots

root_lt : (x y : ℕ) → x * x < y * y → x < y
root_lt x y h =
    elim (cases_lt x y) [ inl l ↦ l | inr l ↦ absurd (omega (arith, mul-le y y x x l l)) ]

pub root_down_only : (n r : ℕ) → r * r ≤ n → n < (r + 1) * (r + 1) → r ≡ root_down n
root_down_only n r p q =
    let is = root_down_is n in
    omega (arith, is.most r p, root_lt (root_down n) (r + 1) (omega (arith, is.square)))

above_least : (n d m : ℕ) → d * d < n → n ≤ m * m → d + 1 ≤ m
above_least n d m p q = omega (arith, root_lt d m (omega arith))

above_enough : (n d : ℕ) → d ≡ root_down n → n ≤ (d + 1) * (d + 1)
above_enough n d is = grind (arith, common_steps, root_down_is n)

pub root_after : (n d : ℕ) → d ≡ root_down n → d * d < n → d + 1 ≡ root_up n
root_after n d is l = root_up_only n (d + 1) (above_enough n d is) (λ m h. above_least n d m l h)

pub root_same : (n d : ℕ) → d ≡ root_down n → n ≤ d * d → d ≡ root_up n
root_same n d is l = grind (arith, common_steps, root_down_is, root_le, root_up_only)

pub square_same : (a b d : ℕ) → a ≡ d → b ≡ d → a * b ≡ d * d
square_same a b d p q = rw (p, q) refl

-- Parts

pub small_part : (q : ℕ) → q ≤ 16384 → unsigned_abs (to_z w32 q) ≤ 16384
small_part q h = omega (arith, ints)

pub part_below : (k : ℤ) (s t square : ℕ) (size m : Spread) → int_lt k (pos 0) ≡ true
    → size ≡ share (unsigned_abs k) s t → m ≡ mirrored size →
    s ≡ root_down square → t ≡ root_up square → m ≡ part_of k square
unfolding part_of
part_below (pos k) s t square size m below size_is m_is s_is t_is =
    absurd (omega (arith, ints, below))
part_below (negsuc k) s t square size m below size_is m_is s_is t_is = grind (arith, common_steps)

pub part_above : (k : ℤ) (s t square : ℕ) (size : Spread) → int_lt k (pos 0) ≡ false
    → size ≡ share (unsigned_abs k) s t →
    s ≡ root_down square → t ≡ root_up square → size ≡ part_of k square
unfolding part_of
part_above (pos k) s t square size above size_is s_is t_is = size_is ∙ (rw (s_is, t_is) refl)
part_above (negsuc k) s t square size above size_is s_is t_is = absurd (omega (arith, ints, above))

-- Boxes

pub x_below : (n : Direction) (q r : ℕ) (z : ℤ) → q ≡ norm2_of n → r ≡ root_down q → z ≡ n.x
    → unsigned_abs z ≤ r
x_below n q r z square root is = grind (arith, common_steps, root_down_is q)

pub y_below : (n : Direction) (q r : ℕ) (z : ℤ) → q ≡ norm2_of n → r ≡ root_down q → z ≡ n.y
    → unsigned_abs z ≤ r
y_below n q r z square root is = grind (arith, common_steps, root_down_is q)

pub z_below : (n : Direction) (q r : ℕ) (z : ℤ) → q ≡ norm2_of n → r ≡ root_down q → z ≡ n.z
    → unsigned_abs z ≤ r
z_below n q r z square root is = grind (arith, common_steps, root_down_is q)

pub no_box : (n : Direction) (q : ℕ) → q ≡ norm2_of n → q ≡ 0 → None ≡ unit_box n
unfolding unit_box
no_box n q square none =
    sym (cond-true (eqb (norm2_of n) 0) None (Some (parts_of n))
    (eq-eqb (norm2_of n) 0 (sym square ∙ none)))

pub box_there : (n : Direction) (q : ℕ) (x y z : Spread) → q ≡ norm2_of n → 0 < q
    → x ≡ part_of n.x q → y ≡ part_of n.y q → z ≡ part_of n.z q →
    Some (record { x = x; y = y; z = z }) ≡ unit_box n
box_there n q x y z square some x_is y_is z_is =
    (rw (x_is, y_is, z_is, square) refl)
    ∙ sym (unit_box_some n (subst (λ (m : ℕ). 0 < m) square some))

-- The lesser of a root and a number, by the number's square.
pub min_by_square : (n m : ℕ) → m * m ≤ n → min (root_up n) m ≡ m
min_by_square n m h =
    let r = root_up_is n in
    let below : m ≤ root_up n = elim (cases_lt (root_up n) m) [
      | inl l ↦ (let square =
          mul-le (root_up n + 1) (root_up n + 1) m m (omega arith) (omega arith) in
          let e = r.enough in
          absurd (omega arith))
      | inr l ↦ l
    ] in
    omega arith

pub min_by_root : (n m : ℕ) → n < m * m → min (root_up n) m ≡ root_up n
min_by_root n m h = let low = (root_up_is n).least m (omega arith) in omega arith

-- A number whose square is no greater than the squared length of a way is no longer than it.
pub square_small : (n m : ℕ) → n ≤ 12884115468 → m * m ≤ n → m ≤ 113509
square_small n m small h = elim (cases_lt 113509 m) [
  | inl l ↦ (let square = mul-le 113510 113510 m m (omega arith) (omega arith) in
      absurd (omega arith))
  | inr l ↦ l
]
