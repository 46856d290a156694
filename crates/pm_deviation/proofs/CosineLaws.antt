-- The cosines of nodes: at most 16,384, and falling from a child to its parent.
use Rattle.std.proofs.Common.{◌≡◌, ℕ, zero, suc, ◌+◌, ◌*◌, ◌/◌, ◌<◌, ◌≤◌, max, List, [], ◌∷◌, map}
use Rattle.std.proofs.Common.{Option, None, Some, IfSome, inl, inr, sym, subst, arith}
use Rattle.std.proofs.lemmas.Grind.{common_steps}
use Rattle.std.proofs.Math.Nat.{le_refl, div-mul-le_self, div-zero, max-le}
use Rattle.std.specs.Prelude.{ℤ, pos, negsuc, neg_ℤ, ◌*ℤ◌, ◌≤ℤ◌, unsigned_abs}
use Rattle.std.specs.Option.{option_map}
use Rattle.std.proofs.lemmas.Nat.{mul-le, le-div, div_below}
use Rattle.std.proofs.lemmas.Bool.{cases_lt}
use borrow.Author.Differences.{ints}
use Rattle.pm_base.specs.Geometry.{Direction, dot_of, norm2_of}
use Rattle.pm_base.specs.Rounded.{root_up}
use Rattle.pm_base.proofs.Root.{root_up_is}
use Rattle.pm_base.proofs.Squares.{root_le}
use Rattle.pm_base.proofs.Lengths.{dot_le}
use Rattle.pm_forest.specs.Forest.{Hierarchy, record_count, s_of, t_of, u_of, Makes}
use Rattle.pm_forest.specs.Rules.{HasShape}
use Rattle.pm_bounds.specs.Bounds.{normal_of, faces_under, greatest}
use Rattle.pm_deviation.specs.declared.axes.Axis.{Axis}
use Rattle.pm_deviation.specs.declared.axes.TheConstants.{AXES}
use Rattle.pm_deviation.specs.declared.spread.Spread.{Spread}
use Rattle.pm_deviation.specs.declared.unit_box.UnitBox.{UnitBox}
use Rattle.pm_deviation.specs.Spreads.{joined, join, along}
use Rattle.pm_deviation.specs.Normals.{direction_of, part_along, spread_of, above_zero, length_of}
use Rattle.pm_deviation.specs.Normals.{least_cosine, cosine_by, greatest_cosine, cosine_of}
use Rattle.pm_deviation.specs.Borders.{border_sides_under}
use Rattle.pm_deviation.specs.Lines.{side_way, line_spread_of, line_cosine_of}
use Rattle.pm_deviation.specs.Tables.{AreJoined}
use Rattle.pm_deviation.proofs.Products.{scaled_along, between}
use Rattle.pm_deviation.proofs.PartLaws.{times_neg, neg_falls, parts_of, parts_scaled, high_length}
use Rattle.pm_deviation.proofs.PartLaws.{unit_box_cases}
use Rattle.pm_deviation.proofs.SpreadLaws.{IsOver, over_left, over_right, joined_all-holds}
use Rattle.pm_deviation.proofs.Children.{spread-split, line_spread-split}

-- How much of a spread lies on one side of 0

above_grows : (x y : ℤ) → x ≤ℤ y → above_zero x ≤ above_zero y
above_grows (pos x) (pos y) h = omega (arith, ints)
above_grows (pos x) (negsuc y) h = absurd (omega (arith, ints))
above_grows (negsuc x) y h = omega arith

abbrev pub one_side : Spread → ℕ
one_side s = max (above_zero s.low) (above_zero (neg_ℤ s.high))

max_le : (a b c d : ℕ) → a ≤ c → b ≤ d → max a b ≤ max c d
max_le a b c d p q = omega arith

pub side_falls : (a b : Spread) → IsOver a b → one_side a ≤ one_side b
side_falls a b o = grind (arith, common_steps, above_grows, max_le, neg_falls)

-- It is at most the length of the axis.

-- l x is at most 16,384 times the absolute value of a product, whose square is at most n m, where n
-- is at most l l
squared : (l x v n m : ℕ) → l * x ≤ 16384 * v → v * v ≤ n * m → n ≤ l * l
    → (l * l) * (x * x) ≤ (l * l) * (268435456 * m)
squared l x v n m p q r =
    omega (
      arith,
      mul-le (l * x) (l * x) (16384 * v) (16384 * v) p p,
      q,
      mul-le n (268435456 * m)
          (l * l) (268435456 * m) r (le_refl (268435456 * m)),
    )

cancelled : (k a b : ℕ) → 0 < k → k * a ≤ k * b → a ≤ b
cancelled k a b p h =
    elim (cases_lt b a)
    [ inl l ↦ absurd (omega (arith, mul-le k (1 + b) k a (le_refl k) (omega arith))) | inr l ↦ l ]

some_square : (l n : ℕ) → 0 < n → n ≤ l * l → 0 < l * l
some_square l n p h = omega arith

within_length : (l x v n m : ℕ) → 0 < n → l * x ≤ 16384 * v → v * v ≤ n * m → n ≤ l * l
    → x ≤ root_up (268435456 * m)
within_length l x v n m some p q r =
    root_le x (root_up (268435456 * m))
    (omega (
      arith,
      (root_up_is (268435456 * m)).enough,
      cancelled (l * l) (x * x) (268435456 * m)
          (some_square l n some r) (squared l x v n m p q r),
    ))

pub low_side : (l : ℕ) (x v : ℤ) → (pos l *ℤ x) ≤ℤ (pos 16384 *ℤ v)
    → l * above_zero x ≤ 16384 * unsigned_abs v
low_side l (pos x) (pos v) h = omega (arith, ints)
low_side l (pos x) (negsuc v) h = omega (arith, ints)
low_side l (negsuc x) v h = omega arith

neg_abs : (v : ℤ) → unsigned_abs (neg_ℤ v) ≡ unsigned_abs v
neg_abs v = omega (arith, ints)

pub high_side : (l : ℕ) (x v : ℤ) → (pos 16384 *ℤ v) ≤ℤ (pos l *ℤ x)
    → l * above_zero (neg_ℤ x) ≤ 16384 * unsigned_abs v
high_side l x v h = grind (arith, common_steps, between, low_side, neg_abs, neg_falls, times_neg)

-- No more of a spread lies on one side of 0 than the axis is long.
abbrev pub IsWithinAxis : Axis → Spread → Type 0
IsWithinAxis u s = one_side s ≤ length_of u

joined_within : (u : Axis) (a b : Spread) → IsWithinAxis u a → IsWithinAxis u b
    → IsWithinAxis u (joined a b)
joined_within u a b p q = omega (arith, side_falls (joined a b) a (over_left a b))

along_within : (n : Direction) (u : Axis) → 0 < norm2_of n
    → IsWithinAxis u (along (parts_of n) (direction_of u))
along_within n u some =
    let m = direction_of u in
    let l = root_up (norm2_of n) in
    let i = scaled_along n m l (parts_of n) (parts_scaled n l (high_length (norm2_of n) some)) in
    let v = unsigned_abs (dot_of n m) in
    let far = (root_up_is (norm2_of n)).enough in
    max-le
    (within_length l _ v (norm2_of n) (norm2_of m) some
    (low_side l (along (parts_of n) m).low (dot_of n m) i.low) (dot_le n m) far)
    (within_length l _ v (norm2_of n) (norm2_of m) some
    (high_side l (along (parts_of n) m).high (dot_of n m) i.high) (dot_le n m) far)

part_within : (u : Axis) (n : Direction) → IfSome (part_along u n) (IsWithinAxis u)
part_within u n = elim (unit_box_cases n) [
  | inl none ↦
      subst (λ (o : Option UnitBox). IfSome (option_map (λ b. along b (direction_of u)) o)
      (IsWithinAxis u)) (sym none) tt
  | inr (is, some) ↦
      subst (λ (o : Option UnitBox). IfSome (option_map (λ b. along b (direction_of u)) o)
      (IsWithinAxis u)) (sym is) (along_within n u some)
]

pub spread_within : (h : Hierarchy) (u : Axis) (v : ℕ) → IfSome (spread_of h u v) (IsWithinAxis u)
unfolding spread_of
spread_within h u v =
    joined_all-holds (IsWithinAxis u) (joined_within u) (λ f. part_along u (normal_of h f))
    (λ f. part_within u (normal_of h f)) (faces_under h v)

pub line_spread_within : (h : Hierarchy) (u : Axis) (v : ℕ)
    → IfSome (line_spread_of h u v) (IsWithinAxis u)
unfolding line_spread_of
line_spread_within h u v =
    joined_all-holds (IsWithinAxis u) (joined_within u) (λ e. part_along u (side_way h e))
    (λ e. part_within u (side_way h e)) (border_sides_under h v)

-- Cosines

quotient_grows : (m n k : ℕ) → m ≤ n → m / k ≤ n / k
quotient_grows m n zero h = rw (div-zero m, div-zero n) (le_refl zero)
quotient_grows m n (suc k) h =
    le-div (m / suc k) n (suc k) (omega arith) (omega (arith, div-mul-le_self m (suc k)))

pub quotient_most : (m k : ℕ) → m ≤ k → 16384 * m / k ≤ 16384
quotient_most m zero h = rw (div-zero (16384 * m)) (omega arith)
quotient_most m (suc k) h =
    (let l = div_below (16384 * m) (suc k) 16385 (omega arith) (omega arith) in omega arith)

least_falls : (u : Axis) (a b : Spread) → IsOver a b → least_cosine u a ≤ least_cosine u b
least_falls u a b o =
    quotient_grows (16384 * one_side a) (16384 * one_side b) (length_of u)
    (mul-le 16384 (one_side a) 16384 (one_side b) (le_refl 16384) (side_falls a b o))

pub least_most : (u : Axis) (s : Spread) → IsWithinAxis u s → least_cosine u s ≤ 16384
least_most u s h = quotient_most (one_side s) (length_of u) h

falls_left : (u : Axis) (a b : Option Spread) → IfSome (join a b) (IsWithinAxis u)
    → cosine_by u (join a b) ≤ cosine_by u a
falls_left u None None h = le_refl 16384
falls_left u None (Some b) h = least_most u b h
falls_left u (Some a) None h = le_refl (least_cosine u a)
falls_left u (Some a) (Some b) h = least_falls u (joined a b) a (over_left a b)

falls_right : (u : Axis) (a b : Option Spread) → IfSome (join a b) (IsWithinAxis u)
    → cosine_by u (join a b) ≤ cosine_by u b
falls_right u None b h = le_refl (cosine_by u b)
falls_right u (Some a) None h = least_most u a h
falls_right u (Some a) (Some b) h = least_falls u (joined a b) b (over_right a b)

greatest_grows : {X : Type 0} (f g : X → ℕ) (xs : List X) → ((x : X) → f x ≤ g x)
    → greatest (map f xs) ≤ greatest (map g xs)
greatest_grows f g [] h = le_refl zero
greatest_grows f g (x ∷ xs) h =
    max_le (f x) (greatest (map f xs)) (g x) (greatest (map g xs)) (h x) (greatest_grows f g xs h)

-- where the spreads of a node that is split are those of its children together
module _ (h : Hierarchy) (spread : Axis → ℕ → Option Spread)
    (split : (u : Axis) → AreJoined h (spread u))
    (within : (u : Axis) (v : ℕ) → IfSome (spread u v) (IsWithinAxis u)) (k : ℕ)
    (l : k < record_count h) where
  joined_under : (u : Axis)
      → IfSome (join (spread u (t_of h k)) (spread u (u_of h k))) (IsWithinAxis u)
  joined_under u =
      subst (λ (o : Option Spread). IfSome o (IsWithinAxis u)) (split u k l)
      (within u (s_of h k))

  along_falls : (v : ℕ) → Makes h k v → (u : Axis)
      → cosine_by u (spread u (s_of h k)) ≤ cosine_by u (spread u v)
  along_falls v makes u =
      grind (arith, common_steps, falls_left, falls_right, joined_under u, split u k l)

  greatest_falls : (v : ℕ) → Makes h k v
      → greatest_cosine (λ u. spread u (s_of h k)) ≤ greatest_cosine (λ u. spread u v)
  greatest_falls v makes =
      greatest_grows (λ u. cosine_by u (spread u (s_of h k))) (λ u. cosine_by u (spread u v)) AXES
      (along_falls v makes)

module _ (h : Hierarchy) (shape : HasShape h) (k : ℕ) (l : k < record_count h) where
  pub cosine_falls : (v : ℕ) → Makes h k v → cosine_of h (s_of h k) ≤ cosine_of h v
  unfolding cosine_of
  cosine_falls v makes =
      greatest_falls h (spread_of h) (spread-split h shape) (spread_within h) k l v makes

  pub line_cosine_falls : (v : ℕ) → Makes h k v → line_cosine_of h (s_of h k) ≤ line_cosine_of h v
  unfolding line_cosine_of
  line_cosine_falls v makes =
      greatest_falls h (line_spread_of h) (line_spread-split h shape) (line_spread_within h) k l v
      makes
