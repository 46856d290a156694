-- Axes: their numbers, their lengths, and how small parts along them are.
use Rattle.std.proofs.Common.{◌≡◌, ℕ, zero, suc, ◌+◌, ◌*◌, ◌/◌, ◌<◌, ◌≤◌, Bool, true, ◌-◌, List, []}
use Rattle.std.proofs.Common.{◌∷◌, map, length, get_or, inl, inr, refl, sym, ap, ◌∙◌, subst, arith}
use Rattle.std.proofs.lemmas.Grind.{common_steps}
use Rattle.std.specs.Prelude.{ℤ, pos, negsuc, neg_ℤ, unwrap_or, Option, None, Some, IfSome, ◌+ℤ◌}
use Rattle.std.specs.Prelude.{◌*ℤ◌, unsigned_abs}
use Rattle.std.specs.Int.{div_ceil}
use Rattle.std.specs.List.{list_all, filter}
use Rattle.std.specs.Option.{option_map}
use Rattle.std.proofs.lemmas.Bool.{and_parts, cases_Bool, leb-true}
use Rattle.std.proofs.lemmas.Nat.{mul-le}
use borrow.Author.Differences.{ints}
use Rattle.pm_base.specs.Geometry.{Direction, norm2_of}
use Rattle.pm_base.specs.Rounded.{root_up}
use Rattle.pm_base.proofs.Range.{abs_product}
use Rattle.pm_base.proofs.Root.{root_up_only}
use Rattle.pm_forest.specs.Forest.{Hierarchy}
use Rattle.pm_bounds.specs.Bounds.{normal_of, faces_under, has_corner_under}
use Rattle.pm_deviation.specs.declared.axes.Axis.{Axis}
use Rattle.pm_deviation.specs.declared.axes.TheConstants.{AXES}
use Rattle.pm_deviation.specs.declared.heading.Heading.{Heading}
use Rattle.pm_deviation.specs.declared.spread.Spread.{Spread}
use Rattle.pm_deviation.specs.declared.unit_box.UnitBox.{UnitBox}
use Rattle.pm_deviation.specs.Spreads.{times, along, mirrored, no_spread, joined_all}
use Rattle.pm_deviation.specs.Normals.{root_down, share, part_of, direction_of, part_along}
use Rattle.pm_deviation.specs.Normals.{spread_of, x_axis, y_axis, z_axis, unit_box_of, length_of}
use Rattle.pm_deviation.specs.Normals.{box_by}
use Rattle.pm_deviation.specs.Borders.{border_sides_under}
use Rattle.pm_deviation.specs.Lines.{side_way, line_spread_of, line_box_of}
use Rattle.pm_deviation.specs.Tables.{IsSpreadWithin, IsPart, IsSum, IsUnitBox, is_axis, leaves_of}
use Rattle.pm_deviation.specs.Tables.{no_heading, heading_along, spread_among, AreHeadings}
use Rattle.pm_bounds.proofs.BoxLaws.{min_small, max_small}
use Rattle.pm_deviation.proofs.SpreadLaws.{joined-small, join-holds, joined_all-holds}
use Rattle.pm_deviation.proofs.CosineLaws.{quotient_most}
use Rattle.pm_deviation.proofs.PartLaws.{ceil_least, root_down_is, root_down-some, roots_order}
use Rattle.pm_deviation.proofs.PartLaws.{parts_of, unit_box_cases}

-- The numbers of an axis.
pub record IsAxis (u : Axis) : Type 0 where
  pub x : unsigned_abs u.x ≤ 1
  pub y : unsigned_abs u.y ≤ 1
  pub z : unsigned_abs u.z ≤ 1
  pub some : 1 ≤ norm2_of (direction_of u)

pub axis_is : (u : Axis) → is_axis u ≡ true → IsAxis u
axis_is u e = grind (arith, common_steps, and_parts, leb-true)

all_at : {X : Type 0} (p : X → Bool) (xs : List X) (i : ℕ) (d : X) → list_all p xs ≡ true
    → i < length xs → p (get_or xs i d) ≡ true
all_at p [] i d e l = absurd (omega arith)
all_at p (x ∷ xs) zero d e l = (and_parts (p x) (list_all p xs) e).0
all_at p (x ∷ xs) (suc i) d e l =
    all_at p xs i d (and_parts (p x) (list_all p xs) e).1 (omega arith)

all_axes : list_all is_axis AXES ≡ true
all_axes = refl

pub axis_at : (i : ℕ) (d : Axis) → i < length AXES → is_axis (get_or AXES i d) ≡ true
axis_at i d l = all_at is_axis AXES i d all_axes l

-- Lengths

-- a number of an axis is its own square
own_square : (n : ℕ) → n ≤ 1 → n * n ≡ n
own_square zero h = refl
own_square (suc zero) h = refl
own_square (suc (suc n)) h = absurd (omega arith)

pub ones_are : (u : Axis) → IsAxis u
    → norm2_of (direction_of u) ≡ unsigned_abs u.x + unsigned_abs u.y + unsigned_abs u.z
ones_are u is = grind (arith, common_steps, own_square)

least_of : (n r m : ℕ) → n ≤ m * m → (r - 1) * (r - 1) < n → r ≤ m
least_of n r m h l = grind (arith, common_steps, mul-le)

pub length_is : (u : Axis) (n r : ℕ) → norm2_of (direction_of u) ≡ n → 268435456 * n ≤ r * r
    → (r - 1) * (r - 1) < 268435456 * n → r ≡ length_of u
length_is u n r is enough least =
    root_up_only (268435456 * n) r enough (λ m h. least_of (268435456 * n) r m h least)
    ∙ ap (λ k. root_up (268435456 * k)) (sym is)

-- Parts along an axis

times_small : (s : Spread) (k : ℤ) (m : ℕ) → IsSpreadWithin m s → unsigned_abs k ≤ 1
    → IsSpreadWithin m (times s k)
times_small s k m small one =
    let low : unsigned_abs (s.low *ℤ k) ≤ m = omega (arith, abs_product s.low k m 1 small.0 one) in
    let high : unsigned_abs (s.high *ℤ k) ≤ m =
    omega (arith, abs_product s.high k m 1 small.1 one) in (
      min_small (s.low *ℤ k) (s.high *ℤ k) m low high,
      max_small (s.low *ℤ k) (s.high *ℤ k) m low
          high,
    )

pub part_in_sum : (s : Spread) → IsPart s → IsSum s
part_in_sum s small = (omega (arith, small.0), omega (arith, small.1))

pub one_small : (k : ℤ) → unsigned_abs k ≤ 1 → unsigned_abs k ≤ 65534
one_small k one = omega arith

sum_small : (a b c : ℤ) → unsigned_abs a ≤ 16384 → unsigned_abs b ≤ 16384 → unsigned_abs c ≤ 16384
    → unsigned_abs (a +ℤ b +ℤ c) ≤ 49152
sum_small a b c p q r = omega (arith, ints)

pub along_small : (b : UnitBox) (u : Axis) → IsUnitBox b → is_axis u ≡ true
    → IsSum (along b (direction_of u))
unfolding along
along_small b u small axis =
    let is = axis_is u axis in
    let x = times_small b.x u.x 16384 small.0 is.x in
    let y = times_small b.y u.y 16384 small.1 is.y in
    let z = times_small b.z u.z 16384 small.2 is.z in (
      sum_small (times b.x u.x).low (times b.y u.y).low (times b.z u.z).low x.0 y.0 z.0,
      sum_small (times b.x u.x).high (times b.y u.y).high (times b.z u.z).high x.1 y.1 z.1,
    )

-- Parts of any normal are no longer than it.
share_small : (n s t : ℕ) → 0 < s → n ≤ s → s ≤ t → (16384 * n / t ≤ 16384)
    × (div_ceil (16384 * n) s ≤ 16384)
share_small n s t some part order =
    (quotient_most n t (omega arith), ceil_least (16384 * n) s 16384 some (omega arith))

neg_small : (z : ℤ) (m : ℕ) → unsigned_abs z ≤ m → unsigned_abs (neg_ℤ z) ≤ m
neg_small z m h = omega (arith, ints)

mirrored_small : (s : Spread) (m : ℕ) → IsSpreadWithin m s → IsSpreadWithin m (mirrored s)
mirrored_small s m small = (neg_small s.high m small.1, neg_small s.low m small.0)

pos_small : (n m : ℕ) → n ≤ m → unsigned_abs (pos n) ≤ m
pos_small n m h = omega arith

part_small : (k : ℤ) (n : ℕ) → 0 < n → unsigned_abs k ≤ root_down n → IsPart (part_of k n)
unfolding part_of
part_small (pos k) n some below =
    let both = share_small k (root_down n) (root_up n) (root_down-some n some) below
    (roots_order n) in (
      pos_small (16384 * k / root_up n) 16384 both.0,
      pos_small (div_ceil (16384 * k) (root_down n))
          16384 both.1,
    )
part_small (negsuc k) n some below =
    let both = share_small (k + 1) (root_down n) (root_up n) (root_down-some n some)
    (omega (arith, below)) (roots_order n) in
    mirrored_small (share (k + 1) (root_down n) (root_up n)) 16384 (
      pos_small (16384 * (k + 1) / root_up n) 16384 both.0,
      pos_small (div_ceil (16384 * (k + 1)) (root_down n)) 16384 both.1,
    )

first_square : (a b c : ℕ) → a * a ≤ a * a + b * b + c * c
first_square a b c = omega arith

second_square : (a b c : ℕ) → b * b ≤ a * a + b * b + c * c
second_square a b c = omega arith

third_square : (a b c : ℕ) → c * c ≤ a * a + b * b + c * c
third_square a b c = omega arith

parts_small : (n : Direction) → 0 < norm2_of n → IsUnitBox (parts_of n)
parts_small n some =
    let most = (root_down_is (norm2_of n)).most in (
      part_small n.x (norm2_of n) some
          (most (unsigned_abs n.x)
          (first_square (unsigned_abs n.x) (unsigned_abs n.y) (unsigned_abs n.z))),
      part_small n.y (norm2_of n) some
          (most (unsigned_abs n.y)
          (second_square (unsigned_abs n.x) (unsigned_abs n.y) (unsigned_abs n.z))),
      part_small n.z (norm2_of n) some
          (most (unsigned_abs n.z)
          (third_square (unsigned_abs n.x) (unsigned_abs n.y) (unsigned_abs n.z))),
    )

part_along_small : (u : Axis) (n : Direction) → is_axis u ≡ true → IfSome (part_along u n) IsSum
part_along_small u n axis =
    let small = λ (o : Option UnitBox). IfSome (option_map (λ b. along b (direction_of u)) o)
    IsSum in
    elim (unit_box_cases n) [
      | inl none ↦ subst small (sym none) tt
      | inr (is, some) ↦ subst small (sym is) (along_small (parts_of n) u (parts_small n some) axis)
    ]

pub spread_small : (h : Hierarchy) (u : Axis) (v : ℕ) → is_axis u ≡ true
    → IfSome (spread_of h u v) IsSum
unfolding spread_of
spread_small h u v axis =
    joined_all-holds IsSum (joined-small 49152) (λ f. part_along u (normal_of h f))
    (λ f. part_along_small u (normal_of h f) axis) (faces_under h v)

pub line_spread_small : (h : Hierarchy) (u : Axis) (v : ℕ) → is_axis u ≡ true
    → IfSome (line_spread_of h u v) IsSum
unfolding line_spread_of
line_spread_small h u v axis =
    joined_all-holds IsSum (joined-small 49152) (λ e. part_along u (side_way h e))
    (λ e. part_along_small u (side_way h e) axis) (border_sides_under h v)

-- of headings that are small
by_parts : (u : Axis) (o : Option UnitBox) → IfSome o IsUnitBox → is_axis u ≡ true
    → IfSome (option_map (λ b. along b (direction_of u)) o) IsSum
by_parts u None small axis = tt
by_parts u (Some b) small axis = along_small b u small axis

heading_small : (u : Axis) (d : Heading) → IfSome d.parts IsUnitBox → is_axis u ≡ true
    → IfSome (heading_along u d) IsSum
heading_small u d small axis = by_parts u d.parts small axis

none_small : IsSum no_spread
none_small = (omega arith, omega arith)

under_small : (o : Option Spread) → IfSome o IsSum → IsSum (unwrap_or o no_spread)
under_small None small = none_small
under_small (Some s) small = small

-- A box whose parts are small.
abbrev pub IsSumBox : UnitBox → Type 0
IsSumBox b = IsSum b.x × IsSum b.y × IsSum b.z

box_by_small : (spread : Axis → Option Spread)
    → ((u : Axis) → is_axis u ≡ true → IfSome (spread u) IsSum) → IsSumBox (box_by spread)
box_by_small spread small = (
  under_small (spread x_axis) (small x_axis refl),
  under_small (spread y_axis) (small y_axis refl),
  under_small (spread z_axis) (small z_axis refl),
)

pub box_small : (h : Hierarchy) (v : ℕ) → IsSumBox (unit_box_of h v)
box_small h v = box_by_small (λ u. spread_of h u v) (λ u axis. spread_small h u v axis)

pub line_box_small : (h : Hierarchy) (v : ℕ) → IsSumBox (line_box_of h v)
line_box_small h v =
    box_by_small (λ u. line_spread_of h u v) (λ u axis. line_spread_small h u v axis)

-- The spreads of headings are small.
filtered_small : (u : Axis) (p : Heading → Bool) (ds : List Heading) → is_axis u ≡ true
    → ((i : ℕ) → i < length ds → IfSome (get_or ds i no_heading).parts IsUnitBox)
    → IfSome (joined_all (map (heading_along u) (filter p ds))) IsSum
filtered_small u p [] axis small = tt
filtered_small u p (d ∷ ds) axis small =
    let rest = filtered_small u p ds axis (λ i l. small (suc i) (omega arith)) in
    elim (cases_Bool (p d)) [
      | inl e ↦ (rw e (join-holds IsSum (joined-small 49152) (heading_along u d)
          (joined_all (map (heading_along u) (filter p ds)))
          (heading_small u d (small zero (omega arith)) axis) rest))
      | inr e ↦ (rw e rest)
    ]

pub among_small : (h : Hierarchy) (ds : List Heading) (u : Axis) (v : ℕ) → AreHeadings h ds
    → is_axis u ≡ true → IfSome (spread_among h ds u v) IsSum
unfolding spread_among
among_small h ds u v are axis =
    filtered_small u (λ d. has_corner_under h v (leaves_of d)) ds axis (λ i l. (are i l).small)
