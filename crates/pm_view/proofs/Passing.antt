-- The tests pass from a child to its parent, and each test that fails says why.
use Rattle.std.proofs.Common.{◌≡◌, ℕ, ◌+◌, ◌*◌, ◌<◌, ◌≤◌, true, false, ◌&&◌, ◌||◌, Bool, not, List}
use Rattle.std.proofs.Common.{[], ◌∷◌, ◌⊎◌, inl, inr, refl, suc, sym, ap, ◌∙◌, arith}
use Rattle.std.proofs.lemmas.Grind.{common_steps}
use Rattle.std.proofs.Math.Nat.{le_refl, lt_of_lt_of_le}
use Rattle.std.specs.Prelude.{ℤ, pos, ◌≤ℤ◌, ◌<ℤ◌, int_lt, int_le}
use Rattle.std.proofs.lemmas.Nat.{mul-le}
use Rattle.std.proofs.lemmas.Bool.{cases_lt, and_parts, and_from, and_cases, or_cases, or_parts}
use Rattle.std.proofs.lemmas.Bool.{or_left, or_right, not-true, not-false, not_from_false, lt-ltb}
use Rattle.std.proofs.lemmas.Bool.{ltb-true, ltb-false, false≢true}
use Rattle.pm_base.specs.Place.{Place}
use Rattle.pm_base.specs.Geometry.{Direction, dot_of, dist2_of}
use Rattle.pm_view.specs.declared.measure.Measure.{Measure}
use Rattle.pm_view.specs.declared.measure.Measure.TheVariants as measures
use Rattle.pm_view.specs.declared.plane.Plane.{Plane}
use Rattle.pm_view.specs.Views.{View}
use Rattle.pm_view.specs.Wanted.{Bounded, value_at, is_outside, is_outside_any, least_facing}
use Rattle.pm_view.specs.Wanted.{greatest_facing, may_turn_away, size_of, looks_larger, looks_large}
use Rattle.pm_view.specs.Wanted.{is_large, sees_both, may_be_seen, passes}
use Rattle.pm_view.specs.Laws.{way}
use Rattle.pm_view.proofs.Premises.{IsChild, IsCorner, IsBehindOne, FacesAway, FacesTo, LooksWithin}
use Rattle.pm_view.proofs.Premises.{LooksTiny}
use borrow.Author.Differences.{ints}
use Rattle.pm_bounds.proofs.ListLaws.{≤ℤ_by}
use Rattle.pm_view.proofs.Outside.{Outside, outside_within}
use Rattle.pm_view.proofs.FacingLaws.{facing_child, facing_corner}
use Rattle.pm_view.proofs.OutlineLaws.{turning_child, turning_corner}
use Rattle.pm_view.proofs.Large.{scaled}

-- integer tests
less : (a b : ℤ) → int_lt a b ≡ true → a <ℤ b
less a b e = omega (arith, ints)

is_less : (a b : ℤ) → a <ℤ b → int_lt a b ≡ true
is_less a b h = sym (omega (arith, ints))

at_most : (a b : ℤ) → int_le a b ≡ true → a ≤ℤ b
at_most a b e = omega (arith, ints)

above : (a b : ℤ) → int_le a b ≡ false → b <ℤ a
above a b e = omega (arith, ints)

is_at_most : (a b : ℤ) → a ≤ℤ b → int_le a b ≡ true
is_at_most a b h = sym (omega (arith, ints))

-- planes
outside_from : (f : Plane) (p : Place) (r : ℕ) → is_outside f p r ≡ true → Outside f p r
outside_from f p r e = grind (arith, common_steps, and_parts, less, ltb-true)

outside_to : (f : Plane) (p : Place) (r : ℕ) → Outside f p r → is_outside f p r ≡ true
outside_to f p r h = and_from _ _ (is_less _ _ h.negative) (lt-ltb _ _ h.far)

pub outside_any_within : (fs : List Plane) (p q : Place) (r s d : ℕ) → dist2_of p q ≤ d * d
    → s + d ≤ r → is_outside_any fs p r ≡ true → is_outside_any fs q s ≡ true
outside_any_within [] p q r s d near le e = e
outside_any_within (f ∷ fs) p q r s d near le e =
    elim (or_cases (is_outside f p r) (is_outside_any fs p r) e) [
      | inl h ↦ or_left (is_outside f q s) (is_outside_any fs q s)
          (outside_to f q s (outside_within f p q r s d (outside_from f p r h) near le))
      | inr h ↦ or_right (is_outside f q s) (is_outside_any fs q s)
          (outside_any_within fs p q r s d near le h)
    ]

behind : (f : Plane) (b : Bounded) → Outside f b.place b.radius → (n : Direction) (q : Place)
    → IsCorner b n q → value_at f q <ℤ pos 0
behind f b h n q k =
    (outside_within f b.place q b.radius 0 b.radius h k.near (omega arith)).negative

first_behind : (f : Plane) (fs : List Plane) (b : Bounded)
    → ((n : Direction) (q : Place) → IsCorner b n q → value_at f q <ℤ pos 0)
    → IsBehindOne (f ∷ fs) b
first_behind f fs b h = (f, (0, omega arith, refl), h)

later_behind : (f : Plane) (fs : List Plane) (b : Bounded) → IsBehindOne fs b
    → IsBehindOne (f ∷ fs) b
later_behind f fs b (g, (k, l, is), h) = (g, (suc k, omega arith, is), h)

pub behind_one : (fs : List Plane) (b : Bounded) → is_outside_any fs b.place b.radius ≡ true
    → IsBehindOne fs b
behind_one [] b e = absurd (false≢true e)
behind_one (f ∷ fs) b e =
    elim (or_cases (is_outside f b.place b.radius) (is_outside_any fs b.place b.radius) e) [
      | inl h ↦ first_behind f fs b (behind f b (outside_from f b.place b.radius h))
      | inr h ↦ later_behind f fs b (behind_one fs b h)
    ]

-- facing
<ℤ_by : (x y z : ℤ) → x <ℤ y → y ≤ℤ z → x <ℤ z
<ℤ_by x y z p q = omega (arith, ints)

pub turned_away : (b : Bounded) (eye : Place) → int_le (least_facing b eye) (pos 0) ≡ false
    → FacesAway b eye
turned_away b eye e n q k =
    <ℤ_by (pos 0) (least_facing b eye) (dot_of n (way q eye)) (above (least_facing b eye) (pos 0) e)
    (facing_corner b n q eye k)

pub facing_passes : (child parent : Bounded) (eye : Place) → IsChild child parent
    → int_le (least_facing child eye) (pos 0) ≡ true → int_le (least_facing parent eye) (pos 0)
    ≡ true
facing_passes s b eye h e =
    is_at_most (least_facing b eye) (pos 0)
    (≤ℤ_by (least_facing b eye) (least_facing s eye) (pos 0) (facing_child s b eye h)
    (at_most (least_facing s eye) (pos 0) e))

-- both sides of a child's faces are seen where those of its parent are
sides_pass : (child parent : Bounded) (m : Measure) → IsChild child parent
    → sees_both m child ≡ sees_both m parent
sides_pass s b measures.Error h = refl
sides_pass s b measures.Deviation h = h.two_sided

pub seen_passes : (child parent : Bounded) (v : View) → IsChild child parent
    → may_be_seen child v ≡ true → may_be_seen parent v ≡ true
seen_passes s b v h e =
    elim (or_cases (sees_both v.measure s) (int_le (least_facing s v.eye) (pos 0)) e) [
      | inl both ↦ or_left (sees_both v.measure b) (int_le (least_facing b v.eye) (pos 0))
          (sym (sides_pass s b v.measure h) ∙ both)
      | inr front ↦ or_right (sees_both v.measure b) (int_le (least_facing b v.eye) (pos 0))
          (facing_passes s b v.eye h front)
    ]

-- size
-- (e f + t r + t d) is at most (e' f + t r'), with e at most e' and r + d at most r'
grown : (e r d f t e' r' : ℕ) → e ≤ e' → r + d ≤ r' → t * d + (e * f + t * r) ≤ e' * f + t * r'
grown e r d f t e' r' p q =
    omega (arith, mul-le e f e' f p (le_refl f), mul-le t (r + d) t r' (le_refl t) q)

at_most_more : (a d b : ℕ) → a + d ≤ b → a ≤ b
at_most_more a d b h = omega arith

-- by whichever number a node is judged, its parent's is no less
size_grows : (child parent : Bounded) (m : Measure) → IsChild child parent
    → size_of m child ≤ size_of m parent
size_grows s b measures.Error h = at_most_more s.error h.d b.error h.error
size_grows s b measures.Deviation h = h.deviation

near_times : (t n d : ℕ) → n ≤ d * d → t * t * n ≤ (t * d) * (t * d)
near_times t n d h = omega (arith, mul-le (t * t) n (t * t) (d * d) (le_refl (t * t)) h)

-- a size in the child's ball, and one that is no less in the parent's
sizes_pass : (child parent : Bounded) (v : View) (tol m n : ℕ) → IsChild child parent → m ≤ n
    → looks_larger m child.place child.radius v tol ≡ true
    → looks_larger n parent.place parent.radius v tol ≡ true
unfolding looks_larger
sizes_pass s b v tol m n h le e =
    let l = ltb-true (tol * tol * dist2_of s.place v.eye)
    ((m * v.focal + tol * s.radius) * (m * v.focal + tol * s.radius)) e in
    let near = near_times tol (dist2_of b.place s.place) h.d h.near in
    let w = scaled b.place s.place v.eye tol (tol * h.d) (m * v.focal + tol * s.radius) near l in
    let g = grown m s.radius h.d v.focal tol n b.radius le h.radius in
    lt-ltb (tol * tol * dist2_of b.place v.eye)
    ((n * v.focal + tol * b.radius) * (n * v.focal + tol * b.radius))
    (lt_of_lt_of_le w (mul-le _ _ _ _ g g))

pub looks_large_passes : (child parent : Bounded) (v : View) (tol : ℕ) → IsChild child parent
    → looks_large child v tol ≡ true → looks_large parent v tol ≡ true
looks_large_passes s b v tol h e =
    sizes_pass s b v tol (size_of v.measure s) (size_of v.measure b) h (size_grows s b v.measure h)
    e

pub turning_passes : (child parent : Bounded) (eye : Place) → IsChild child parent
    → may_turn_away child eye ≡ true → may_turn_away parent eye ≡ true
turning_passes s b eye h e =
    is_at_most (pos 0) (greatest_facing b eye)
    (≤ℤ_by (pos 0) (greatest_facing s eye) (greatest_facing b eye)
    (at_most (pos 0) (greatest_facing s eye) e) (turning_child s b eye h))

pub large_passes : (child parent : Bounded) (v : View) → IsChild child parent
    → is_large child v ≡ true → is_large parent v ≡ true
unfolding is_large
large_passes s b v h e =
    elim (or_cases (looks_large s v v.tol) (may_turn_away s v.eye && looks_large s v v.sil) e) [
      | inl l ↦ or_left (looks_large b v v.tol) (may_turn_away b v.eye && looks_large b v v.sil)
          (looks_large_passes s b v v.tol h l)
      | inr two ↦
          let parts = and_parts (may_turn_away s v.eye) (looks_large s v v.sil) two in
          or_right (looks_large b v v.tol) (may_turn_away b v.eye && looks_large b v v.sil)
          (and_from (may_turn_away b v.eye) (looks_large b v v.sil)
          (turning_passes s b v.eye h parts.0) (looks_large_passes s b v v.sil h parts.1))
    ]

-- f f n is at most e e f f
pub focal_times : (f n e : ℕ) → n ≤ e * e → f * f * n ≤ (e * f) * (e * f)
focal_times f n e h = omega (arith, mul-le (f * f) n (f * f) (e * e) (le_refl (f * f)) h)

turned : (f t r e : ℕ) → (t * r + e * f) * (t * r + e * f) ≡ (e * f + t * r) * (e * f + t * r)
turned f t r e = omega arith

clash : (a b c : ℕ) → a < b → b ≡ c → c ≤ a → ⊥
clash a b c p q r = omega arith

-- a size that looks no larger than a tolerance, seen by way of a place within the radius
size_within : (size : ℕ) (b : Bounded) (v : View) (tol : ℕ)
    → looks_larger size b.place b.radius v tol ≡ false
    → (q : Place) → dist2_of b.place q ≤ b.radius * b.radius
    → (size * v.focal) * (size * v.focal) ≤ tol * tol * dist2_of q v.eye
unfolding looks_larger
size_within size b v tol e q near =
    let l = ltb-false (tol * tol * dist2_of b.place v.eye)
    ((size * v.focal + tol * b.radius) * (size * v.focal + tol * b.radius)) e in
    let near = near_times tol (dist2_of b.place q) b.radius near in
    elim (cases_lt (tol * tol * dist2_of q v.eye) ((size * v.focal) * (size * v.focal))) [
      | inl h ↦ absurd
          (clash _ _ _ (scaled b.place q v.eye tol (tol * b.radius) (size * v.focal) near h)
          (turned v.focal tol b.radius size) l)
      | inr h ↦ h
    ]

pub within : (b : Bounded) (v : View) (tol : ℕ) → looks_large b v tol ≡ false → LooksWithin b v tol
within b v tol e n q k = size_within (size_of v.measure b) b v tol e q k.near

<ℤ_from : (x y z : ℤ) → x ≤ℤ y → y <ℤ z → x <ℤ z
<ℤ_from x y z p q = omega (arith, ints)

pub turned_to : (b : Bounded) (eye : Place) → may_turn_away b eye ≡ false → FacesTo b eye
turned_to b eye e n q k =
    <ℤ_from (dot_of n (way q eye)) (greatest_facing b eye) (pos 0) (turning_corner b n q eye k)
    (above (pos 0) (greatest_facing b eye) e)

pub tiny : (b : Bounded) (v : View) → is_large b v ≡ false → LooksTiny b v
unfolding is_large
tiny b v e =
    let parts = or_parts (looks_large b v v.tol) (may_turn_away b v.eye && looks_large b v v.sil)
    e in
    elim (and_cases (may_turn_away b v.eye) (looks_large b v v.sil) parts.1) [
      | inl to ↦ (within b v v.tol parts.0, inr (turned_to b v.eye to))
      | inr fine ↦ (within b v v.tol parts.0, inl (within b v v.sil fine))
    ]

-- where both tolerances are one, the outline makes no difference
absorbed : (p q : Bool) → (p || (q && p)) ≡ p
absorbed p q = grind (arith, common_steps)

pub plain : (b : Bounded) (v : View) → v.sil ≡ v.tol → is_large b v ≡ looks_large b v v.tol
unfolding is_large
plain b v same =
    ap (λ (s : ℕ). looks_large b v v.tol || (may_turn_away b v.eye && looks_large b v s)) same
    ∙ absorbed (looks_large b v v.tol) (may_turn_away b v.eye)

-- size first, and of each tolerance what is left to ask
pub asked_in_turn : (o b f t w s : Bool)
    → ((t || s) && not o && ((t && b) || ((b || f) && (t || w))))
    ≡ (not o && (b || f) && (t || (w && s)))
asked_in_turn o b f t w s = grind (arith, common_steps)

-- all three
pub wanted_passes : (child parent : Bounded) (v : View) → IsChild child parent
    → passes child v ≡ true → passes parent v ≡ true
wanted_passes s b v h e =
    grind (
      arith,
      common_steps,
      and_from,
      and_parts,
      not-true,
      not_from_false,
      outside_any_within,
      seen_passes s b,
      large_passes s b,
    )

-- The view sees no more than one side of the node's faces.
abbrev pub SeesOneSide : Bounded → View → Type 0
SeesOneSide b v = sees_both v.measure b ≡ false

pub reasons : (b : Bounded) (v : View) → passes b v ≡ false → IsBehindOne v.planes b
    ⊎ ((FacesAway b v.eye × SeesOneSide b v) ⊎ LooksTiny b v)
reasons b v e =
    elim (and_cases (not (is_outside_any v.planes b.place b.radius) && may_be_seen b v)
    (is_large b v) e) [
      | inl h ↦ elim
          (and_cases (not (is_outside_any v.planes b.place b.radius)) (may_be_seen b v) h) [
            | inl k ↦ inl (behind_one v.planes b (not-false _ k))
            | inr k ↦
                let parts = or_parts (sees_both v.measure b) (int_le (least_facing b v.eye) (pos 0))
                k in
                inr (inl (turned_away b v.eye parts.1, parts.0))
          ]
      | inr h ↦ inr (inr (tiny b v h))
    ]
