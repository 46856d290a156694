-- Two faces of three different corners are alike where they have the same key.
use Rattle.std.proofs.Common.{◌≡◌, ℕ, ◌+◌, ◌*◌, ◌<◌, ◌≤◌, true, false, ◌⊎◌, inl, inr, sym}
use Rattle.std.proofs.lemmas.Grind.{common_steps}
use Rattle.std.proofs.Common.{◌∙◌, subst, arith}
use Rattle.std.proofs.lemmas.Bool.Decides.{nat_tests}
use Rattle.std.specs.Prelude.{◌==◌}
use Rattle.std.specs.Ordering.{nat_cmp, is_eq}
use Rattle.std.proofs.lemmas.Bool.{cases_Bool, and_parts, true≢false, eq-eqb, ne_eqb}
use Rattle.std.proofs.lemmas.Nat.{div-mul-add}
use Rattle.pm_base.specs.declared.mesh.Corners.{Corners}
use Rattle.pm_fans.specs.Kept.{is_flat, is_corner, is_alike}
use Rattle.pm_fans.specs.Keys.{least_corner, middle_corner, greatest_corner, corners_key_of}
use Rattle.pm_fans.specs.Keys.{HasShortCorners, IsProperFace}
use Rattle.pm_fans.proofs.Turned.{Turned, not_flat, HasAll, turned_has, turned_alike, which}

-- The corners in ascending order, and that they are those of the face.
record IsOrdered (f : Corners) (x y z : ℕ) : Type 0 where
  first : x < y
  last : y < z
  are : Turned f x y z ⊎ Turned f x z y

ordered : (f : Corners) → is_flat f ≡ false
    → IsOrdered f (least_corner f) (middle_corner f) (greatest_corner f)
ordered f flat = grind (arith, common_steps, not_flat)

ordered_has : (f : Corners) (x y z : ℕ) → IsOrdered f x y z → HasAll f x y z
ordered_has f x y z o = elim o.are [
  | inl t ↦ turned_has f x y z t
  | inr t ↦ (let h = turned_has f x z y t in record { one = h.one; two = h.three; three = h.two })
]

-- Faces with the same three corners are alike.
same_alike : (f g : Corners) (x y z : ℕ) → IsOrdered f x y z → IsOrdered g x y z
    → is_alike f g ≡ true
same_alike f g x y z o p =
    let h = ordered_has f x y z o in
    elim p.are [
      | inl t ↦ turned_alike f g x y z h t
      | inr t ↦ turned_alike f g x z y (record { one = h.one; two = h.three; three = h.two }) t
    ]

-- A number is one of three.
abbrev OneOf : ℕ → ℕ → ℕ → ℕ → Type 0
OneOf x y z w = (x ≡ w) ⊎ ((y ≡ w) ⊎ (z ≡ w))

ordered_one : (f : Corners) (x y z w : ℕ) → IsOrdered f x y z → is_corner f w ≡ true → OneOf x y z w
ordered_one f x y z w o h = elim o.are [
  | inl t ↦ which f w x y z t h
  | inr t ↦ (elim (which f w x z y t h) [
    | inl e ↦ inl e
    | inr k ↦
        elim k [ inl e ↦ inr (inr e) | inr e ↦ inr (inl e) ]
  ])
]

within : (x y z w : ℕ) → x < y → y < z → OneOf x y z w → (x ≤ w) × (w ≤ z)
within x y z w xy yz (inl e) = (omega arith, omega arith)
within x y z w xy yz (inr (inl e)) = (omega arith, omega arith)
within x y z w xy yz (inr (inr e)) = (omega arith, omega arith)

-- Three ascending numbers out of three ascending ones are these.
same_three : (x y z p q r : ℕ) → x < y → y < z → p < q → q < r → OneOf x y z p → OneOf x y z q
    → OneOf x y z r → (x ≡ p) × (y ≡ q) × (z ≡ r)
same_three x y z p q r xy yz pq qr ip iq ir =
    grind (arith, common_steps, within x y z p xy yz ip, within x y z r xy yz ir)

all_corners : (f g : Corners) (x y z : ℕ) → is_alike f g ≡ true → Turned g x y z → HasAll f x y z
unfolding is_alike
all_corners f g x y z e t =
    let (ab, c) = and_parts _ (is_corner f g.c) e in
    let (a, b) = and_parts (is_corner f g.a) (is_corner f g.b) ab in
    let at = λ (i j : ℕ) (s : i ≡ j) (h : is_corner f i ≡ true). subst (λ n. is_corner f n ≡ true) s
    h in
    elim t [
      | inl u ↦ record { one = at _ _ u.a a; two = at _ _ u.b b; three = at _ _ u.c c }
      | inr v ↦ elim v [
        | inl u ↦ record { one = at _ _ u.b b; two = at _ _ u.c c; three = at _ _ u.a a }
        | inr u ↦ record { one = at _ _ u.c c; two = at _ _ u.a a; three = at _ _ u.b b }
      ]
    ]

alike_same : (f g : Corners) (x y z p q r : ℕ) → IsOrdered f x y z → IsOrdered g p q r
    → is_alike f g ≡ true → (x ≡ p) × (y ≡ q) × (z ≡ r)
alike_same f g x y z p q r o s e =
    let h : HasAll f p q r = elim s.are [
      | inl t ↦ all_corners f g p q r e t
      | inr t ↦ (let h =
          all_corners f g p r q e t in record { one = h.one; two = h.three; three = h.two })
    ] in
    same_three x y z p q r o.first o.last s.first s.last (ordered_one f x y z p o h.one)
    (ordered_one f x y z q o h.two) (ordered_one f x y z r o h.three)

-- Three digits are known from their number.
digits : (x y z p q r : ℕ) → y < 4294967296 → z < 4294967296 → q < 4294967296 → r < 4294967296
    → (x * 4294967296 + y) * 4294967296 + z ≡ (p * 4294967296 + q) * 4294967296 + r
    → (x ≡ p) × (y ≡ q) × (z ≡ r)
digits x y z p q r yl zl ql rl e = grind (arith, common_steps, div-mul-add)

same_key : (f g : Corners) → HasShortCorners f → HasShortCorners g
    → corners_key_of f ≡ corners_key_of g → (least_corner f ≡ least_corner g)
    × (middle_corner f ≡ middle_corner g) × (greatest_corner f ≡ greatest_corner g)
unfolding corners_key_of
same_key f g s t e =
    let fa = s.a in
    let fb = s.b in
    let fc = s.c in
    let ga = t.a in
    let gb = t.b in
    let gc = t.c in
    digits (least_corner f) (middle_corner f) (greatest_corner f) (least_corner g) (middle_corner g)
    (greatest_corner g) (omega arith) (omega arith) (omega arith) (omega arith) e

key_from : (f g : Corners) → (least_corner f ≡ least_corner g) × (middle_corner f ≡ middle_corner g)
    × (greatest_corner f ≡ greatest_corner g) → corners_key_of g ≡ corners_key_of f
unfolding corners_key_of
key_from f g e = grind (arith, common_steps)

pub equal_is : (x y : ℕ) → is_eq (nat_cmp x y) ≡ (x == y)
equal_is x y = grind (arith, nat_tests)

one_alike : (f g : Corners) → IsProperFace f → IsProperFace g → corners_key_of f ≡ corners_key_of g
    → is_alike f g ≡ true
one_alike f g p q e =
    let is = same_key f g p.short q.short e in
    let s = ordered g q.flat in
    let there = subst (λ x. IsOrdered g x (middle_corner g) (greatest_corner g)) (sym is.0) s in
    let then = subst (λ y. IsOrdered g (least_corner f) y (greatest_corner g)) (sym is.1) there in
    same_alike f g _ _ _ (ordered f p.flat)
    (subst (λ z. IsOrdered g (least_corner f) (middle_corner f) z) (sym is.2) then)

-- Of faces with three different corners: they are alike where they have one key.
pub alike_key : (f g : Corners) → IsProperFace f → IsProperFace g
    → is_eq (nat_cmp (corners_key_of g) (corners_key_of f)) ≡ is_alike f g
alike_key f g p q =
    let o = ordered f p.flat in
    let s = ordered g q.flat in
    equal_is (corners_key_of g) (corners_key_of f) ∙ elim (cases_Bool (is_alike f g)) [
      | inl t ↦ eq-eqb _ _ (key_from f g (alike_same f g _ _ _ _ _ _ o s t)) ∙ sym t
      | inr n ↦ ne_eqb _ _ (λ e. true≢false (sym (one_alike f g p q (sym e)) ∙ n)) ∙ sym n
    ]
