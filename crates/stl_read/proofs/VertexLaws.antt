-- Laws of points and their numbers.
use Rattle.std.proofs.Common.{◌≡◌, ◌≢◌, ℕ, ◌+◌, ◌<◌, ◌≤◌, true, inl, inr, refl, sym, ap}
use Rattle.std.proofs.Common.{◌∙◌, ◌&&◌, Some, None, List, [], ◌∷◌, ◌++◌, length, nat_lt}
use Rattle.std.proofs.Common.{Ok, arith}
use Rattle.std.proofs.lemmas.Bool.{cases_Bool, cases_lt, cond-true, cond-false, cond_both}
use Rattle.std.proofs.lemmas.Bool.{and_parts}
use Rattle.std.proofs.lemmas.Bool.{lt-ltb, le-ltb, ne_eqb, eq-eqb, true≢false}
use Rattle.std.proofs.lemmas.Bool.Decides.{Decides-int_eq}
use Rattle.std.specs.Option.{is_some}
use Rattle.std.specs.Ordering.{int_eq}
use Rattle.pm_base.specs.declared.limits.TheConstants.{MOST_VERTICES}
use Rattle.pm_base.specs.Place.{Place}
use Rattle.stl_read.specs.declared.fault.StlFault.TheVariants as faults
use Rattle.stl_read.specs.Refusals.{refused}
use Rattle.stl_read.specs.Vertices.{is_same, number_of, corner_of}
use Rattle.stl_read.specs.Numbering.{number_if}

pub is_same_is : (p q : Place) → is_same p q ≡ true → p ≡ q
is_same_is p q e =
    let (front, z) = and_parts (int_eq p.x q.x && int_eq p.y q.y) (int_eq p.z q.z) e in
    let (x, y) = and_parts (int_eq p.x q.x) (int_eq p.y q.y) front in
    rw (
      (Decides-int_eq p.x q.x).0 x,
      (Decides-int_eq p.y q.y).0 y,
      (Decides-int_eq p.z q.z).0 z,
    ) refl

pub same_itself : (p : Place) → is_same p p ≡ true
same_itself p =
    rw (
      (Decides-int_eq p.x p.x).1 refl,
      (Decides-int_eq p.y p.y).1 refl,
      (Decides-int_eq p.z p.z).1 refl,
    ) refl

pub number_within : (points : List Place) (p : Place) → number_of points p ≤ length points
number_within [] p = omega arith
number_within (q ∷ qs) p =
    let rest = number_within qs p in
    cond_both (is_same q p) 0 (1 + number_of qs p) (λ (n : ℕ). n ≤ length (q ∷ qs))
    (λ same. omega arith) (λ apart. omega (arith, rest))

-- With one point more.
pub more_old : (points : List Place) (p q : Place) → number_of points q < length points
    → number_of (points ++ p ∷ []) q ≡ number_of points q
more_old [] p q l = absurd (omega arith)
more_old (r ∷ rs) p q l =
    elim (cases_Bool (is_same r q)) [
      | inl same ↦ cond-true (is_same r q) 0 (1 + number_of (rs ++ p ∷ []) q) same
          ∙ sym (cond-true (is_same r q) 0 (1 + number_of rs q) same)
      | inr apart ↦
          let at : number_of (r ∷ rs) q ≡ 1 + number_of rs q =
          cond-false (is_same r q) 0 (1 + number_of rs q) apart in
          let rest = more_old rs p q (omega (arith, at, l)) in
          cond-false (is_same r q) 0 (1 + number_of (rs ++ p ∷ []) q) apart
          ∙ ap (λ (n : ℕ). 1 + n) rest ∙ sym at
    ]

pub more_new : (points : List Place) (p q : Place) → number_of points q ≡ length points
    → number_of (points ++ p ∷ []) q ≡ length points + number_of (p ∷ []) q
more_new [] p q e = omega arith
more_new (r ∷ rs) p q e =
    elim (cases_Bool (is_same r q)) [
      | inl same ↦
          let at : number_of (r ∷ rs) q ≡ 0 =
          cond-true (is_same r q) 0 (1 + number_of rs q) same in
          absurd (omega (arith, at, e))
      | inr apart ↦
          let at : number_of (r ∷ rs) q ≡ 1 + number_of rs q =
          cond-false (is_same r q) 0 (1 + number_of rs q) apart in
          let rest = more_new rs p q (omega (arith, at, e)) in
          let here : number_of (r ∷ (rs ++ p ∷ [])) q ≡ 1 + number_of (rs ++ p ∷ []) q =
          cond-false (is_same r q) 0 (1 + number_of (rs ++ p ∷ []) q) apart in
          omega (arith, here, rest)
    ]

pub number_there : (points : List Place) (p : Place) → number_of points p < length points
    → number_if points p ≡ Some (number_of points p)
number_there points p l = cond-true _ _ _ (lt-ltb _ _ l)

pub number_gone : (points : List Place) (p : Place) → length points ≤ number_of points p
    → number_if points p ≡ None
number_gone points p l = cond-false _ _ _ (le-ltb _ _ l)

pub some_not_none : (v : ℕ) → Some v ≢ None
some_not_none v e = true≢false (ap is_some e)

some_is : (v w : ℕ) → Some v ≡ Some w → v ≡ w
some_is v w e = cc

-- A point that is there.
pub old_number : (points : List Place) (p : Place) (v : ℕ) → number_if points p ≡ Some v
    → (number_of points p ≡ v) × (v < length points)
old_number points p v e =
    elim (cases_lt (number_of points p) (length points)) [
      | inl l ↦
          let is : number_of points p ≡ v =
          some_is (number_of points p) v (sym (number_there points p l) ∙ e) in
          (is, omega (arith, is, l))
      | inr l ↦ absurd (some_not_none v (sym e ∙ number_gone points p l))
    ]

-- A point that isn't.
pub new_number : (points : List Place) (p : Place) → number_if points p ≡ None
    → number_of points p ≡ length points
new_number points p e =
    elim (cases_lt (number_of points p) (length points)) [
      | inl l ↦ absurd (some_not_none (number_of points p) (sym (number_there points p l) ∙ e))
      | inr l ↦ omega (arith, number_within points p, l)
    ]

-- What a corner gives, by the number if there is one.
pub corner_old : (place : ℕ) (points : List Place) (p : Place) (v : ℕ)
    → length points ≤ MOST_VERTICES → number_if points p ≡ Some v
    → corner_of place points p ≡ Ok (record { vertex = v; points = points })
unfolding corner_of
corner_old place points p v few e =
    let there = old_number points p v e in
    let apart : number_of points p ≢ MOST_VERTICES =
    λ full. omega (arith, there.0, there.1, few, full) in
    cond-false _ _ _ (ne_eqb (number_of points p) MOST_VERTICES apart)
    ∙ rw (
      cond-true (nat_lt (number_of points p) (length points)) points (points ++ p ∷ [])
          (lt-ltb _ _ (omega (arith, there.0, there.1))),
      there.0,
    ) refl

pub corner_new : (place : ℕ) (points : List Place) (p : Place)
    → length points < MOST_VERTICES → number_of points p ≡ length points
    → corner_of place points p ≡ Ok (record { vertex = length points; points = points ++ p ∷ [] })
unfolding corner_of
corner_new place points p few new =
    let apart : number_of points p ≢ MOST_VERTICES = λ full. omega (arith, new, few, full) in
    cond-false _ _ _ (ne_eqb (number_of points p) MOST_VERTICES apart)
    ∙ rw (
      cond-false (nat_lt (number_of points p) (length points)) points (points ++ p ∷ [])
          (le-ltb _ _ (omega (arith, new))),
      new,
    ) refl

pub corner_full : (place : ℕ) (points : List Place) (p : Place)
    → length points ≡ MOST_VERTICES → number_of points p ≡ length points
    → corner_of place points p ≡ refused faults.TooManyVertices place
unfolding corner_of
corner_full place points p full new = cond-true _ _ _ (eq-eqb _ _ (new ∙ full))
