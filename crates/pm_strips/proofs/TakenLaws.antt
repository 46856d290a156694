-- Each free face is in one strip, once, and no other face is.
use Rattle.std.proofs.Common.{◌≡◌, ◌≢◌, ℕ, zero, suc, ◌+◌, ◌<◌, ◌≤◌, eqb, Bool, true, false}
use Rattle.std.proofs.lemmas.Grind.{common_steps}
use Rattle.std.proofs.Common.{cond, List, [], ◌∷◌, ◌++◌, map, ◌↔◌, Option, inl, inr, refl, sym}
use Rattle.std.proofs.Common.{ap, ◌∙◌, subst, arith}
use Rattle.std.specs.List.{flat_map}
use Rattle.std.proofs.lemmas.Bool.{cases_Bool, cases_eq, both_ways, false_from_ne_true, eqb-true}
use Rattle.std.proofs.lemmas.Bool.{eq-eqb, or_cases, or_left, or_right, false≢true}
use Rattle.pm_base.specs.Sides.{face_of}
use Rattle.pm_base.proofs.Search.{option_cases}
use Rattle.pm_links.specs.Lists.{has, IsOnce}
use Rattle.pm_forest.specs.Fronts.{without}
use Rattle.pm_forest.proofs.OneStep.{without-parts, without-from}
use Rattle.pm_strips.specs.Strips.{entered, first_side, strip_from}
use Rattle.pm_strips.specs.Strips.{left_by, strips_from}
use Rattle.pm_strips.proofs.StripLaws.{free_is}

-- Each face was free when it was taken.
abbrev pub EachIsFree : (ℕ → Bool) → List ℕ → Type 0
EachIsFree free [] = Unit {0}
EachIsFree free (g ∷ gs) = (free (face_of g) ≡ true) × EachIsFree (without free (face_of g)) gs

-- What two lists leave free, one after the other.
pub left_more : (free : ℕ → Bool) (xs ys : List ℕ)
    → left_by free (xs ++ ys) ≡ left_by (left_by free xs) ys
left_more free [] ys = refl
left_more free (g ∷ xs) ys = left_more (without free (face_of g)) xs ys

each_more : (free : ℕ → Bool) (xs ys : List ℕ) → EachIsFree free xs
    → EachIsFree (left_by free xs) ys → EachIsFree free (xs ++ ys)
each_more free [] ys a b = b
each_more free (g ∷ xs) ys a b = (a.0, each_more (without free (face_of g)) xs ys a.1 b)

pub left_less : (free : ℕ → Bool) (gs : List ℕ) (x : ℕ) → left_by free gs x ≡ true → free x ≡ true
left_less free [] x e = e
left_less free (g ∷ gs) x e =
    (without-parts free (face_of g) x (left_less (without free (face_of g)) gs x e)).1

-- Each face that a strip takes is free.
entered_free : (beyond : ℕ → Option ℕ) (n : ℕ) (free : ℕ → Bool) (is_odd : Bool) (exit : ℕ)
    → EachIsFree free (entered beyond n free is_odd exit)
entered_free beyond zero free is_odd exit = tt
entered_free beyond (suc n) free is_odd exit =
    grind (arith, common_steps, free_is, option_cases, entered_free beyond n)

cond_face : (b : Bool) (x y f : ℕ) → face_of x ≡ f → face_of y ≡ f → face_of (cond b x y) ≡ f
cond_face true x y f p q = p
cond_face false x y f p q = q

pub first_face : (beyond : ℕ → Option ℕ) (free : ℕ → Bool) (f : ℕ)
    → face_of (first_side beyond free f) ≡ f
first_face beyond free f = grind (arith, common_steps, cond_face)

strip_free : (beyond : ℕ → Option ℕ) (n : ℕ) (free : ℕ → Bool) (f : ℕ) → free f ≡ true
    → EachIsFree free (strip_from beyond n free f)
strip_free beyond n free f is = grind (arith, common_steps, entered_free, first_face)

strip_takes : (beyond : ℕ → Option ℕ) (n : ℕ) (free : ℕ → Bool) (f : ℕ)
    → left_by free (strip_from beyond n free f) f ≡ false
strip_takes beyond n free f = grind (arith, common_steps, first_face, left_less, without-parts)

-- The strips of m faces take each free face among them when it's free, and leave none.
pub all_taken : (beyond : ℕ → Option ℕ) (n m : ℕ) (free : ℕ → Bool) (f : ℕ)
    → ((x : ℕ) → free x ≡ true → (f ≤ x) × (x < f + m))
    → let all = flat_map (λ s. s) (strips_from beyond n m free f) in
    EachIsFree free all × ((x : ℕ) → left_by free all x ≡ false)
all_taken beyond n zero free f within =
    (tt, λ x. false_from_ne_true _ (λ e. let w = within x e in absurd (omega (arith, w.0, w.1))))
all_taken beyond n (suc m) free f within =
    let s = strip_from beyond n free f in
    elim (cases_Bool (free f)) [
      | inl is ↦
          let rest = all_taken beyond n m (left_by free s) (suc f) (λ x e.
          let w = within x (left_less free s x e) in
          let ne : x ≢ f = grind (arith, common_steps, strip_takes) in
          (omega (arith, w.0, ne), omega (arith, w.1))) in
          let all = flat_map (λ t. t) (strips_from beyond n m (left_by free s) (suc f)) in
          rw is (
            each_more free s all (strip_free beyond n free f is) rest.0,
            λ x. ap (λ left. left x) (left_more free s all) ∙ rest.1 x,
          )
      | inr is ↦ grind (arith, common_steps, all_taken beyond n m free (suc f))
    ]

-- So the list of the faces has each free face once.
has_free : (free : ℕ → Bool) (gs : List ℕ) (f : ℕ) → EachIsFree free gs
    → has (map face_of gs) f ≡ true → free f ≡ true
has_free free [] f each e = absurd (false≢true e)
has_free free (g ∷ gs) f each e =
    elim (or_cases (eqb (face_of g) f) (has (map face_of gs) f) e) [
      | inl a ↦ subst (λ x. free x ≡ true) (eqb-true (face_of g) f a) each.0
      | inr a ↦ (without-parts free (face_of g) f
          (has_free (without free (face_of g)) gs f each.1 a)).1
    ]

taken_has : (free : ℕ → Bool) (gs : List ℕ) (f : ℕ) → left_by free gs f ≡ false → free f ≡ true
    → has (map face_of gs) f ≡ true
taken_has free [] f left e = absurd (both_ways (free f) left e)
taken_has free (g ∷ gs) f left e =
    elim (cases_eq (face_of g) f) [
      | inl is ↦ or_left (eqb (face_of g) f) (has (map face_of gs) f) (eq-eqb (face_of g) f is)
      | inr ne ↦ or_right (eqb (face_of g) f) (has (map face_of gs) f)
          (taken_has (without free (face_of g)) gs f left
          (without-from free (face_of g) f (λ is. ne (sym is)) e))
    ]

taken_once : (free : ℕ → Bool) (gs : List ℕ) → EachIsFree free gs → IsOnce (map face_of gs)
taken_once free [] each = tt
taken_once free (g ∷ gs) each =
    let f = face_of g in (
      false_from_ne_true _
          (λ e. (without-parts free f f (has_free (without free f) gs f each.1 e)).0
          refl),
      taken_once (without free f) gs each.1,
    )

pub faces_once : (free : ℕ → Bool) (gs : List ℕ) → EachIsFree free gs
    → ((f : ℕ) → left_by free gs f ≡ false)
    → ((f : ℕ) → (has (map face_of gs) f ≡ true) ↔ (free f ≡ true)) × IsOnce (map face_of gs)
faces_once free gs each none =
    (λ f. (has_free free gs f each, taken_has free gs f (none f)), taken_once free gs each)
