-- Members of a list of numbers, and lists in which no number stands twice.
use Rattle.std.proofs.Common.{◌≡◌, ℕ, ◌++◌, eqb, true, Bool, List, [], ◌∷◌, ◌⊎◌, inl, inr, arith}
use Rattle.std.proofs.lemmas.Grind.{common_steps}
use Rattle.std.proofs.Common.{refl, sym, subst}
use Rattle.std.specs.List.{AllByRecursion, list_any, All}
use Rattle.std.proofs.lemmas.Bool.{eqb-true, eq-eqb, false≢true, or_cases, or_left, or_right}
use Rattle.std.proofs.lemmas.List.Elements.{recursion_from_All}

abbrev pub In : ℕ → List ℕ → Type 0
In q xs = list_any (eqb q) xs ≡ true

pub in-here : (x : ℕ) (xs : List ℕ) → In x (x ∷ xs)
in-here x xs = or_left (eqb x x) (list_any (eqb x) xs) (eq-eqb x x refl)

pub in-later : (q x : ℕ) (xs : List ℕ) → In q xs → In q (x ∷ xs)
in-later q x xs i = or_right (eqb q x) (list_any (eqb q) xs) i

pub in-cases : (q x : ℕ) (xs : List ℕ) → In q (x ∷ xs) → (q ≡ x) ⊎ In q xs
in-cases q x xs i = grind (arith, common_steps, eqb-true, or_cases)

pub in-nil : (q : ℕ) → In q [] → ⊥
in-nil q i = false≢true i

pub in-append : (q : ℕ) (xs ys : List ℕ) → In q (xs ++ ys) → In q xs ⊎ In q ys
in-append q [] ys i = inr i
in-append q (x ∷ xs) ys i =
    grind (arith, common_steps, eq-eqb, in-cases, in-later, or_left, in-append q xs ys)

pub in-append_left : (q : ℕ) (xs ys : List ℕ) → In q xs → In q (xs ++ ys)
in-append_left q [] ys i = absurd (in-nil q i)
in-append_left q (x ∷ xs) ys i =
    grind (arith, common_steps, eq-eqb, in-cases, in-later, or_left, in-append_left q xs ys)

pub in-append_right : (q : ℕ) (xs ys : List ℕ) → In q ys → In q (xs ++ ys)
in-append_right q [] ys i = i
in-append_right q (x ∷ xs) ys i = in-later q x (xs ++ ys) (in-append_right q xs ys i)

-- What holds of each member of a list holds of one.
in-rec : (P : ℕ → Type 0) (xs : List ℕ) → AllByRecursion P xs → (q : ℕ) → In q xs → P q
in-rec P [] a q i = absurd (in-nil q i)
in-rec P (x ∷ xs) a q i =
    elim (in-cases q x xs i) [ inl is ↦ subst P (sym is) a.0 | inr j ↦ in-rec P xs a.1 q j ]

pub all-in : (P : ℕ → Type 0) (xs : List ℕ) → All P xs → (q : ℕ) → In q xs → P q
all-in P xs a q i = in-rec P xs (recursion_from_All P xs a) q i

-- A test that some member passes.
pub any-parts : (p : ℕ → Bool) (xs : List ℕ) → list_any p xs ≡ true
    → (e : ℕ) × In e xs × (p e ≡ true)
any-parts p [] i = absurd (false≢true i)
any-parts p (x ∷ xs) i = grind (arith, common_steps, in-here, in-later, or_cases, any-parts p xs)

pub any-from : (p : ℕ → Bool) (xs : List ℕ) (e : ℕ) → In e xs → p e ≡ true → list_any p xs ≡ true
any-from p [] e i t = absurd (in-nil e i)
any-from p (x ∷ xs) e i t =
    grind (arith, common_steps, in-cases, or_left, or_right, any-from p xs e)
