-- Laws of polygons and their triangles.
use Rattle.std.proofs.Common.{◌≡◌, ℕ, zero, suc, ◌+◌, ◌-◌, ◌<◌, ◌≤◌, Bool, true, false, not, nat_lt}
use Rattle.std.proofs.Common.{List, [], ◌∷◌, ◌++◌, length, get_or, map, take, refl, sym, ◌∙◌, ap}
use Rattle.std.proofs.Common.{subst, arith}
use Rattle.std.specs.List.{list_all}
use Rattle.std.proofs.lemmas.List.Folds.{list_all_at}
use Rattle.std.proofs.lemmas.Bool.{ltb-true}
use Rattle.std.proofs.lemmas.Bool.Decides.{nat_tests}
use borrow.Author.Differences.{ints}
use Rattle.pm_base.specs.declared.mesh.Corners.{Corners}
use Rattle.pm_base.specs.Place.{Place, origin}
use Rattle.obj_scan.specs.Polygons.{is_place_before, is_least, before_least, fan}
use Rattle.obj_scan.specs.Laws.{FansLeadBack}

-- The order of places.

irreflexive : (p : Place) → is_place_before p p ≡ false
unfolding is_place_before
irreflexive p = grind (arith, ints)

before_both : (p q r : Place) → is_place_before p q ≡ true → is_place_before r q ≡ false
    → (is_place_before p r ≡ true) × (is_place_before r p ≡ false)
unfolding is_place_before
before_both p q r first later =
    (grind (arith, ints, first, later), grind (arith, ints, first, later))

-- The point of corner k.
abbrev pub point_at : List Place → List ℕ → ℕ → Place
point_at points corners k = get_or points (get_or corners k 0) origin

-- A read within a list has no need of what stands for the rest.
pub read_any : (points : List Place) (k : ℕ) (p q : Place) → k < length points
    → get_or points k p ≡ get_or points k q
read_any [] k p q lt = absurd (omega (arith, lt))
read_any (x ∷ points) zero p q lt = refl
read_any (x ∷ points) (suc k) p q lt = read_any points k p q (omega (arith, lt))

pub before_is : (p q p' q' : Place) (b c : Bool) → p ≡ p' → q ≡ q' → b ≡ is_place_before p q → b ≡ c
    → is_place_before p' q' ≡ c
before_is p q p' q' b c first second is at =
    ap (λ (x : Place). is_place_before x q') (sym first)
    ∙ ap (λ (x : Place). is_place_before p x) (sym second) ∙ sym is ∙ at

-- Of the first i corners none comes before corner n, which comes before those before it.
pub record HasLeast (points : List Place) (corners : List ℕ) (i n : ℕ) : Type 0 where
  pub within : n ≤ i
  pub under : 0 < i → n < i
  pub none : (k : ℕ) → k < i
      → is_place_before (point_at points corners k) (point_at points corners n) ≡ false
  pub first : (k : ℕ) → k < n
      → is_place_before (point_at points corners n) (point_at points corners k) ≡ true

at_or_under : (P : ℕ → Type 0) (i k : ℕ) (b : Bool) → nat_lt k i ≡ b → ((j : ℕ) → j < i → P j) → P i
    → k < i + 1 → P k
at_or_under P i k true less under here lt = under k (ltb-true k i less)
at_or_under P i k false less under here lt = let e : i ≡ k = grind (arith, nat_tests, less, lt) in
    subst P e here

-- The next corner comes before the least so far.
pub least_here : (points : List Place) (corners : List ℕ) (i n : ℕ) → HasLeast points corners i n
    → is_place_before (point_at points corners i) (point_at points corners n) ≡ true
    → HasLeast points corners (i + 1) i
least_here points corners i n least before = record {
  within = omega arith;
  under = λ some. omega arith;
  none = λ k. at_or_under
      (λ j. is_place_before (point_at points corners j) (point_at points corners i) ≡ false) i k
      (nat_lt k i) refl
      (λ j lt. (before_both (point_at points corners i) (point_at points corners n)
      (point_at points corners j) before (least.none j lt)).1)
      (irreflexive (point_at points corners i));
  first = λ k lt.
      (before_both (point_at points corners i) (point_at points corners n)
      (point_at points corners k) before (least.none k lt)).0;
}

-- It doesn't.
pub least_stays : (points : List Place) (corners : List ℕ) (i n : ℕ) → HasLeast points corners i n
    → is_place_before (point_at points corners i) (point_at points corners n) ≡ false
    → HasLeast points corners (i + 1) n
least_stays points corners i n least after = record {
  within = omega (arith, least.within);
  under = λ some. omega (arith, least.within);
  none = λ k. at_or_under
      (λ j. is_place_before (point_at points corners j) (point_at points corners n) ≡ false) i k
      (nat_lt k i) refl least.none after;
  first = least.first;
}

all_each : (p : ℕ → Bool) (xs : List ℕ) → ((k : ℕ) → k < length xs → p (get_or xs k 0) ≡ true)
    → list_all p xs ≡ true
all_each p [] each = refl
all_each p (x ∷ xs) each = let e : p x ≡ true = each 0 (omega arith) in
    rw e (all_each p xs (λ k lt. each (suc k) (omega (arith, lt))))

count_first : (points : List Place) (corners vs : List ℕ) (n : ℕ) → n < length vs
    → is_least points corners (get_or vs n 0) ≡ true
    → ((k : ℕ) → k < n → is_least points corners (get_or vs k 0) ≡ false)
    → before_least points corners vs ≡ n
count_first points corners [] n lt here under = absurd (omega (arith, lt))
count_first points corners (v ∷ vs) zero lt here under = rw here refl
count_first points corners (v ∷ vs) (suc n) lt here under =
    let e : is_least points corners v ≡ false = under 0 (omega arith) in
    rw e (omega (
      arith,
      count_first points corners vs n (omega (arith, lt)) here
          (λ k less. under (suc k) (omega (arith, less))),
    ))

-- The place of the least of all.
pub least_is : (points : List Place) (corners : List ℕ) (n : ℕ)
    → HasLeast points corners (length corners) n → n ≡ before_least points corners corners
least_is points [] n least = omega (arith, least.within)
least_is points (c ∷ corners) n least =
    let all = c ∷ corners in
    let lt : n < length all = least.under (omega arith) in
    sym (count_first points all all n lt
    (all_each (λ c. not (is_place_before (get_or points c origin) (point_at points all n))) all
    (λ k less. ap not (least.none k less)))
    (λ k less. list_all_at
    (λ c. not (is_place_before (get_or points c origin) (point_at points all k))) all n 0 lt
    (ap not (least.first k less))))

-- The triangles of a corner and each two neighbours, one more.
fan_after : (a : ℕ) (rest : List ℕ) (i : ℕ) → suc i < length rest
    → fan a (take (suc (suc i)) rest) ≡ fan a (take (suc i) rest)
    ++ record { a = a; b = get_or rest i 0; c = get_or rest (suc i) 0 } ∷ []
fan_after a [] i lt = absurd (omega (arith, lt))
fan_after a (b ∷ []) i lt = absurd (omega (arith, lt))
fan_after a (b ∷ c ∷ rest) zero lt = refl
fan_after a (b ∷ c ∷ rest) (suc i) lt = ap (λ (l : List Corners). record { a = a; b = b; c = c }
    ∷ l) (fan_after a (c ∷ rest) i (omega (arith, lt)))

pub fan_next : (a : ℕ) (rest : List ℕ) (i : ℕ) → 1 ≤ i → i < length rest
    → fan a (take (i + 1) rest) ≡ fan a (take i rest) ++ record {
      a = a;
      b = get_or rest (i - 1) 0;
      c = get_or rest i 0;
    } ∷ []
fan_next a rest zero some lt = absurd (omega (arith, some))
fan_next a rest (suc i) some lt =
    let n : suc i + 1 ≡ suc (suc i) = omega arith in
    let m : suc i - 1 ≡ i = omega arith in
    rw (n, m) (fan_after a rest i lt)

-- The last corners of the triangles are the corners after the first two.
last_corners : (a b : ℕ) (more : List ℕ) → map (λ (f : Corners). f.c) (fan a (b ∷ more)) ≡ more
last_corners a b [] = refl
last_corners a b (c ∷ more) = ap (λ (l : List ℕ). c ∷ l) (last_corners a c more)

pub fans_lead_back : FansLeadBack
fans_lead_back a b c more =
    ap (λ (l : List ℕ). a ∷ b ∷ l) (last_corners a b (c ∷ more))
