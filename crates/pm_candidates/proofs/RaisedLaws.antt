-- Counts of needs that go up, one after the other.
use Rattle.std.proofs.Common.{◌≡◌, ℕ, zero, suc, ◌+◌, ◌<◌, ◌≤◌, ◌^◌, cond, List, [], ◌∷◌, length}
use Rattle.std.proofs.Common.{Bool, true, false, not, ◌&&◌, ◌||◌, eqb, sym, subst}
use Rattle.std.proofs.lemmas.Grind.{common_steps}
use Rattle.std.proofs.Common.{take, get_or, Option, None, Some, IfSome, refl, ap, ◌∙◌, arith}
use Rattle.std.specs.List.{All}
use Rattle.std.proofs.lemmas.Bool.{cond-true, eq-eqb}
use Rattle.std.proofs.lemmas.List.Filters.{length-filter_more}
use Rattle.pm_base.specs.Counts.{set_of}
use Rattle.pm_beyond.specs.Moves.{is_at}
use Rattle.pm_candidates.specs.Needed.{times_in, AreRaised}
use Rattle.pm_candidates.specs.Candidates.{is_among, is_freed, AreCleared, AreAdded}
use Rattle.pm_candidates.proofs.TimesLaws.{passing_more}

-- The first needs and the next one are among all of them.
pub times_taken : (k : ℕ) (needed : List (Option ℕ)) (i : ℕ) → i < length needed
    → times_in k (take i needed) + cond (is_at k (get_or needed i None)) 1 0 ≤ times_in k needed
times_taken k [] i l = absurd (omega arith)
times_taken k (need ∷ needed) zero l = omega (arith, passing_more (is_at k) need needed)
times_taken k (need ∷ needed) (suc i) l =
    grind (arith, common_steps, passing_more, times_taken k needed i)

-- A sum is zero where both parts are.
sum_none : (x y : ℕ) → eqb (x + y) 0 ≡ (eqb x 0 && eqb y 0)
sum_none zero y = ap (λ n. eqb n 0) (omega arith)
sum_none (suc x) y = grind (arith, common_steps)

-- Two steps that clear, or that add, as one.
clear_both : (b x y : Bool) → ((b && not (not x)) && not (not y)) ≡ (b && not (not (x && y)))
clear_both false x y = refl
clear_both true false y = refl
clear_both true true y = refl

or_none : (b : Bool) → (b || false) ≡ b
or_none false = refl
or_none true = refl

add_both : (b x y m n : Bool) → (y ≡ true → m ≡ n) → (y ≡ false → m ≡ false)
    → ((b || (not x && m)) || (not y && n)) ≡ (b || (not (x && y) && n))
add_both true x y m n same none = refl
add_both false true true m n same none = refl
add_both false true false m n same none = refl
add_both false false true m n same none = rw (same refl) (or_none n)
add_both false false false m n same none = rw (none refl) refl

free_both : (b : Bool) (x y n m : ℕ) → m ≡ n + y
    → ((b || (not (eqb x 0) && eqb m 0)) || (not (eqb y 0) && eqb n 0))
    ≡ (b || (not (eqb (x + y) 0) && eqb n 0))
free_both b x y n m is =
    let part : eqb m 0 ≡ (eqb n 0 && eqb y 0) = ap (λ k. eqb k 0) is ∙ sum_none n y in
    add_both b (eqb x 0) (eqb y 0) (eqb m 0) (eqb n 0)
    (λ zero. part ∙ ap (λ c. eqb n 0 && c) zero ∙ and_true (eqb n 0))
    (λ more. part ∙ ap (λ c. eqb n 0 && c) more ∙ and_false (eqb n 0))
    ∙ ap (λ c. b || (not c && eqb n 0)) (sym (sum_none x y))
  where
    and_true : (c : Bool) → (c && true) ≡ c
    and_true false = refl
    and_true true = refl

    and_false : (c : Bool) → (c && false) ≡ false
    and_false false = refl
    and_false true = refl

module _ (needed : List (Option ℕ)) (i : ℕ) (l : i < length needed) where
  pub one_more : (k : ℕ)
      → times_in k (take (i + 1) needed)
      ≡ times_in k (take i needed) + times_in k (get_or needed i None ∷ [])
  one_more k = grind (arith, common_steps, get_or, length-filter_more, passing_more)

  -- What holds of the first needs, and of the next one after them, holds of one more.
  pub raised_more : (old now new : List ℕ) → AreRaised old now (take i needed)
      → AreRaised now new (get_or needed i None ∷ []) → AreRaised old new (take (i + 1) needed)
  raised_more old now new first next = record {
    len = next.len ∙ first.len;
    each = λ k k_lt. omega (
      arith,
      first.each k k_lt,
      next.each k (subst (λ n. k < n) (sym first.len) k_lt),
      one_more k,
    );
  }

  pub lowered_more : (old now new : List ℕ) → AreRaised now old (take i needed)
      → AreRaised new now (get_or needed i None ∷ []) → AreRaised new old (take (i + 1) needed)
  lowered_more old now new first next = record {
    len = first.len ∙ next.len;
    each = λ k k_lt. omega (
      arith,
      first.each k (subst (λ n. k < n) (sym next.len) k_lt),
      next.each k k_lt,
      one_more k,
    );
  }

  pub cleared_more : (old now new : List Bool) → AreCleared old now (is_among (take i needed))
      → AreCleared now new (is_among (get_or needed i None ∷ []))
      → AreCleared old new (is_among (take (i + 1) needed))
  cleared_more old now new first next = record {
    len = next.len ∙ first.len;
    each = λ k k_lt.
        let none = λ (n : ℕ). not (not (eqb n 0)) in
        let x = times_in k (take i needed) in
        let y = times_in k (get_or needed i None ∷ []) in
        next.each k (subst (λ n. k < n) (sym first.len) k_lt)
        ∙ ap (λ b. b && none y) (first.each k k_lt)
        ∙ clear_both (set_of old k) (eqb x 0) (eqb y 0)
        ∙ ap (λ b. set_of old k && not (not b)) (sym (sum_none x y))
        ∙ ap (λ n. set_of old k && none n) (sym (one_more k));
  }

  pub freed_more : (old now new : List Bool) (many fewer : List ℕ)
      → AreAdded old now (is_freed (take i needed) many)
      → AreAdded now new (is_freed (get_or needed i None ∷ []) fewer)
      → AreRaised fewer many (get_or needed i None ∷ []) → length old ≡ length fewer
      → AreAdded old new (is_freed (take (i + 1) needed) fewer)
  freed_more old now new many fewer first next counts len = record {
    len = next.len ∙ first.len;
    each = λ k k_lt.
        let none = eqb (get_or fewer k 0) 0 in
        let x = times_in k (take i needed) in
        let y = times_in k (get_or needed i None ∷ []) in
        next.each k (subst (λ n. k < n) (sym first.len) k_lt)
        ∙ ap (λ b. b || (not (eqb y 0) && none)) (first.each k k_lt)
        ∙ free_both (set_of old k) x y (get_or fewer k 0) (get_or many k 0)
        (counts.each k (subst (λ n. k < n) len k_lt))
        ∙ ap (λ n. set_of old k || (not (eqb n 0) && none)) (sym (one_more k));
  }

-- There is room for the next need, and it was counted.
if_some : (P Q : ℕ → Type 0) (o : Option ℕ) → ((k : ℕ) → o ≡ Some k → P k → Q k) → IfSome o P
    → IfSome o Q
if_some P Q None f p = p
if_some P Q (Some k) f p = f k refl p

module _ (old now : List ℕ) (needed : List (Option ℕ)) (i : ℕ) (l : i < length needed) where
  once : (k : ℕ) → get_or needed i None ≡ Some k
      → ◌≡◌ {A = ℕ} (cond (is_at k (get_or needed i None)) 1 0) 1
  once k is = cond-true (is_at k (get_or needed i None)) 1 0 (ap (is_at k) is ∙ eq-eqb k k refl)

  pub room_for : AreRaised old now (take i needed)
      → All (λ need. IfSome need (λ k. k < length old)) needed →
      ((k : ℕ) → k < length old → get_or old k 0 + times_in k needed < 2 ^ 32)
      → IfSome (get_or needed i None) (λ k. get_or now k 0 + 1 < 2 ^ 32)
  room_for raised there room =
      if_some (λ k. k < length old) (λ k. get_or now k 0 + 1 < 2 ^ 32) (get_or needed i None)
      (λ k is k_lt. omega (
        arith,
        room k k_lt,
        raised.each k k_lt,
        times_taken k needed i l,
        once k is,
      )) (there i None l)

  pub counted_once : AreRaised now old (take i needed)
      → All (λ need. IfSome need (λ k. k < length old)) needed →
      ((k : ℕ) → k < length old → times_in k needed ≤ get_or old k 0)
      → IfSome (get_or needed i None) (λ k. 0 < get_or now k 0)
  counted_once raised there enough =
      if_some (λ k. k < length old) (λ k. 0 < get_or now k 0) (get_or needed i None)
      (λ k is k_lt. omega (
        arith,
        enough k k_lt,
        raised.each k (omega (arith, k_lt, raised.len)),
        times_taken k needed i l,
        once k is,
      )) (there i None l)
