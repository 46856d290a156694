-- How often the records of a set need a record: zero exactly where none needs it, and the sum over
-- the parts of a set.
use Rattle.std.proofs.Common.{◌≡◌, ℕ, zero, suc, ◌+◌, ◌*◌, ◌<◌, ◌≤◌, eqb, Bool, true, false, not}
use Rattle.std.proofs.lemmas.Grind.{common_steps}
use Rattle.std.proofs.Common.{◌&&◌, ◌||◌, cond, inl, inr, refl, sym, ap, ◌∙◌, arith}
use Rattle.std.proofs.lemmas.Bool.{cases_eq, eq-eqb, ne_eqb, or_parts, and_from}
use Rattle.std.proofs.lemmas.Bool.{and_parts, both_ways, cond-true, cond-false}
use Rattle.pm_forest.specs.Forest.{Hierarchy, record_count}
use Rattle.pm_forest.specs.Fronts.{with, no_records}
use Rattle.pm_beyond.specs.Moves.{needs}
use Rattle.pm_beyond.specs.Targets.{any_below}
use Rattle.pm_candidates.specs.Needed.{times_needed, needed_below, need_count, is_needed, remaining}
use Rattle.pm_candidates.proofs.TimesLaws.{times_needed-none, times_needed-some, times_needed-most}

-- The share of one record: in a set, in a part of it, and in what remains.
share : (s f : Bool) (n : ℕ) → (f ≡ true → s ≡ true)
    → cond s n 0 ≡ cond f n 0 + cond (s && not f) n 0
share true true n has = omega arith
share true false n has = omega arith
share false true n has = absurd (both_ways false refl (has refl))
share false false n has = omega arith

module _ (h : Hierarchy) where
  below_more : (T : ℕ → Bool) (k n : ℕ)
      → needed_below h T k (suc n) ≡ cond (T n) (times_needed h n k) 0 + needed_below h T k n
  unfolding needed_below
  below_more T k n = refl

  below_none : (T : ℕ → Bool) (k : ℕ) → needed_below h T k 0 ≡ 0
  unfolding needed_below
  below_none T k = refl

  -- Sets with the same records have the same counts.
  below_alike : (A B : ℕ → Bool) (k n : ℕ) → ((i : ℕ) → i < n → A i ≡ B i)
      → needed_below h A k n ≡ needed_below h B k n
  below_alike A B k zero same = below_none A k ∙ sym (below_none B k)
  below_alike A B k (suc n) same = grind (arith, common_steps, below_more, below_alike A B k n)

  -- No record's count is above five times the number of records.
  below_most : (T : ℕ → Bool) (k n : ℕ) → needed_below h T k n ≤ 5 * n
  below_most T k zero = omega (arith, below_none T k)
  below_most T k (suc n) =
      grind (arith, common_steps, below_more, times_needed-most, below_most T k n)

  pub need_count-most : (T : ℕ → Bool) (k : ℕ) → need_count h T k ≤ 5 * record_count h
  need_count-most T k = below_most T k (record_count h)

  -- Zero exactly where no record of the set needs the record
  unneeded-below : (T : ℕ → Bool) (k n : ℕ) → n ≤ record_count h
      → any_below (λ j. T j && needs h j k) n ≡ false → needed_below h T k n ≡ 0
  unneeded-below T k zero l e = below_none T k
  unneeded-below T k (suc n) l e =
      let (here, later) = or_parts (T n && needs h n k) (any_below (λ j. T j && needs h j k) n) e in
      let rest = unneeded-below T k n (omega arith) later in
      let one : cond (T n) (times_needed h n k) 0 ≡ 0 =
      grind (arith, common_steps, and_from, cond-false, cond-true, times_needed-none) in
      omega (arith, below_more T k n, one, rest)

  uncounted-below : (T : ℕ → Bool) (k n : ℕ) → n ≤ record_count h → needed_below h T k n ≡ 0
      → any_below (λ j. T j && needs h j k) n ≡ false
  uncounted-below T k zero l e = refl
  uncounted-below T k (suc n) l e =
      let more = below_more T k n in
      let rest = uncounted-below T k n (omega arith) (omega arith) in
      let one : cond (T n) (times_needed h n k) 0 ≡ 0 = omega arith in
      let here : (T n && needs h n k) ≡ false =
      grind (arith, common_steps, and_parts, cond-true, times_needed-some) in
      ap (λ b. b || any_below (λ j. T j && needs h j k) n) here ∙ rest

  pub need_count-unneeded : (T : ℕ → Bool) (k : ℕ) → is_needed h T k ≡ false → need_count h T k ≡ 0
  need_count-unneeded T k e = unneeded-below T k (record_count h) (omega arith) e

  pub unneeded-count : (T : ℕ → Bool) (k : ℕ) → need_count h T k ≡ 0 → is_needed h T k ≡ false
  unneeded-count T k e = uncounted-below T k (record_count h) (omega arith) e

  -- as a test.
  pub zero_test : (T : ℕ → Bool) (k : ℕ) → eqb (need_count h T k) 0 ≡ not (is_needed h T k)
  zero_test T k = grind (arith, common_steps, eq-eqb, ne_eqb, need_count-unneeded, unneeded-count)

  -- The counts of a set are those of a part of it and of what remains.
  below_parts : (S F : ℕ → Bool) (k n : ℕ) → ((j : ℕ) → F j ≡ true → S j ≡ true)
      → needed_below h S k n ≡ needed_below h F k n + needed_below h (remaining S F) k n
  below_parts S F k zero has =
      omega (arith, below_none S k, below_none F k, below_none (remaining S F) k)
  below_parts S F k (suc n) has =
      grind (arith, common_steps, below_more, share, below_parts S F k n has)

  module _ (S F : ℕ → Bool) (has : (j : ℕ) → F j ≡ true → S j ≡ true) (k : ℕ) where
    pub need_count-parts : need_count h S k ≡ need_count h F k + need_count h (remaining S F) k
    need_count-parts = below_parts S F k (record_count h) has

    -- They are the part's exactly where nothing that remains needs the record
    pub remaining-unneeded : need_count h F k ≡ need_count h S k
        → is_needed h (remaining S F) k ≡ false
    remaining-unneeded e = unneeded-count (remaining S F) k (omega (arith, need_count-parts, e))

    pub remaining-same : is_needed h (remaining S F) k ≡ false → need_count h F k ≡ need_count h S k
    remaining-same e = omega (arith, need_count-parts, need_count-unneeded (remaining S F) k e)

    -- as a test.
    pub remaining_test : eqb (need_count h F k) (need_count h S k)
        ≡ not (is_needed h (remaining S F) k)
    remaining_test = grind (arith, common_steps, eq-eqb, ne_eqb, remaining-same, remaining-unneeded)

  -- No record needs any.
  below_empty : (k n : ℕ) → needed_below h no_records k n ≡ 0
  below_empty k zero = below_none no_records k
  below_empty k (suc n) = omega (arith, below_more no_records k n, below_empty k n)

  pub need_count-empty : (k : ℕ) → need_count h no_records k ≡ 0
  need_count-empty k = below_empty k (record_count h)

  -- A record more.
  module _ (T : ℕ → Bool) (j : ℕ) (absent : T j ≡ false) (k : ℕ) where
    before_it : (n : ℕ) → n ≤ j → needed_below h (with T j) k n ≡ needed_below h T k n
    before_it n l =
        below_alike (with T j) T k n
        (λ i m. cond-false (eqb i j) true (T i) (ne_eqb i j (omega arith)))

    past_it : (n : ℕ) → j < n
        → needed_below h (with T j) k n ≡ needed_below h T k n + times_needed h j k
    past_it zero l = absurd (omega arith)
    past_it (suc n) l = elim (cases_eq n j) [
      | inl is ↦
          let rest = before_it n (omega arith) in
          let one = cond-true (with T j n) (times_needed h n k) 0
          (cond-true (eqb n j) true (T n) (eq-eqb n j is)) in
          let none = cond-false (T n) (times_needed h n k) 0 (ap T is ∙ absent) in
          let same = ap (λ i. times_needed h i k) is in
          omega (arith, below_more (with T j) k n, below_more T k n, rest, one, none, same)
      | inr other ↦ grind (arith, common_steps, below_more, cond-false, ne_eqb, past_it n)
    ]

    pub need_count-with : j < record_count h
        → need_count h (with T j) k ≡ need_count h T k + times_needed h j k
    need_count-with l = past_it (record_count h) l
