-- Numbers that a search passes over, and the lines of a set of numbers.
use Rattle.std.proofs.Common.{◌≡◌, ℕ, zero, suc, ◌+◌, ◌-◌, ◌<◌, ◌≤◌, Bool, true, false, List, []}
use Rattle.std.proofs.Common.{◌∷◌, ◌++◌, filter, length, set, length-set, inl, inr, refl, sym, ap}
use Rattle.std.proofs.Common.{◌∙◌, subst, arith}
use Rattle.std.proofs.lemmas.Bool.{cases_Bool}
use Rattle.pm_base.specs.Counts.{set_of, count, numbers_below}
use Rattle.pm_base.proofs.Counts.{count-true, count-false}
use Rattle.pm_sets.proofs.FlagLaws.{in_below, less_in}
use Rattle.pm_front.proofs.Counting.{passing_next, passing_same, count_next, length-passing}
use Rattle.pm_change.specs.Gathering.{numbers_in, size_of, AreJust}

module _ (p : ℕ → Bool) where
  gap_by : (a d : ℕ) → ((j : ℕ) → a ≤ j → j < a + d → p j ≡ false)
      → filter p (numbers_below (a + d)) ≡ filter p (numbers_below a)
  gap_by a zero none = let e : a + 0 ≡ a = omega arith in rw e refl
  gap_by a (suc d) none =
      let e : a + suc d ≡ (a + d) + 1 = omega arith in
      rw e (passing_same p (a + d) (none (a + d) (omega arith) (omega arith))
      ∙ gap_by a d (λ j l m. none j l (omega arith)))

  -- No number from a on and below b passes.
  pub passing_gap : (a b : ℕ) → a ≤ b → ((j : ℕ) → a ≤ j → j < b → p j ≡ false)
      → filter p (numbers_below b) ≡ filter p (numbers_below a)
  passing_gap a b l none =
      let e : a + (b - a) ≡ b = omega arith in
      subst (λ c. filter p (numbers_below c) ≡ filter p (numbers_below a)) e
      (gap_by a (b - a) (λ j m n. none j m (omega arith)))

  pub passing_past : (a b : ℕ) → a ≤ b → ((j : ℕ) → a ≤ j → j < b → p j ≡ false) → p b ≡ true
      → length (filter p (numbers_below (b + 1))) ≡ length (filter p (numbers_below a)) + 1
  passing_past a b l none pass = count_next p b pass
      ∙ ap (λ (xs : List ℕ). length xs + 1) (passing_gap a b l none)

  count_up_by : (a d : ℕ) → count p a ≤ count p (a + d)
  count_up_by a zero = let e : a + 0 ≡ a = omega arith in rw e (omega arith)
  count_up_by a (suc d) =
      let e : a + suc d ≡ suc (a + d) = omega arith in
      let r = count_up_by a d in
      rw e (elim (cases_Bool (p (a + d))) [
        | inl t ↦ (let c = count-true p (a + d) t in omega arith)
        | inr t ↦ (let c = count-false p (a + d) t in omega arith)
      ])

  pub count_up : (a b : ℕ) → a ≤ b → count p a ≤ count p b
  count_up a b l = let e : a + (b - a)
      ≡ b = omega arith in subst (λ c. count p a ≤ count p c) e (count_up_by a (b - a))

  -- One more, past a gap.
  pub count_past : (a b : ℕ) → a ≤ b → p b ≡ true → count p a + 1 ≤ count p (b + 1)
  count_past a b l pass =
      let u = count_up a b l in
      let t = count-true p b pass in
      let e : b + 1 ≡ suc b = omega arith in
      let at = ap (count p) e in
      omega arith

  pub passing_up : (a b : ℕ) → a ≤ b
      → length (filter p (numbers_below a)) ≤ length (filter p (numbers_below b))
  passing_up a b l =
      let u = count_up a b l in
      let x = length-passing p a in
      let y = length-passing p b in
      omega arith

  passing_as : (q : ℕ → Bool) (n : ℕ) → ((i : ℕ) → i < n → p i ≡ q i)
      → filter p (numbers_below n) ≡ filter q (numbers_below n)
  passing_as q zero same = refl
  passing_as q (suc n) same =
      let next : n + 1 ≡ suc n = omega arith in
      let r = passing_as q n (λ i l. same i (omega arith)) in
      subst (λ m. filter p (numbers_below m) ≡ filter q (numbers_below m)) next
      (elim (cases_Bool (p n)) [
        | inl t ↦ passing_next p n t ∙ ap (λ (l : List ℕ). l ++ n ∷ []) r
            ∙ sym (passing_next q n (sym (same n (omega arith)) ∙ t))
        | inr t ↦ passing_same p n t ∙ r ∙ sym (passing_same q n (sym (same n (omega arith)) ∙ t))
      ])

-- The numbers of a set that has just those that pass.
pub just_numbers : (passes : ℕ → Bool) (n : ℕ) (flags : List Bool) → AreJust passes n flags
    → numbers_in flags ≡ filter passes (numbers_below n)
just_numbers passes n flags just = ap (λ m. filter (set_of flags) (numbers_below m)) just.len
    ∙ passing_as (set_of flags) passes n just.each

pub just_size : (passes : ℕ → Bool) (n : ℕ) (flags : List Bool) → AreJust passes n flags
    → size_of flags ≡ length (filter passes (numbers_below n))
just_size passes n flags just = ap (λ (l : List ℕ). length l) (just_numbers passes n flags just)

-- A number that is taken out of a set leaves one less.
pub size_left : (flags : List Bool) (n : ℕ) → set_of flags n ≡ true
    → size_of flags ≡ suc (size_of (set flags n false))
size_left flags n there =
    let low = in_below flags n there in
    let less = less_in flags n low 0 (length flags) there (omega arith) (omega arith) in
    less ∙ ap (λ m. suc (length (filter (set_of (set flags n false)) (numbers_below m))))
    (sym (length-set flags n false))
