-- Of finitely many pairs that pass a test one comes first by its key, where any does.
use Rattle.std.proofs.Common.{◌≡◌, ℕ, zero, suc, ◌<◌, true, ◌⊎◌, inl, inr, sym, ◌∙◌, subst, arith}
use Rattle.std.proofs.lemmas.Grind.{common_steps}
use Rattle.std.proofs.lemmas.Bool.{cases_Bool, cases_eq, both_ways}
use Rattle.pm_base.proofs.Search.{Decided}
use Rattle.pm_queue.specs.declared.key.Key.{Key}
use Rattle.pm_queue.specs.Keys.{is_before}
use Rattle.pm_queue.proofs.KeyOrder.{before_asym, before_trans, before_total, before_same}

module _ (P : ℕ → ℕ → Type 0) (decide : (a b : ℕ) → Decided (P a b)) (key : ℕ → ℕ
    → Key) (same_pair : (a b c d : ℕ) → key a b ≡ key c d → (a ≡ c) × (b ≡ d)) where
  -- Of the pairs that are among these one is the least.
  pub record IsBest (Among : ℕ → ℕ → Type 0) : Type 0 where
    pub a : ℕ
    pub b : ℕ
    pub is : P a b
    pub least : (c d : ℕ) → Among c d → P c d
        → ((c ≡ a) × (d ≡ b)) ⊎ (is_before (key a b) (key c d) ≡ true)

  abbrev pub Finds : (ℕ → ℕ → Type 0) → Type 0
  Finds Among = IsBest Among ⊎ ((c d : ℕ) → Among c d → P c d → ⊥)

  -- What comes after one that comes after another comes after that.
  after_both : (k l n : Key) → is_before k l ≡ true → is_before l n ≡ true → is_before k n ≡ true
  after_both k l n first second =
      before_total n k
      (λ is. both_ways _ (before_asym k l first) (subst (λ i. is_before l i ≡ true) is second))
      (before_trans k l n (before_asym k l first) (before_asym l n second))

  -- The first of the two least comes before all of both.
  first_wins : {Some More : ℕ → ℕ → Type 0} (x : IsBest Some) (y : IsBest More)
      → ((y.a ≡ x.a) × (y.b ≡ x.b)) ⊎ (is_before (key x.a x.b) (key y.a y.b) ≡ true)
      → IsBest (λ c d. Some c d ⊎ More c d)
  first_wins x y before = record {
    a = x.a;
    b = x.b;
    is = x.is;
    least = λ c d among is. elim among [
      | inl one ↦ x.least c d one is
      | inr other ↦
          elim (y.least c d other is) [
            | inl same ↦ elim before [
              | inl k ↦ inl (same.0 ∙ k.0, same.1 ∙ k.1)
              | inr k ↦ inr
                  (subst (λ j. is_before (key x.a x.b) (key c j) ≡ true) (sym same.1)
                  (subst (λ i. is_before (key x.a x.b) (key i y.b) ≡ true) (sym same.0) k))
            ]
            | inr later ↦ elim before [
              | inl k ↦ inr
                  (subst (λ j. is_before (key x.a j) (key c d) ≡ true) k.1
                  (subst (λ i. is_before (key i y.b) (key c d) ≡ true) k.0 later))
              | inr k ↦ inr (after_both (key x.a x.b) (key y.a y.b) (key c d) k later)
            ]
          ]
    ];
  }

  among : {Some More : ℕ → ℕ → Type 0} → ((c d : ℕ) → More c d → Some c d) → Finds Some → Finds More
  among within (inl x) = inl
      (record { a = x.a; b = x.b; is = x.is; least = λ c d more. x.least c d (within c d more) })
  among within (inr none) = inr (λ c d more. none c d (within c d more))

  join : {Some More : ℕ → ℕ → Type 0} → Finds Some → Finds More → Finds (λ c d. Some c d ⊎ More c d)
  join (inr none) (inr nor) = inr (λ c d h. elim h [ inl k ↦ none c d k | inr k ↦ nor c d k ])
  join (inl x) (inr nor) = grind (arith, common_steps)
  join (inr none) (inl y) = grind (arith, common_steps)
  join (inl x) (inl y) =
      elim (cases_Bool (is_before (key x.a x.b) (key y.a y.b))) [
        | inl first ↦ inl (first_wins x y (inr first))
        | inr not_first ↦
            elim (cases_Bool (is_before (key y.a y.b) (key x.a x.b))) [
              | inl second ↦
                  among (λ c d h. elim h [ inl k ↦ inr k | inr k ↦ inl k ])
                  (inl (first_wins y x (inr second)))
              | inr not_second ↦
                  (let same = same_pair y.a y.b x.a x.b
                  (before_same (key y.a y.b) (key x.a x.b) not_second not_first) in
                  inl (first_wins x y (inl same)))
            ]
      ]

  one_pair : (a b : ℕ) → Finds (λ c d. (c ≡ a) × (d ≡ b))
  one_pair a b =
      elim (decide a b) [
        | inl is ↦ inl (record { a = a; b = b; is = is; least = λ c d same h. inl same })
        | inr never ↦
            inr (λ c d same h. never (subst (λ j. P a j) same.1 (subst (λ i. P i d) same.0 h)))
      ]

  column : (n b : ℕ) → Finds (λ c d. (c < n) × (d ≡ b))
  column zero b = inr (λ c d h is. absurd (let l = h.0 in omega arith))
  column (suc n) b =
      among (λ c d h. elim (cases_eq c n) [
        | inl same ↦ inr (same, h.1)
        | inr other ↦
            inl (let l = h.0 in omega arith, h.1)
      ])
      (join (column n b) (one_pair n b))

  pub least_pair : (n k : ℕ) → Finds (λ c d. (c < n) × (d < k))
  least_pair n zero = inr (λ c d h is. absurd (let l = h.1 in omega arith))
  least_pair n (suc k) =
      among (λ c d h. elim (cases_eq d k) [
        | inl same ↦ inr (h.0, same)
        | inr other ↦
            inl (h.0, let l = h.1 in omega arith)
      ])
      (join (least_pair n k) (column n k))
