-- What sets of records hold once a record is put in or taken out, and which record comes out.
use Rattle.std.proofs.Common.{◌≡◌, ◌≢◌, ℕ, zero, suc, ◌+◌, ◌<◌, ◌≤◌, eqb, Bool, true, false, cond}
use Rattle.std.proofs.Common.{not, List, length, replicate, get_or, set, length-set}
use Rattle.std.proofs.Common.{get_or-set_same, get_or-set_other, inl, inr, refl, sym, subst, ◌∙◌}
use Rattle.std.proofs.Common.{arith}
use Rattle.std.proofs.lemmas.Bool.{cases_Bool, cases_eq, cases_lt, cond-true, cond-false, eq-eqb}
use Rattle.std.proofs.lemmas.Bool.{eqb-true, and_from, not_from_false, both_ways}
use Rattle.std.proofs.lemmas.List.{get_or_past, get_or-replicate, length-replicate}
use Rattle.pm_base.specs.Counts.{count, set_of}
use Rattle.pm_sets.specs.Sets.{IsEmptySet, IsGap, IsFirst, IsLast}
use Rattle.pm_beyond.proofs.PlanLists.{less-parts}
use Rattle.pm_refine.specs.Holding.{HoldsFrom, HoldsBelow, HoldsMoves}
use Rattle.pm_refine.proofs.CountLaws.{count_apart, count_some}
use Rattle.pm_sets.proofs.FlagLaws.{in_below}

-- A new set has no record, and new counts are all 0.
pub all_alike : {A : Type 0} (a : A) (n j : ℕ) → get_or (replicate n a) j a ≡ a
all_alike a n j =
    elim (cases_lt j n) [
      | inl l ↦ get_or-replicate n j a a l
      | inr m ↦
          get_or_past (replicate n a) j a (omega (arith, length-replicate n a))
    ]

-- A record is taken out.
pub out-parts : (flags : List Bool) (k j : ℕ) → k < length flags
    → set_of (set flags k false) j ≡ true → (j ≢ k) × (set_of flags j ≡ true)
out-parts flags k j l t =
    let other : j ≢ k =
    λ is. both_ways _ (get_or-set_same flags k false false l)
    (subst (λ i. set_of (set flags k false) i ≡ true) is t) in
    (other, sym (get_or-set_other flags k j false false other) ∙ t)

pub out-other : (flags : List Bool) (k j : ℕ) → j ≢ k → set_of flags j ≡ true
    → set_of (set flags k false) j ≡ true
out-other flags k j other t = get_or-set_other flags k j false false other ∙ t

-- The first record of a set, and the last.
pub first_from_least : (m : List Bool) (a k : ℕ) → IsFirst m a k → (j : ℕ) → a ≤ j
    → set_of m j ≡ true → k ≤ j
first_from_least m a k first j low t =
    elim (cases_lt j k) [ inl l ↦ absurd (both_ways _ (first.none j low l) t) | inr l ↦ l ]

pub last_greatest : (m : List Bool) (k : ℕ) → IsLast m (length m) k → (j : ℕ) → set_of m j ≡ true
    → j ≤ k
last_greatest m k last j t =
    elim (cases_lt k j) [
      | inl l ↦ absurd (both_ways _ (last.none j l (in_below m j t)) t)
      | inr l ↦
          l
    ]

-- A set that has none below a number, and none from it on, is empty.
pub none_from : (m : List Bool) (a : ℕ) → IsGap m a (length m)
    → ((j : ℕ) → set_of m j ≡ true → a ≤ j) → IsEmptySet m
none_from m a gap low j =
    elim (cases_Bool (set_of m j)) [ inl t ↦ gap j (low j t) (in_below m j t) | inr f ↦ f ]

-- How far a set reaches: the least number that is above all of its records below n.
unfoldable pub reach : List Bool → ℕ → ℕ
reach m zero = zero
reach m (suc n) = cond (set_of m n) (suc n) (reach m n)

reach-above : (m : List Bool) (k n : ℕ) → k < n → set_of m k ≡ true → k < reach m n
unfolding reach
reach-above m k zero l there = absurd (omega arith)
reach-above m k (suc n) l there =
    elim (cases_Bool (set_of m n)) [
      | inl t ↦ (let e : reach m (suc n) ≡ suc n = cond-true (set_of m n) (suc n) (reach m n) t in
          omega arith)
      | inr f ↦
          let other : k ≢ n = λ is. both_ways _ f (subst (λ i. set_of m i ≡ true) is there) in
          let e : reach m (suc n) ≡ reach m n = cond-false (set_of m n) (suc n) (reach m n) f in
          let rest = reach-above m k n (omega arith) there in
          omega arith
    ]

reach-most : (m : List Bool) (k n : ℕ) → ((j : ℕ) → set_of m j ≡ true → j < k) → reach m n ≤ k
unfolding reach
reach-most m k zero all = let none : reach m 0 ≡ 0 = refl in omega arith
reach-most m k (suc n) all =
    elim (cases_Bool (set_of m n)) [
      | inl t ↦ (let e : reach m (suc n) ≡ suc n = cond-true (set_of m n) (suc n) (reach m n) t in
          let l = all n t in omega arith)
      | inr f ↦ (let e : reach m (suc n) ≡ reach m n =
          cond-false (set_of m n) (suc n) (reach m n) f in let rest = reach-most m k n all in
          omega arith)
    ]

-- A set with no record from one of another set on reaches less far.
pub reach-less : (m new : List Bool) (k : ℕ) → set_of m k ≡ true
    → ((j : ℕ) → set_of new j ≡ true → j < k) → reach new (length new) < reach m (length m)
reach-less m new k there below =
    let above = reach-above m k (length m) (in_below m k there) there in
    let most = reach-most new k (length new) below in
    omega arith

-- A set without one of its records has fewer.
pub fewer_left : (m : List Bool) (k : ℕ) → set_of m k ≡ true
    → count (set_of (set m k false)) (length m) < count (set_of m) (length m)
fewer_left m k t =
    let l = in_below m k t in
    let a = count_some (eqb k) k (length m) l (eq-eqb k k refl) in
    let b = count_apart (eqb k) (set_of (set m k false)) (set_of m) (length m)
    (λ j e. subst (λ i. set_of m i ≡ true) (eqb-true k j e) t) (λ j u. (out-parts m k j l u).1)
    (λ j e u. (out-parts m k j l u).0 (sym (eqb-true k j e))) in
    omega arith

-- The moves that two sets hold.
module _ (n : ℕ) (S G : ℕ → Bool) (b : ℕ) (splits collapses : List Bool)
    (m : HoldsMoves n S G b splits collapses) where
  pub gone-parts : (j : ℕ) → set_of collapses j ≡ true → (b ≤ j) × (S j ≡ true) × (G j ≡ false)
  gone-parts j t = let o = m.down.only j t in let p = less-parts S G j o.1 in (o.0, p.0, p.1)

  pub gone-from : (j : ℕ) → b ≤ j → j < n → S j ≡ true → G j ≡ false → set_of collapses j ≡ true
  gone-from j low l s f =
      m.down.there j low l (and_from (S j) (not (G j)) s (not_from_false (G j) f))

-- A set that has all records from b on that pass a test has all from a lower one on, where none
-- between passes.
module _ (n : ℕ) (p : ℕ → Bool) where
  pub holds_below : (a b : ℕ) (m : List Bool) → a ≤ b → HoldsFrom n p b m
      → ((j : ℕ) → a ≤ j → j < b → p j ≡ false) → HoldsFrom n p a m
  holds_below a b m l holds none = record {
    len = holds.len;
    there = λ j low less t. elim (cases_lt j b) [
      | inl c ↦ absurd (both_ways _ (none j low c) t)
      | inr c ↦ holds.there j c less t
    ];
    only = λ j t. let o = holds.only j t in let c = o.0 in (omega arith, o.1);
  }

  -- It has one record more.
  pub holds_more : (k : ℕ) (m : List Bool) → k < n → HoldsFrom n p (suc k) m → p k ≡ true
      → HoldsFrom n p k (set m k true)
  holds_more k m l holds t =
      let len = holds.len in
      record {
        len = length-set {A = Bool} m k true ∙ holds.len;
        there = λ j low less u. elim (cases_eq j k) [
          | inl is ↦ subst (λ i. set_of (set m k true) i ≡ true) (sym is)
              (get_or-set_same m k true false (omega arith))
          | inr other ↦ get_or-set_other m k j true false other ∙ holds.there j (omega arith) less u
        ];
        only = λ j u. elim (cases_eq j k) [
          | inl is ↦ (omega arith, subst (λ i. p i ≡ true) (sym is) t)
          | inr other ↦ (let o = holds.only j (sym (get_or-set_other m k j true false other) ∙ u) in
              let c = o.0 in (omega arith, o.1))
        ];
      }

  pub holds_same : (k : ℕ) (m : List Bool) → HoldsFrom n p (suc k) m → p k ≡ false
      → HoldsFrom n p k m
  holds_same k m holds f =
      holds_below k (suc k) m (omega arith) holds (λ j low high. let is : j ≡ k = omega arith in
      subst (λ i. p i ≡ false) (sym is) f)

-- A set gets the records that pass a test, in ascending order.
module _ (n : ℕ) (p : ℕ → Bool) where
  -- It has all below a greater number too, where none between passes.
  pub holds_up : (a b : ℕ) (m : List Bool) → a ≤ b → HoldsBelow n p a m
      → ((j : ℕ) → a ≤ j → j < b → p j ≡ false) → HoldsBelow n p b m
  holds_up a b m l holds none = record {
    len = holds.len;
    there = λ j low t. elim (cases_lt j a) [
      | inl c ↦ holds.there j c t
      | inr c ↦
          absurd (both_ways _ (none j c low) t)
    ];
    only = λ j t. let o = holds.only j t in let c = o.0 in (omega arith, o.1);
  }

  -- It has one record more.
  pub holds_next : (k : ℕ) (m : List Bool) → k < n → HoldsBelow n p k m → p k ≡ true
      → HoldsBelow n p (k + 1) (set m k true)
  holds_next k m l holds t =
      let len = holds.len in
      record {
        len = length-set {A = Bool} m k true ∙ holds.len;
        there = λ j low u. elim (cases_eq j k) [
          | inl is ↦ subst (λ i. set_of (set m k true) i ≡ true) (sym is)
              (get_or-set_same m k true false (omega arith))
          | inr other ↦ get_or-set_other m k j true false other ∙ holds.there j (omega arith) u
        ];
        only = λ j u. elim (cases_eq j k) [
          | inl is ↦ (omega arith, subst (λ i. p i ≡ true) (sym is) t)
          | inr other ↦ (let o = holds.only j (sym (get_or-set_other m k j true false other) ∙ u) in
              let c = o.0 in (omega arith, o.1))
        ];
      }

  pub holds_past : (k : ℕ) (m : List Bool) → HoldsBelow n p k m → p k ≡ false
      → HoldsBelow n p (k + 1) m
  holds_past k m holds f =
      holds_up k (k + 1) m (omega arith) holds (λ j low high. let is : j ≡ k =
      omega arith in subst (λ i. p i ≡ false) (sym is) f)

-- The next record that passes a test is the next of the set of those that do.
module _ (n : ℕ) (p : ℕ → Bool) (m : List Bool) (len : length m ≡ n) (each : (j : ℕ) → j < n
    → set_of m j ≡ p j) (a k : ℕ) (first : IsFirst m a k) where
  pub next_there : (k < n) × (p k ≡ true)
  next_there = let l =
      in_below m k first.there in (omega arith, sym (each k (omega arith)) ∙ first.there)

  pub none_skipped : (j : ℕ) → a ≤ j → j < k → p j ≡ false
  none_skipped j low high = let l =
      in_below m k first.there in sym (each j (omega arith)) ∙ first.none j low high
