-- Ranks: a leaf's new number, by how many leaves begin before it.
use Rattle.std.proofs.Common.{◌≡◌, ℕ, zero, suc, ◌+◌, ◌*◌, ◌-◌, ◌<◌, ◌≤◌, Bool, true, length, ◌⊎◌}
use Rattle.std.proofs.Common.{inl, inr, sym, ◌∙◌, arith}
use Rattle.std.proofs.lemmas.Grind.{common_steps}
use Rattle.std.proofs.lemmas.Bool.{cases_lt, cases_Bool}
use Rattle.pm_base.specs.Counts.{count}
use Rattle.pm_base.proofs.Counts.{count-true, count-false}
use Rattle.pm_base.proofs.Counted.{count_next}
use Rattle.pm_forest.specs.Forest.{Hierarchy, Interval, record_count, leaf_count, interval_of}
use Rattle.pm_forest.specs.Forest.{within, holds}
use Rattle.pm_forest.proofs.Nodes.{within-true, within-from, within-false}
use Rattle.pm_prefix.specs.Prefix.{begins, begun_before, leaf_in, interval_in}
use Rattle.pm_prefix.proofs.Nodes.{HasNodes}
use Rattle.pm_prefix.proofs.Begins.{made_begins, made_ends, begun_total, begins_zero_first}

pub count_mono : (p : ℕ → Bool) (x y : ℕ) → x ≤ y → count p x ≤ count p y
count_mono p x zero l = let e : x ≡ 0 = omega arith in rw e (omega arith)
count_mono p x (suc y) l =
    elim (cases_lt y x) [
      | inl a ↦ (let e : x ≡ suc y = omega arith in rw e (omega arith))
      | inr a ↦ grind (arith, common_steps, count-false, count-true, count_mono p x y)
    ]

-- One that passes is counted from the next number on.
pub count_above : (p : ℕ → Bool) (x y : ℕ) → p x ≡ true → x < y → count p x < count p y
count_above p x y e l =
    let next = count_next p x e in
    let more = count_mono p (x + 1) y (omega arith) in
    omega arith

-- How many pass up to a number and with it, but for one of them.
abbrev pub rank : (ℕ → Bool) → ℕ → ℕ
rank p x = count p (x + 1) - 1

module _ (p : ℕ → Bool) (first : p 0 ≡ true) where
  some_passed : (x : ℕ) → 0 < count p (x + 1)
  some_passed x = let a = count_above p 0 (x + 1) first (omega arith) in omega arith

  rank_from : (a x : ℕ) → p a ≡ true → a ≤ x → count p a ≤ rank p x
  rank_from a x e l = let c = count_above p a (x + 1) e (omega arith) in omega arith

  rank_below : (a x : ℕ) → x < a → rank p x < count p a
  rank_below a x l =
      let some = some_passed x in
      let c = count_mono p (x + 1) a (omega arith) in
      omega arith

  -- Between two numbers that pass are the ranks that are between theirs.
  pub ranks_within : (i : Interval) (top x : ℕ) → p i.from ≡ true
      → (i.until ≡ top) ⊎ (p i.until ≡ true) → x < top
      → within (record { from = count p i.from; until = count p i.until }) (rank p x) ≡ within i x
  ranks_within i top x from until l =
      elim (cases_Bool (within i x)) [
        | inl e ↦
            let (a, b) = within-true i x e in
            within-from _ _ (rank_from i.from x from a) (rank_below i.until x b) ∙ sym e
        | inr e ↦
            let j : Interval = record { from = count p i.from; until = count p i.until } in
            elim (cases_Bool (within j (rank p x))) [
              | inr f ↦ f ∙ sym e
              | inl f ↦
                  let (c, d) = within-true j _ f in
                  elim (within-false i x e) [
                    | inl a ↦
                        let q = rank_below i.from x a in
                        absurd (omega arith)
                    | inr b ↦ elim until [
                      | inl u ↦ absurd (omega arith)
                      | inr u ↦ (let q = rank_from i.until x u b in absurd (omega arith))
                    ]
                  ]
            ]
      ]

module _ (h : Hierarchy) (n : ℕ) where
  pub begun_mono : (x y : ℕ) → x ≤ y → begun_before h n x ≤ begun_before h n y
  begun_mono x y l = count_mono (begins h n) x y l

  pub begun_next : (x : ℕ) → begins h n x ≡ true
      → begun_before h n (x + 1) ≡ begun_before h n x + 1
  begun_next x e = count_next (begins h n) x e

  pub begun_above : (x y : ℕ) → begins h n x ≡ true → x < y
      → begun_before h n x < begun_before h n y
  begun_above x y e l = count_above (begins h n) x y e l

module _ (h : Hierarchy) (shape : HasNodes h) (n : ℕ) (l : n ≤ record_count h) where
  pub leaf_in-lt : (x : ℕ) → x < leaf_count h → leaf_in h n x < length h.roots + n
  unfolding leaf_in
  leaf_in-lt x m =
      let first = begins_zero_first h shape n (omega arith) in
      let r = rank_below (begins h n) first (leaf_count h) x m in
      omega (arith, begun_total h shape n l)

  -- A node of the first records holds of the new leaves those of its own leaves.
  pub holds_in : (v x : ℕ) → v < length h.roots + 2 * n → x < leaf_count h
      → within (interval_in h n (interval_of h v)) (leaf_in h n x) ≡ holds h v x
  unfolding leaf_in holds
  holds_in v x m lt =
      let first = begins_zero_first h shape n (omega arith) in
      ranks_within (begins h n) first (interval_of h v) (leaf_count h) x
      (made_begins h shape n v l m) (made_ends h shape n v l m) lt
