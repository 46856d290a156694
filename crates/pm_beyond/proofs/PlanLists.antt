-- Plans as lists of moves: the moves of the numbers that pass a test, how many they are, and where
-- they lead.
use Rattle.std.proofs.Common.{◌≡◌, ℕ, zero, suc, ◌+◌, ◌<◌, Bool, true, false, not, List, []}
use Rattle.std.proofs.lemmas.Grind.{common_steps}
use Rattle.std.proofs.Common.{◌∷◌, ◌++◌, length, take, ◌⊎◌, inl, inr, refl, sym, ap, ◌∙◌, subst}
use Rattle.std.proofs.Common.{arith}
use Rattle.std.proofs.lemmas.Bool.{cases_Bool, cond-true, cond-false}
use Rattle.std.proofs.lemmas.Bool.{and_parts, and_from, and_left, or_left, or_right, or_from}
use Rattle.std.proofs.lemmas.Bool.{not-true, not_from_false}
use Rattle.std.proofs.lemmas.List.{append-nil, length-append}
use Rattle.pm_base.specs.Counts.{count}
use Rattle.pm_base.proofs.Counts.{count-true, count-false, count-zero}
use Rattle.pm_forest.specs.Forest.{Hierarchy, record_count}
use Rattle.pm_forest.specs.Fronts.{with, without}
use Rattle.pm_forest.proofs.OneStep.{with-cases, with-same, with-from, without-parts, without-from}
use Rattle.pm_beyond.specs.Plans.{Move, Split, Collapse, moved, moved_by, AreLegal, ascending}
use Rattle.pm_beyond.specs.Plans.{descending, less, differs, plan}

-- Two tests of which each passes where the other does are the same.
pub same_bools : (a b : Bool) → (a ≡ true → b ≡ true) → (b ≡ true → a ≡ true) → a ≡ b
same_bools a b f g = grind (arith, common_steps)

-- Some moves and then some more

pub moved_by-append : (T : ℕ → Bool) (xs ys : List Move)
    → moved_by T (xs ++ ys) ≡ moved_by (moved_by T xs) ys
moved_by-append T [] ys = refl
moved_by-append T (x ∷ xs) ys = moved_by-append (moved T x) xs ys

pub legal-append : (h : Hierarchy) (T : ℕ → Bool) (xs ys : List Move) → AreLegal h T xs
    → AreLegal h (moved_by T xs) ys → AreLegal h T (xs ++ ys)
legal-append h T [] ys a b = b
legal-append h T (x ∷ xs) ys a b = (a.0, legal-append h (moved T x) xs ys a.1 b)

pub legal-take : (h : Hierarchy) (T : ℕ → Bool) (m : ℕ) (xs : List Move) → AreLegal h T xs
    → AreLegal h T (take m xs)
legal-take h T zero xs a = tt
legal-take h T (suc m) [] a = tt
legal-take h T (suc m) (x ∷ xs) a = (a.0, legal-take h (moved T x) m xs a.1)

-- The moves of one more number

module _ (make : ℕ → Move) (p : ℕ → Bool) where
  pub ascending-zero : ascending make p 0 ≡ []
  unfolding ascending
  ascending-zero = refl

  pub descending-zero : descending make p 0 ≡ []
  unfolding descending
  descending-zero = refl

  pub ascending-true : (n : ℕ) → p n ≡ true → ascending make p (suc n) ≡ ascending make p n
      ++ make n ∷ []
  unfolding ascending
  ascending-true n e = ap (λ xs. ascending make p n ++ xs) (cond-true (p n) (make n ∷ []) [] e)

  pub ascending-false : (n : ℕ) → p n ≡ false → ascending make p (suc n) ≡ ascending make p n
  unfolding ascending
  ascending-false n e = ap (λ xs. ascending make p n ++ xs) (cond-false (p n) (make n ∷ []) [] e)
      ∙ append-nil (ascending make p n)

  pub descending-true : (n : ℕ) → p n ≡ true → descending make p (suc n) ≡ make n
      ∷ descending make p n
  unfolding descending
  descending-true n e = ap (λ xs. xs ++ descending make p n) (cond-true (p n) (make n ∷ []) [] e)

  pub descending-false : (n : ℕ) → p n ≡ false → descending make p (suc n) ≡ descending make p n
  unfolding descending
  descending-false n e = ap (λ xs. xs ++ descending make p n) (cond-false (p n) (make n ∷ []) [] e)

  pub length-ascending : (n : ℕ) → length (ascending make p n) ≡ count p n
  length-ascending zero = ap length ascending-zero ∙ sym (count-zero p)
  length-ascending (suc n) =
      let before = length-ascending n in
      elim (cases_Bool (p n)) [
        | inl t ↦ (let a = ap length (ascending-true n t) in let b =
            length-append (ascending make p n) (make n ∷ []) in let c =
            count-true p n t in omega arith)
        | inr t ↦ (let a = ap length (ascending-false n t) in let c =
            count-false p n t in omega arith)
      ]

  pub length-descending : (n : ℕ) → length (descending make p n) ≡ count p n
  length-descending zero = ap length descending-zero ∙ sym (count-zero p)
  length-descending (suc n) =
      let before = length-descending n in
      elim (cases_Bool (p n)) [
        | inl t ↦ (let a = ap length (descending-true n t) in let c =
            count-true p n t in omega arith)
        | inr t ↦ (let a = ap length (descending-false n t) in let c =
            count-false p n t in omega arith)
      ]

-- How many moves a plan has

pub less-parts : (S G : ℕ → Bool) (n : ℕ) → less S G n ≡ true → (S n ≡ true) × (G n ≡ false)
less-parts S G n e = let p = and_parts (S n) (not (G n)) e in (p.0, not-true (G n) p.1)

less-once : (S G : ℕ → Bool) (n : ℕ) → less S G n ≡ true → less G S n ≡ false
less-once S G n e = let p = less-parts S G n e in and_left (G n) (not (S n)) p.1

pub count-differs : (S G : ℕ → Bool) (n : ℕ) → count (less G S) n + count (less S G) n
    ≡ count (differs S G) n
count-differs S G zero = let a = count-zero (less G S) in let b = count-zero (less S G) in let c =
    count-zero (differs S G) in omega arith
count-differs S G (suc n) =
    grind (
      arith,
      common_steps,
      count-false,
      count-true,
      less-once,
      or_from,
      or_left,
      or_right,
      count-differs S G n,
    )

pub length-plan : (h : Hierarchy) (S G : ℕ → Bool)
    → length (plan h S G) ≡ count (differs S G) (record_count h)
unfolding plan
length-plan h S G =
    grind (arith, common_steps, count-differs, length-append, length-ascending, length-descending)

-- Where the moves lead

module _ (S G : ℕ → Bool) where
  -- The set S with the records of G below n,
  abbrev pub Has : ℕ → ℕ → Type 0
  Has n j = (S j ≡ true) ⊎ ((G j ≡ true) × (j < n))

  pub record Rises (n : ℕ) (T : ℕ → Bool) : Type 0 where
    pub only : (j : ℕ) → T j ≡ true → Has n j
    pub all : (j : ℕ) → Has n j → T j ≡ true

  -- and the set G with those of S below n, as far as the records up to some number go.
  abbrev pub Keeps : ℕ → ℕ → Type 0
  Keeps n j = (G j ≡ true) ⊎ ((S j ≡ true) × (j < n))

  pub record Falls (top n : ℕ) (T : ℕ → Bool) : Type 0 where
    pub only : (j : ℕ) → j < top → T j ≡ true → Keeps n j
    pub all : (j : ℕ) → j < top → Keeps n j → T j ≡ true

  pub rise-split : (n : ℕ) (T : ℕ → Bool) → Rises n T → less G S n ≡ true → Rises (suc n) (with T n)
  rise-split n T r e = grind (arith, common_steps, less-parts, with-cases, with-from, with-same)

  pub rise-skip : (n : ℕ) (T : ℕ → Bool) → Rises n T → less G S n ≡ false → Rises (suc n) T
  rise-skip n T r e = grind (arith, common_steps, and_from, not_from_false)

  pub fall-collapse : (top n : ℕ) (T : ℕ → Bool) → Falls top (suc n) T → less S G n ≡ true
      → Falls top n (without T n)
  fall-collapse top n T f e = grind (arith, common_steps, less-parts, without-from, without-parts)

  pub fall-skip : (top n : ℕ) (T : ℕ → Bool) → Falls top (suc n) T → less S G n ≡ false
      → Falls top n T
  fall-skip top n T f e = grind (arith, common_steps, and_from, not_from_false)

  pub turn : (top : ℕ) (T : ℕ → Bool) → Rises top T → Falls top top T
  turn top T r = grind (arith, common_steps)

  -- The splits lead from S to S with all of G,
  pub rises : (n : ℕ) → Rises n (moved_by S (ascending Split (less G S) n))
  rises zero = grind (arith, common_steps, ascending-zero)
  rises (suc n) =
      let before = ascending Split (less G S) n in
      elim (cases_Bool (less G S n)) [
        | inl t ↦ grind (arith, common_steps, ascending-true, moved_by-append, rise-split, rises n)
        | inr t ↦ subst (Rises (suc n))
            (ap (moved_by S) (sym (ascending-false Split (less G S) n t)))
            (rise-skip n (moved_by S before) (rises n) t)
      ]

  -- and the collapses from there to G.
  pub falls : (top n : ℕ) (T : ℕ → Bool) → Falls top n T → (j : ℕ) → j < top
      → moved_by T (descending Collapse (less S G) n) j ≡ G j
  falls top zero T f j l = grind (arith, common_steps, descending-zero, same_bools)
  falls top (suc n) T f j l =
      elim (cases_Bool (less S G n)) [
        | inl t ↦ ap (λ ms. moved_by T ms j) (descending-true Collapse (less S G) n t)
            ∙ falls top n (without T n) (fall-collapse top n T f t) j l
        | inr t ↦ ap (λ ms. moved_by T ms j) (descending-false Collapse (less S G) n t)
            ∙ falls top n T (fall-skip top n T f t) j l
      ]

  pub leads : (h : Hierarchy) → (k : ℕ) → k < record_count h → moved_by S (plan h S G) k ≡ G k
  unfolding plan
  leads h k l = grind (arith, common_steps, falls, moved_by-append, rises, turn)
