-- Counting: in parts, and one to one.
use Rattle.std.proofs.Common.{◌≡◌, ◌≢◌, ℕ, zero, suc, ◌+◌, ◌*◌, ◌<◌, ◌≤◌, eqb, Bool, true, false}
use Rattle.std.proofs.lemmas.Grind.{common_steps}
use Rattle.std.proofs.Common.{◌&&◌, not, inl, inr, refl, sym, ap, ◌∙◌, cond, arith}
use Rattle.std.proofs.lemmas.Bool.{cases_Bool, cases_eq, eq-eqb, ne_eqb, eqb-true, and_from}
use Rattle.std.proofs.lemmas.Bool.{and_parts, and_left, and_right, cond-true, cond-false, eqb-false}
use Rattle.std.proofs.lemmas.Bool.{not-true}
use Rattle.pm_base.specs.Counts.{count}
use Rattle.pm_base.proofs.Counts.{count-true, count-false, count-zero, count_same, count_more, met}
use Rattle.pm_base.proofs.Counts.{met-parts, met-from, met-count}

abbrev pub both : (ℕ → Bool) → (ℕ → Bool) → ℕ → Bool
both p r i = p i && r i

abbrev pub only : (ℕ → Bool) → (ℕ → Bool) → ℕ → Bool
only p r i = p i && not (r i)

-- Those that pass a second test, and those that don't.
pub count_parts : (p r : ℕ → Bool) (n : ℕ) → count p n ≡ count (both p r) n + count (only p r) n
count_parts p r zero = let a = count-zero p in let b = count-zero (both p r) in let c =
    count-zero (only p r) in omega arith
count_parts p r (suc n) =
    grind (
      arith,
      common_steps,
      and_from,
      and_left,
      and_right,
      count-false,
      count-true,
      count_parts p r n,
    )

-- The numbers that pass, in a row.
record Listed (p : ℕ → Bool) (n : ℕ) : Type 0 where
  w : ℕ → ℕ
  within : (i : ℕ) → i < count p n → w i < n
  passes : (i : ℕ) → i < count p n → p (w i) ≡ true
  distinct : (i j : ℕ) → i < j → j < count p n → w i ≢ w j

listed : (p : ℕ → Bool) (n : ℕ) → Listed p n
listed p zero =
    let a = count-zero p in
    record {
      w = λ i. i;
      within = λ i l. absurd (omega arith);
      passes = λ i l. absurd (omega arith);
      distinct = λ i j l g. absurd (omega arith);
    }
listed p (suc n) =
    let r = listed p n in
    elim (cases_Bool (p n)) [
      | inr e ↦
          let a = count-false p n e in
          record {
            w = r.w;
            within = λ i l. let b = r.within i (omega arith) in omega arith;
            passes = λ i l. r.passes i (omega arith);
            distinct = λ i j l g. r.distinct i j l (omega arith);
          }
      | inl e ↦
          let a = count-true p n e in
          let k = count p n in
          let v : ℕ → ℕ = λ i. cond (eqb i k) n (r.w i) in
          let at : v k ≡ n = cond-true (eqb k k) n (r.w k) (eq-eqb k k refl) in
          let low : (i : ℕ) → i < k
          → v i ≡ r.w i =
          λ i l. cond-false (eqb i k) n (r.w i) (ne_eqb i k (λ z. absurd (omega arith))) in
          record {
            w = v;
            within = λ i l. elim (cases_eq i k) [
              | inl is ↦ (let b : v i ≡ n = ap v is ∙ at in omega arith)
              | inr ne ↦ (let b = low i (omega arith) in let d =
                  r.within i (omega arith) in omega arith)
            ];
            passes = λ i l. elim (cases_eq i k) [
              | inl is ↦ ap p (ap v is ∙ at) ∙ e
              | inr ne ↦ ap p (low i (omega arith)) ∙ r.passes i (omega arith)
            ];
            distinct = λ i j l g is.
                let b = low i (omega arith) in
                let d = r.within i (omega arith) in
                elim (cases_eq j k) [
                  | inl z ↦ (let x : v j ≡ n = ap v z ∙ at in absurd (omega arith))
                  | inr ne ↦ r.distinct i j l (omega arith) (sym b ∙ is ∙ low j (omega arith))
                ];
          }
    ]

-- A test whose numbers are sent to different numbers of another has no more.
pub count_inject : (p q : ℕ → Bool) (n : ℕ) (f g : ℕ → ℕ)
    → ((i : ℕ) → i < n → p i ≡ true → (f i < n) × (q (f i) ≡ true) × (g (f i) ≡ i))
    → count p n ≤ count q n
count_inject p q n f g sends =
    let r = listed p n in
    let k = count p n in
    let v : ℕ → ℕ = λ i. f (r.w i) in
    let to : (i : ℕ) → i < k → (v i < n) × (q (v i) ≡ true) × (g (v i) ≡ r.w i) =
    λ i l. sends (r.w i) (r.within i l) (r.passes i l) in
    let all = met-count v k n
    (λ i j l m is. r.distinct i j l m (sym (to i (omega arith)).2 ∙ ap g is ∙ (to j m).2))
    (λ i l. (to i l).0) in
    let less = count_more (met v k) q n (λ i l m. let (j, jl, is) = met-parts v k i m in
    ap q is ∙ (to j jl).1) in
    omega arith

-- Tests whose numbers are matched one to one have as many.
pub count_matched : (p q : ℕ → Bool) (n : ℕ) (f g : ℕ → ℕ)
    → ((i : ℕ) → i < n → p i ≡ true → (f i < n) × (q (f i) ≡ true) × (g (f i) ≡ i))
    → ((i : ℕ) → i < n → q i ≡ true → (g i < n) × (p (g i) ≡ true) × (f (g i) ≡ i))
    → count p n ≡ count q n
count_matched p q n f g there back =
    grind (arith, common_steps, count_inject p q n f g there, count_inject q p n g f back)

-- A test that just one number passes, and one that none does.
pub count_one : (p : ℕ → Bool) (n x : ℕ) → x < n → p x ≡ true
    → ((i : ℕ) → i < n → p i ≡ true → i ≡ x) → count p n ≡ 1
count_one p n x l e one =
    let w : ℕ → ℕ = λ i. x in
    let a = met-count w 1 n (λ i j a b. absurd (omega arith)) (λ i b. l) in
    count_same p (met w 1) n (λ i b. elim (cases_eq i x) [
      | inl is ↦ ap p is ∙ e ∙ sym (ap (met w 1) is ∙ met-from w 1 0 (omega arith))
      | inr ne ↦ grind (arith, common_steps, met, met-parts)
    ]) ∙ a

pub count_none : (p : ℕ → Bool) (n : ℕ) → ((i : ℕ) → i < n → p i ≡ false) → count p n ≡ 0
count_none p zero never = count-zero p
count_none p (suc n) never =
    count-false p n (never n (omega arith)) ∙ count_none p n (λ i l. never i (omega arith))

-- All numbers pass.
pub count_all : (p : ℕ → Bool) (n : ℕ) → ((i : ℕ) → i < n → p i ≡ true) → count p n ≡ n
count_all p zero always = count-zero p
count_all p (suc n) always =
    count-true p n (always n (omega arith)) ∙ ap suc (count_all p n (λ i l. always i (omega arith)))

-- Of two numbers.
pub count_two : (p : ℕ → Bool) (n x y : ℕ) → x < n → y < n → x ≢ y → p x ≡ true → p y ≡ true
    → ((i : ℕ) → i < n → p i ≡ true → (i ≢ x) → i ≡ y) → count p n ≡ 2
count_two p n x y lx ly ne px py two =
    let at : ℕ → Bool = λ i. eqb i x in
    let parts = count_parts p at n in
    let a = count_one (both p at) n x lx (and_from (p x) (eqb x x) px (eq-eqb x x refl))
    (λ i l e. eqb-true i x (and_parts (p i) (eqb i x) e).1) in
    let b = count_one (only p at) n y ly
    (and_from (p y) (not (eqb y x)) py (ap not (ne_eqb y x (λ z. ne (sym z))))) (λ i l e.
    let q = and_parts (p i) (not (eqb i x)) e in
    two i l q.0 (eqb-false i x (not-true (eqb i x) q.1))) in
    omega arith

-- Three sides for each face.
pub count_sides : (p : ℕ → Bool) (q : ℕ → Bool) (n : ℕ)
    → ((f : ℕ) → (q (3 * f) ≡ p f) × (q (3 * f + 1) ≡ p f) × (q (3 * f + 2) ≡ p f))
    → count q (3 * n) ≡ 3 * count p n
count_sides p q zero same = let a = count-zero q in let b = count-zero p in omega arith
count_sides p q (suc n) same =
    grind (
      arith,
      common_steps,
      count-false q (suc (suc (3 * n))),
      count-false q (suc (3 * n)),
      count-false q (3 * n),
      count-false p n,
      count-true q (suc (suc (3 * n))),
      count-true q (suc (3 * n)),
      count-true q (3 * n),
      count-true p n,
      count_sides p q n same,
    )

-- One number on.
pub count_next : (p : ℕ → Bool) (n : ℕ) → p n ≡ true → count p (n + 1) ≡ count p n + 1
count_next p n e = let a = count-true p n e in let m : n + 1 ≡ suc n =
    omega arith in ap (count p) m ∙ a ∙ omega arith

pub count_stays : (p : ℕ → Bool) (n : ℕ) → p n ≡ false → count p (n + 1) ≡ count p n
count_stays p n e = let a = count-false p n e in let m : n + 1 ≡ suc n =
    omega arith in ap (count p) m ∙ a

-- No number passes.
pub count_never : (p : ℕ → Bool) (n : ℕ) → ((i : ℕ) → i < n → p i ≡ true → ⊥) → count p n ≡ 0
count_never p zero h = count-zero p
count_never p (suc n) h =
    let r = count_never p n (λ i l e. h i (omega arith) e) in
    elim (cases_Bool (p n)) [ inl e ↦ absurd (h n (omega arith) e) | inr e ↦ count-false p n e ∙ r ]

-- No number but one passes.
pub count_most_one : (p : ℕ → Bool) (n k : ℕ) → ((i : ℕ) → i < n → p i ≡ true → i ≡ k)
    → count p n ≤ 1
count_most_one p zero k h = let a = count-zero p in omega arith
count_most_one p (suc n) k h =
    grind (arith, common_steps, count-false, count-true, count_never, count_most_one p n k)

-- Some number passes.
pub count_some : (p : ℕ → Bool) (n i : ℕ) → i < n → p i ≡ true → 0 < count p n
count_some p zero i l e = absurd (omega arith)
count_some p (suc n) i l e = grind (arith, common_steps, count-false, count-true, count_some p n i)

-- Two numbers pass.
pub count_several : (p : ℕ → Bool) (n i j : ℕ) → i < n → j < n → i ≢ j → p i ≡ true → p j ≡ true
    → 1 < count p n
count_several p zero i j il jl ne ei ej = absurd (omega arith)
count_several p (suc n) i j il jl ne ei ej =
    grind (
      arith,
      common_steps,
      count-false p n,
      count-true p n,
      count_some p n j,
      count_some p n i,
      count_several p n i j,
    )

-- One more number passes.
pub count_gains : (p q : ℕ → Bool) (x n : ℕ) → x < n
    → ((i : ℕ) → i < n → p i ≡ true → q i ≡ true) → p x ≡ false → q x ≡ true
    → suc (count p n) ≤ count q n
count_gains p q x zero l h a b = absurd (omega arith)
count_gains p q x (suc n) l h a b =
    grind (arith, common_steps, count-false, count-true, count_more, count_gains p q x n)

-- Two tests that never pass together.
pub count_apart : (p q r : ℕ → Bool) (n : ℕ) → ((i : ℕ) → p i ≡ true → r i ≡ true)
    → ((i : ℕ) → q i ≡ true → r i ≡ true) → ((i : ℕ) → p i ≡ true → q i ≡ false)
    → count p n + count q n ≤ count r n
count_apart p q r zero a b c = let x = count-zero p in let y = count-zero q in omega arith
count_apart p q r (suc n) a b c =
    grind (arith, common_steps, count-false, count-true, count_apart p q r n a b c)

-- Those that pass a test, and those that don't.
pub count_both : (p : ℕ → Bool) (n : ℕ) → count p n + count (λ v. not (p v)) n ≡ n
count_both p zero = omega (arith, count-zero p, count-zero (λ v. not (p v)))
count_both p (suc n) = grind (arith, common_steps, count-false, count-true, count_both p n)
