-- A table in which three cells, which may be one, are changed in the same way.
use Rattle.std.proofs.Common.{◌≡◌, ℕ, ◌<◌, eqb, Bool, true, false, cond, ◌||◌, List, length, get_or}
use Rattle.std.proofs.lemmas.Grind.{common_steps}
use Rattle.std.proofs.Common.{set, inl, inr, refl, sym, ap, subst, ◌∙◌, arith, length-set}
use Rattle.std.proofs.lemmas.Bool.{cases_eq, eq-eqb, ne_eqb, cond-true, cond-false}
use Rattle.std.proofs.lemmas.List.{get_or-set_same, get_or-set_other}

module _ {A : Type 0} (d : A) (g : ℕ → A → A) (twice : (v : ℕ) (x : A) → g v (g v x) ≡ g v x) where
  -- the table with cell a changed
  abbrev pub changed : List A → ℕ → List A
  changed t a = set t a (g a (get_or t a d))

  pub one : (t : List A) (a v : ℕ) → a < length t
      → get_or (changed t a) v d ≡ cond (eqb v a) (g v (get_or t v d)) (get_or t v d)
  one t a v l =
      elim (cases_eq v a) [
        | inl is ↦ grind (arith, common_steps, cond-true, eq-eqb, get_or, get_or-set_same)
        | inr differs ↦
            get_or-set_other t a v (g a (get_or t a d)) d differs
            ∙ sym (cond-false (eqb v a) (g v (get_or t v d)) (get_or t v d) (ne_eqb v a differs))
      ]

  folded : (v : ℕ) (p q r : Bool) (x : A) →
      cond r (g v (cond q (g v (cond p (g v x) x)) (cond p (g v x) x)))
      (cond q (g v (cond p (g v x) x)) (cond p (g v x) x)) ≡ cond ((p || q) || r) (g v x) x
  folded v true true true x = ap (g v) (twice v x) ∙ twice v x
  folded v true true false x = twice v x
  folded v true false true x = twice v x
  folded v true false false x = refl
  folded v false true true x = twice v x
  folded v false true false x = refl
  folded v false false true x = refl
  folded v false false false x = refl

  pub three : (t t1 t2 t3 : List A) (a b c : ℕ) → a < length t → b < length t → c < length t →
      t1 ≡ changed t a → t2 ≡ changed t1 b → t3 ≡ changed t2 c →
      (v : ℕ) → get_or t3 v d ≡ cond ((eqb v a || eqb v b) || eqb v c) (g v (get_or t v d))
      (get_or t v d)
  three t t1 t2 t3 a b c la lb lc e1 e2 e3 v =
      let n1 : length t1 ≡ length t = ap length e1 ∙ length-set t a (g a (get_or t a d)) in
      let n2 : length t2 ≡ length t1 = ap length e2 ∙ length-set t1 b (g b (get_or t1 b d)) in
      let s1 : get_or t1 v d ≡ cond (eqb v a) (g v (get_or t v d)) (get_or t v d) =
      ap (λ s. get_or s v d) e1 ∙ one t a v la in
      let s2 : get_or t2 v d ≡ cond (eqb v b) (g v (get_or t1 v d)) (get_or t1 v d) =
      ap (λ s. get_or s v d) e2 ∙ one t1 b v (omega arith) in
      let s3 : get_or t3 v d ≡ cond (eqb v c) (g v (get_or t2 v d)) (get_or t2 v d) =
      ap (λ s. get_or s v d) e3 ∙ one t2 c v (omega arith) in
      s3 ∙ (rw (s2, s1) (folded v (eqb v a) (eqb v b) (eqb v c) (get_or t v d)))

-- A fact of all cells that the new cell has too.
pub kept : {A : Type 0} (d : A) (P : A → Type 0) (t : List A) (a : ℕ) (x : A) → a < length t
    → ((v : ℕ) → v < length t → P (get_or t v d)) → P x →
    (v : ℕ) → v < length (set t a x) → P (get_or (set t a x) v d)
kept d P t a x l all new v m =
    elim (cases_eq v a) [
      | inl is ↦ subst (λ w. P (get_or (set t a x) w d)) (sym is)
          (subst P (sym (get_or-set_same t a x d l)) new)
      | inr differs ↦
          subst P (sym (get_or-set_other t a v x d differs))
          (all v (omega (arith, length-set t a x)))
    ]
