-- Two chains of faces become one: the chain at q with that at p in place of p.
use Rattle.std.proofs.Common.{◌≡◌, ◌≢◌, ℕ, cond, eqb, ◌⊎◌, inl, inr, refl, sym, ◌∙◌, subst}
use Rattle.std.proofs.lemmas.Bool.{eq-eqb, ne_eqb, cases_eq, cond-true, cond-false}
use Rattle.pm_base.specs.Sides.{Net, NoSideTwice}
use Rattle.pm_base.specs.Fans.{IsPairAt}
use Rattle.pm_base.specs.Rounds.{Goes, stay, on, IsRound}
use Rattle.pm_base.proofs.Sides.{turn, first-second, second-corner, one_second, one_first}
use Rattle.pm_base.proofs.Rounds.{append}

module _ (m n : Net) (once : NoSideTwice m) (p q s : ℕ)
    (from_p : (x y : ℕ) → IsPairAt m p x y → x ≢ q → y ≢ q → IsPairAt n s x y)
    (from_q : (x y : ℕ) → IsPairAt m q x y → x ≢ p → y ≢ p → IsPairAt n s x y)
    (at_s : (x y : ℕ) → IsPairAt n s x y → (IsPairAt m p x y × x ≢ q) ⊎ (IsPairAt m q x y × x ≢ p))
    (b : ℕ) (edge : IsPairAt m p q b)
    (p_round : IsRound m p) (q_round : IsRound m q)
    (p_spins : (x y : ℕ) → IsPairAt m p x y → Goes m p q x) where
  -- what p has after q is reached from b
  p_way : {a x : ℕ} → Goes m p a x → a ≡ q → x ≢ q → Goes n s b x
  p_way stay is ne = absurd (ne is)
  p_way (on {x = y} {y = x} w f) is ne =
      elim (cases_eq y q) [
        | inl same ↦
            subst (λ i. Goes n s b i)
            (one_second m once edge (subst (λ i. IsPairAt m p i x) same f)) stay
        | inr other ↦ on (p_way w is other) (from_p y x f other ne)
      ]

  image : ℕ → ℕ
  image z = cond (eqb z p) b z

  image-p : (z : ℕ) → z ≡ p → image z ≡ b
  unfolding image
  image-p z is = cond-true (eqb z p) b z (eq-eqb z p is)

  image-other : (z : ℕ) → z ≢ p → image z ≡ z
  unfolding image
  image-other z ne = cond-false (eqb z p) b z (ne_eqb z p ne)

  q_step : (y z : ℕ) → IsPairAt m q y z → Goes n s (image y) (image z)
  q_step y z f =
      elim (cases_eq y p) [
        | inl is ↦
            let f' : IsPairAt m q p z = subst (λ i. IsPairAt m q i z) is f in
            let g = turn m q p z f' in
            let z_p : z ≢ p = λ e. first-second m q p z f' (sym e) in
            let z_q : z ≢ q = second-corner m q p z f' in
            subst (λ i. Goes n s i (image z)) (sym (image-p y is))
            (subst (λ i. Goes n s b i) (sym (image-other z z_p)) (p_way (p_spins z q g) refl z_q))
        | inr y_p ↦
            elim (cases_eq z p) [
              | inl is ↦
                  let e = one_first m once (subst (λ i. IsPairAt m q y i) is f)
                  (turn m p q b edge) in
                  subst (λ i. Goes n s (image y) i) (image-other y y_p ∙ e ∙ sym (image-p z is))
                  stay
              | inr z_p ↦
                  subst (λ i. Goes n s i (image z)) (sym (image-other y y_p))
                  (subst (λ i. Goes n s y i) (sym (image-other z z_p))
                  (on stay (from_q y z f y_p z_p)))
            ]
      ]

  q_way : {a x : ℕ} → Goes m q a x → Goes n s (image a) (image x)
  q_way stay = stay
  q_way (on {x = y} {y = z} w f) = append n s (q_way w) (q_step y z f)

  pub joined_round : IsRound n s
  joined_round =
      let (a, all) = q_round in
      let f = turn m p q b edge in
      let to_b = subst (λ i. Goes n s (image a) i) (image-p p refl) (q_way (on (all b p f) f)) in (
        image a,
        λ x y g.
            elim (at_s x y g) [
              | inl (h, ne) ↦ append n s to_b (p_way (p_spins x y h) refl ne)
              | inr (h, ne) ↦
                  subst (λ i. Goes n s (image a) i) (image-other x ne) (q_way (all x y h))
            ],
      )
