-- Walking round a vertex from side to side: the pairs passed are a chain, and a walk that passes
-- every pair is the fan.
use Rattle.std.proofs.Common.{◌≡◌, ◌≢◌, ℕ, zero, suc, ◌<◌, ◌≤◌, ◌⊎◌, inl, inr, refl, sym, ap, ◌∙◌}
use Rattle.std.proofs.lemmas.Grind.{common_steps}
use Rattle.std.proofs.Common.{subst, arith}
use Rattle.std.proofs.lemmas.Bool.{cases_eq}
use Rattle.pm_base.specs.Sides.{Net, side_count, to, third, Stands, NoSideTwice, around}
use Rattle.pm_base.specs.Fans.{IsPairAt, IsFan}
use Rattle.pm_base.specs.Rounds.{Goes, stay, on, NoMirrorAt}
use Rattle.pm_base.proofs.Sides.{turn, one_second}
use Rattle.pm_base.proofs.TwinLaws.{around-is, around-none, around-injective, around-stands}
use Rattle.pm_base.proofs.Walks.{after_steps, IsTrail, Stops, Returns, after_steps-zero, trail-ends}

-- From every side the walk round its vertex stops, or comes back to that side.
pub walk_ends : (m : Net) → NoSideTwice m → (a : ℕ) → Stands m a → (k : ℕ) × IsTrail (around m) a k
    × (Stops (around m) a k ⊎ Returns (around m) a k)
walk_ends m once a t =
    trail-ends (around m) (Stands m) (around-stands m once) (around-injective m once) a t
    (side_count m) (λ p h. h.is_side)

module _ (m : Net) (once : NoSideTwice m) (v a : ℕ) (start : Stands m a) (at_v : m.from a ≡ v)
    (k : ℕ) (trail : IsTrail (around m) a k) where
  abbrev pub at : ℕ → ℕ
  at i = after_steps (around m) a i

  pub on_trail : (i : ℕ) → i ≤ k → Stands m (at i) × (m.from (at i) ≡ v)
  on_trail zero l = let e =
      after_steps-zero (around m) a in (subst (Stands m) (sym e) start, ap m.from e ∙ at_v)
  on_trail (suc i) l = grind (arith, common_steps, around-is m once (at i) (at (suc i)), on_trail i)

  -- The vertices that the walk passes.
  abbrev pub rim : ℕ → ℕ
  rim zero = to m a
  rim (suc i) = third m (at i)

  pub rim-to : (i : ℕ) → i ≤ k → rim i ≡ to m (at i)
  rim-to zero l = ap (to m) (sym (after_steps-zero (around m) a))
  rim-to (suc i) l = let (t, f, s) =
      around-is m once (at i) (at (suc i)) (trail.steps i (omega arith)) in sym s

  rim-pair : (i : ℕ) → i ≤ k → IsPairAt m v (rim i) (rim (suc i))
  rim-pair i l =
      let h = on_trail i l in
      record { side = at i; stands = h.0; at = h.1; one = sym (rim-to i l); two = refl }

  rim-distinct : (i j : ℕ) → i < j → j < suc k → rim i ≢ rim j
  rim-distinct i j l b is =
      let hi = on_trail i (omega arith) in
      let hj = on_trail j (omega arith) in
      trail.distinct i j l b
      (once (at i) (at j) hi.0 hj.0 (hi.1 ∙ sym hj.1) (sym (rim-to i (omega arith)) ∙ is
      ∙ rim-to j (omega arith)))

  -- No pair leads on from where the walk stops.
  stop_last : Stops (around m) a k → (x y : ℕ) → x ≡ rim (suc k) → IsPairAt m v x y → ⊥
  stop_last end x y is f = let h =
      on_trail k (omega arith) in
      around-none m once (at k) f.side end f.stands (f.at ∙ sym h.1) (f.one ∙ is)

  rim-returns : Returns (around m) a k → rim (suc k) ≡ rim 0
  rim-returns end = let (t, f, s) = around-is m once (at k) a end in sym s

  -- What can be reached from the walk's first vertex is passed.
  pub cover : (Stops (around m) a k ⊎ Returns (around m) a k) → {c x : ℕ} → Goes m v c x
      → c ≡ to m a → (y : ℕ) → IsPairAt m v x y → (i : ℕ) × (i < suc k) × (x ≡ rim i)
      × (y ≡ rim (suc i))
  cover end {c} stay is y f = (
    0,
    omega arith,
    is,
    one_second m once f (subst (λ z. IsPairAt m v z (rim 1)) (sym is) (rim-pair 0 (omega arith))),
  )
  cover end (on {x = z} {y = x} w f) is y g =
      let (i, l, zi, xi) = cover end w is x f in
      elim (cases_eq i k) [
        | inr ne ↦ (
          suc i,
          omega arith,
          xi,
          one_second m once g
              (subst (λ q. IsPairAt m v q (rim (suc (suc i)))) (sym xi)
              (rim-pair (suc i) (omega arith))),
        )
        | inl same ↦
            let xk : x ≡ rim (suc k) = xi ∙ ap (λ q. rim (suc q)) same in
            elim end [
              | inl o ↦ absurd (stop_last o x y xk g)
              | inr c ↦
                  let x0 : x ≡ rim 0 = xk ∙ rim-returns c in (
                    0,
                    omega arith,
                    x0,
                    one_second m once g
                        (subst (λ q. IsPairAt m v q (rim 1)) (sym x0) (rim-pair 0 (omega arith))),
                  )
            ]
      ]

  pub trail_fan : (Stops (around m) a k ⊎ (Returns (around m) a k × (3 ≤ suc k)))
      → ((x y : ℕ) → IsPairAt m v x y → (i : ℕ) × (i < suc k) × (x ≡ rim i) × (y ≡ rim (suc i)))
      → IsFan m v
  trail_fan end all = record {
    w = rim;
    n = suc k;
    chain = record { here = λ i l. rim-pair i (omega arith); all = all };
    ends = elim end [
      | inl o ↦ inl (λ i j l b is.
          elim (cases_eq j (suc k)) [
            | inl last ↦
                stop_last o (rim i) (rim (suc i)) (is ∙ ap rim last) (rim-pair i (omega arith))
            | inr ne ↦ rim-distinct i j l (omega arith) is
          ])
      | inr (c, big) ↦ inr (big, rim-returns c, rim-distinct)
    ];
  }

  -- A walk that comes back has passed three faces at least, where no two have the same corners.
  pub three : NoMirrorAt m v → Returns (around m) a k → 3 ≤ suc k
  three plain c =
      elim (cases_eq k 0) [
        | inl is ↦
            let f = rim-pair 0 (omega arith) in
            absurd ((turn m v (rim 0) (rim 1) f).stands.first ((turn m v (rim 0) (rim 1) f).at
            ∙ sym (sym (ap (λ q. rim (suc q)) is) ∙ rim-returns c)
            ∙ sym (turn m v (rim 0) (rim 1) f).one))
        | inr n0 ↦
            elim (cases_eq k 1) [
              | inl is ↦
                  let e : rim 2 ≡ rim 0 = sym (ap (λ q. rim (suc q)) is) ∙ rim-returns c in
                  absurd (plain (rim 0) (rim 1) (rim-pair 0 (omega arith))
                  (subst (λ q. IsPairAt m v (rim 1) q) e (rim-pair 1 (omega arith))))
              | inr n1 ↦ omega arith
            ]
      ]
