-- What stands across each side after one merge.
use Rattle.std.proofs.Common.{◌≡◌, ◌≢◌, ℕ, Option, Some, None, ◌⊎◌, inl, inr, refl, sym, ap, ◌∙◌}
use Rattle.std.proofs.Common.{arith}
use Rattle.std.proofs.lemmas.Grind.{common_steps}
use Rattle.std.proofs.Common.{subst}
use Rattle.pm_base.specs.Sides.{Net, next, to, third, Stands, IsTwin}
use Rattle.pm_base.proofs.Sides.{stands_next}
use Rattle.pm_runs.specs.Surfaces.{merge}
use Rattle.pm_runs.specs.Pairs.{Runs, IsPair}
use Rattle.pm_runs.specs.Merged.{IsProper, StandsAcross, KeepsApart, merged, IsFresh, Past}
use Rattle.pm_runs.proofs.Merges.{turned, merge-pair, merge-same}
use Rattle.pm_runs.proofs.Sides.{runs_next, runs_last, third_next}
use Rattle.pm_runs.proofs.Apart.{stood, stays, gone_next, gone_last, wedge}

-- of a pair, the one beside b is a
pub beside : (t u v a b : ℕ) → IsPair t u a b → a ≢ b → IsPair t u v b → v ≡ a
beside t u v a b pair n w = grind (arith, common_steps)

-- what is of a pair is a or b
pub one_of : (t u v w a b : ℕ) → IsPair t u a b → IsPair t u v w → (v ≡ a) ⊎ (v ≡ b)
one_of t u v w a b pair k = grind (arith, common_steps)

module _ (m : Net) (t u s : ℕ) (fresh : IsFresh m s) (keeps : KeepsApart m t u)
    (proper : IsProper m) where
  fresh_to : (e : ℕ) → Stands m e → to m e ≢ s
  fresh_to e st = fresh (next e) (stands_next m e st)

  same : (e g p q : ℕ) → Runs m e p q → Runs m g p q → e ≡ g
  same e g p q r w =
      proper.once e g r.stands w.stands (r.begins ∙ sym w.begins) (r.ends ∙ sym w.ends)

  become_one : (a b v w : ℕ) → IsPair t u a b → v ≡ a → w ≡ b → merge t u s v ≡ merge t u s w
  become_one a b v w pair i j = let p =
      merge-pair t u s a b pair in ap (merge t u s) i ∙ p.0 ∙ sym p.1 ∙ ap (merge t u s) (sym j)

  -- the third corner of a face over the pair isn't of the pair
  outside : (x a b v w : ℕ) → IsPair t u a b → Runs m x a b → v ≡ third m x → IsPair t u v w → ⊥
  outside x a b v w pair rx is k = grind (arith, common_steps, one_of)

  distinct : (x a b : ℕ) → Runs m x a b → a ≢ b
  distinct x a b rx z = rx.stands.first (rx.begins ∙ z ∙ sym rx.ends)

  -- what stands across a face's side stays, since no face mirrors another
  pub across_last-stays : (x a b g : ℕ) → IsPair t u a b → Runs m x a b
      → StandsAcross m (next (next x)) (Some g) → Stands (merged m t u s) g
  across_last-stays x a b g pair rx w =
      let o = runs_last m x a b _ rx refl in
      let is_a : m.from g ≡ a = w.begins ∙ o.ends in
      let back : third m (next (next x)) ≡ b = third_next m (next x) ∙ rx.ends in
      stays m t u s fresh g w.stands
      (λ k. outside x a b (to m g) (m.from g) pair rx w.ends (turned t u _ _ k))
      (λ k. outside x a b (to m g) (third m g) pair rx w.ends k)
      (λ k. proper.no_mirror (next (next x)) g o.stands w.stands w.begins w.ends
      (beside t u (third m g) b a (turned t u a b pair) (λ z. distinct x a b rx (sym z))
      (subst (IsPair t u (third m g)) is_a k) ∙ sym back))

  pub across_next-stays : (x a b g : ℕ) → IsPair t u a b → Runs m x a b
      → StandsAcross m (next x) (Some g) → Stands (merged m t u s) g
  across_next-stays x a b g pair rx w =
      let o = runs_next m x a b _ rx refl in
      let is_b : to m g ≡ b = w.ends ∙ o.begins in
      let back : third m (next x) ≡ a = third_next m x ∙ rx.begins in
      stays m t u s fresh g w.stands
      (λ k. outside x a b (m.from g) (to m g) pair rx w.begins k)
      (λ k. proper.no_mirror (next x) g o.stands w.stands w.begins w.ends
      (beside t u (third m g) a b pair (distinct x a b rx)
      (turned t u _ _ (subst (λ v. IsPair t u v (third m g)) is_b k)) ∙ sym back))
      (λ k. outside x a b (m.from g) (third m g) pair rx w.begins (turned t u _ _ k))

  -- beyond the side from b: what stood across the side to a
  over_out : (x a b e : ℕ) → IsPair t u a b → Runs m x a b → Stands (merged m t u s) e
      → m.from e ≡ third m x → to m e ≡ b → (r : Option ℕ) → StandsAcross m (next (next x)) r
      → StandsAcross (merged m t u s) e r
  over_out x a b e pair rx st i j None none =
      λ g twin.
      let sg = twin.stands in
      let k = twin.begins in
      let l = twin.ends in
      let se = stood m t u s fresh e st in
      let old = stood m t u s fresh g sg in
      elim (merge-same t u s _ _ (fresh g old) (fresh_to e se) k) [
        | inl p ↦
            elim (merge-same t u s _ _ (fresh_to g old) (fresh e se) l) [
              | inl q ↦
                  let w : Runs m g b (third m x) = record {
                    stands = old;
                    begins = p ∙ j;
                    ends = q ∙ i;
                  } in
                  gone_next m t u s fresh x a b pair rx
                  (subst (Stands (merged m t u s))
                  (same g (next x) b (third m x) w (runs_next m x a b _ rx refl)) sg)
              | inr q ↦ outside x a b (m.from e) (to m g) pair rx i (turned t u _ _ q)
            ]
        | inr p ↦
            let is_a : m.from g ≡ a = grind (arith, common_steps, beside, distinct) in
            elim (merge-same t u s _ _ (fresh_to g old) (fresh e se) l) [
              | inl q ↦ none g
                  (record {
                    stands = old;
                    begins = is_a ∙ sym rx.begins ∙ sym (third_next m x);
                    ends = q ∙ i;
                  })
              | inr q ↦ outside x a b (m.from e) (to m g) pair rx i (turned t u _ _ q)
            ]
      ]
  over_out x a b e pair rx st i j (Some g) w =
      let o = runs_last m x a b _ rx refl in
      let is_a : m.from g ≡ a = w.begins ∙ o.ends in
      record {
        stands = across_last-stays x a b g pair rx w;
        begins = become_one a b (m.from g) (to m e) pair is_a j;
        ends = ap (merge t u s) (w.ends ∙ sym i);
      }

  -- and beyond the side to a: what stood across the side from b
  over_in : (x a b e : ℕ) → IsPair t u a b → Runs m x a b → Stands (merged m t u s) e → m.from e ≡ a
      → to m e ≡ third m x → (r : Option ℕ) → StandsAcross m (next x) r
      → StandsAcross (merged m t u s) e r
  over_in x a b e pair rx st i j None none =
      λ g twin.
      let sg = twin.stands in
      let k = twin.begins in
      let l = twin.ends in
      let se = stood m t u s fresh e st in
      let old = stood m t u s fresh g sg in
      elim (merge-same t u s _ _ (fresh g old) (fresh_to e se) k) [
        | inl p ↦
            elim (merge-same t u s _ _ (fresh_to g old) (fresh e se) l) [
              | inl q ↦
                  let w : Runs m g (third m x) a = record {
                    stands = old;
                    begins = p ∙ j;
                    ends = q ∙ i;
                  } in
                  gone_last m t u s fresh x a b pair rx
                  (subst (Stands (merged m t u s))
                  (same g (next (next x)) (third m x) a w (runs_last m x a b _ rx refl)) sg)
              | inr q ↦
                  let is_b : to m g ≡ b = grind (arith, common_steps, beside, distinct, turned) in
                  none g (record { stands = old; begins = p ∙ j; ends = is_b ∙ sym rx.ends })
            ]
        | inr p ↦ outside x a b (to m e) (m.from g) pair rx j (turned t u _ _ p)
      ]
  over_in x a b e pair rx st i j (Some g) w =
      let o = runs_next m x a b _ rx refl in
      let is_b : to m g ≡ b = w.ends ∙ o.begins in
      record {
        stands = across_next-stays x a b g pair rx w;
        begins = ap (merge t u s) (w.begins ∙ sym j);
        ends = become_one b a (to m g) (m.from e) (turned t u a b pair) is_b i;
      }

  -- where a face that goes stood across, what stood across its other side is across now
  pub across-past : (e c o : ℕ) → Stands (merged m t u s) e → StandsAcross m e (Some c)
      → Past m t u c o → (r : Option ℕ) → StandsAcross m o r → StandsAcross (merged m t u s) e r
  across-past e c o st w (x, links, way) r next_r =
      let (a, b, pair, rx) : (a b : ℕ) × IsPair t u a b × Runs m x a b =
      elim links [
        | inl rx ↦ (t, u, inl (refl, refl), rx)
        | inr rx ↦
            (u, t, inr (refl, refl), rx)
      ] in
      elim way [
        | inl p ↦
            let c_runs = subst (λ g. IsTwin m e g) p.0 w in
            over_out x a b e pair rx st (sym c_runs.ends) (sym c_runs.begins ∙ rx.ends) r
            (subst (λ g. StandsAcross m g r) p.1 next_r)
        | inr p ↦
            let c_runs = subst (λ g. IsTwin m e g) p.0 w in
            over_in x a b e pair rx st (sym c_runs.ends ∙ third_next m x ∙ rx.begins)
            (sym c_runs.begins) r (subst (λ g. StandsAcross m g r) p.1 next_r)
      ]

  -- elsewhere all is as before
  pub across-kept : (e : ℕ) (r : Option ℕ) → Stands (merged m t u s) e → StandsAcross m e r
      → ((c : ℕ) → r ≡ Some c → Stands (merged m t u s) c) → StandsAcross (merged m t u s) e r
  across-kept e None st border there =
      λ g twin.
      let sg = twin.stands in
      let k = twin.begins in
      let l = twin.ends in
      let se = stood m t u s fresh e st in
      let old = stood m t u s fresh g sg in
      elim (merge-same t u s _ _ (fresh g old) (fresh_to e se) k) [
        | inl p ↦
            elim (merge-same t u s _ _ (fresh_to g old) (fresh e se) l) [
              | inl q ↦ border g (record { stands = old; begins = p; ends = q })
              | inr q ↦
                  let we : Runs m e (m.from e) (to m e) = grind (arith, common_steps) in
                  let wg : Runs m g (to m e) (to m g) = grind (arith, common_steps) in
                  let (x, rx, is) =
                  wedge m t u s fresh keeps proper.once (m.from e) (to m g) (to m e) e g
                  (turned t u _ _ q) we st wg in
                  let o = runs_last m x _ _ _ rx is in
                  border (next (next x))
                  (record { stands = o.stands; begins = o.begins; ends = o.ends })
            ]
        | inr p ↦
            elim (merge-same t u s _ _ (fresh_to g old) (fresh e se) l) [
              | inl q ↦
                  let we : Runs m e (m.from e) (to m e) = grind (arith, common_steps) in
                  let wg : Runs m g (m.from g) (m.from e) = grind (arith, common_steps) in
                  let (x, rx, is) =
                  wedge m t u s fresh keeps proper.once (m.from g) (to m e) (m.from e) g e p wg
                  sg we in
                  let o = runs_next m x _ _ _ rx is in
                  border (next x) (record { stands = o.stands; begins = o.begins; ends = o.ends })
              | inr q ↦ st.first ((merge-pair t u s _ _ q).1 ∙ sym (merge-pair t u s _ _ p).1)
            ]
      ]
  across-kept e (Some c) st w there = record {
    stands = there c refl;
    begins = ap (merge t u s) w.begins;
    ends = ap (merge t u s) w.ends;
  }
