-- One merge of a pair that keeps apart: no side and no face comes twice.
use Rattle.std.proofs.Common.{◌≡◌, ◌≢◌, ℕ, ◌⊎◌, inl, inr, refl, sym, ap, ◌∙◌, subst, arith}
use Rattle.std.proofs.lemmas.Grind.{common_steps}
use Rattle.pm_base.specs.Sides.{Net, next, to, third, Stands, NoSideTwice}
use Rattle.pm_base.proofs.Sides.{stands_next}
use Rattle.pm_runs.specs.Surfaces.{merge}
use Rattle.pm_runs.specs.Pairs.{Runs, Joined, HasFace, IsPair}
use Rattle.pm_runs.specs.Merged.{NoMirror, KeepsApart, merged, IsFresh}
use Rattle.pm_runs.proofs.Merges.{turned, merge-pair, merge-same}
use Rattle.pm_runs.proofs.Sides.{stands_back, runs_next, runs_last, third_next}

module _ (m : Net) (t u s : ℕ) (fresh : IsFresh m s) where
  -- a side that stands afterwards stood before
  pub stood : (e : ℕ) → Stands (merged m t u s) e → Stands m e
  stood e st = grind (arith, common_steps)

  fresh_to : (e : ℕ) → Stands m e → to m e ≢ s
  fresh_to e st = fresh (next e) (stands_next m e st)

  fresh_third : (e : ℕ) → Stands m e → third m e ≢ s
  fresh_third e st = fresh (next (next e)) (stands_next m (next e) (stands_next m e st))

  -- and one whose face doesn't hold both ends stands still
  pub stays : (e : ℕ) → Stands m e → (IsPair t u (m.from e) (to m e) → ⊥)
      → (IsPair t u (to m e) (third m e) → ⊥) → (IsPair t u (third m e) (m.from e) → ⊥)
      → Stands (merged m t u s) e
  stays e st a b c = grind (arith, common_steps, fresh_third e st, fresh_to e st, merge-same t u s)

  -- no side of a face that holds both ends stands afterwards
  pub gone : (x a b : ℕ) → IsPair t u a b → Runs m x a b → Stands (merged m t u s) x → ⊥
  gone x a b pair r st = let p =
      merge-pair t u s a b pair in
      st.first (ap (merge t u s) r.begins ∙ p.0 ∙ sym p.1 ∙ sym (ap (merge t u s) r.ends))

  pub gone_next : (x a b : ℕ) → IsPair t u a b → Runs m x a b → Stands (merged m t u s) (next x) → ⊥
  gone_next x a b pair r st = gone x a b pair r (stands_back (merged m t u s) x st)

  pub gone_last : (x a b : ℕ) → IsPair t u a b → Runs m x a b
      → Stands (merged m t u s) (next (next x)) → ⊥
  gone_last x a b pair r st = gone_next x a b pair r (stands_back (merged m t u s) (next x) st)

  module _ (keeps : KeepsApart m t u) (once : NoSideTwice m) where
    -- a common neighbour is the third corner of a face that holds both
    over : (a b q : ℕ) → IsPair t u a b → Joined m a q → Joined m b q
        → (x : ℕ) × (Runs m x a b ⊎ Runs m x b a) × (third m x ≡ q)
    over a b q pair j k =
        elim pair [
          | inl p ↦
              let c = keeps.common q (subst (λ v. Joined m v q) p.0 j)
              (subst (λ v. Joined m v q) p.1 k) in (
                c.0,
                elim c.1 [
                  | inl r ↦ inl (record {
                    stands = r.stands;
                    begins = r.begins ∙ sym p.0;
                    ends = r.ends ∙ sym p.1;
                  })
                  | inr r ↦ grind (arith, common_steps)
                ],
                c.2,
              )
          | inr p ↦
              let c = keeps.common q (subst (λ v. Joined m v q) p.1 k)
              (subst (λ v. Joined m v q) p.0 j) in (
                c.0,
                elim c.1 [
                  | inl r ↦ inr (record {
                    stands = r.stands;
                    begins = r.begins ∙ sym p.1;
                    ends = r.ends ∙ sym p.0;
                  })
                  | inr r ↦ grind (arith, common_steps)
                ],
                c.2,
              )
        ]

    same : (e g p q : ℕ) → Runs m e p q → Runs m g p q → e ≡ g
    same e g p q r w = once e g r.stands w.stands (r.begins ∙ sym w.begins) (r.ends ∙ sym w.ends)

    -- A side from a to q that stays isn't one of a face over b, a
    not_left : (x a b q e : ℕ) → IsPair t u a b → Runs m x b a → third m x ≡ q → Runs m e a q
        → Stands (merged m t u s) e → ⊥
    not_left x a b q e pair r is w st =
        gone_next x b a (turned t u a b pair) r
        (subst (Stands (merged m t u s)) (same e (next x) a q w (runs_next m x b a q r is)) st)

    -- and one from q to a isn't one of a face over a, b
    not_right : (x a b q e : ℕ) → IsPair t u a b → Runs m x a b → third m x ≡ q → Runs m e q a
        → Stands (merged m t u s) e → ⊥
    not_right x a b q e pair r is w st =
        gone_last x a b pair r
        (subst (Stands (merged m t u s)) (same e (next (next x)) q a w (runs_last m x a b q r is))
        st)

    -- Sides that stay, from a to q and from q to b: the face between them runs from a to b
    pub wedge : (a b q e g : ℕ) → IsPair t u a b → Runs m e a q → Stands (merged m t u s) e
        → Runs m g q b → (x : ℕ) × Runs m x a b × (third m x ≡ q)
    wedge a b q e g pair w st v =
        let c = over a b q pair (inl (e, w)) (inr (g, v)) in
        elim c.1 [ inl r ↦ (c.0, r, c.2) | inr r ↦ absurd (not_left c.0 a b q e pair r c.2 w st) ]

    -- no two that stay run from the two ends to one vertex, or back
    no_two_out : (a b q e g : ℕ) → IsPair t u a b → Runs m e a q → Stands (merged m t u s) e
        → Runs m g b q → Stands (merged m t u s) g → ⊥
    no_two_out a b q e g pair w st v st' =
        let c = over a b q pair (inl (e, w)) (inl (g, v)) in
        elim c.1 [
          | inl r ↦ not_left c.0 b a q g (turned t u a b pair) r c.2 v st'
          | inr r ↦ not_left c.0 a b q e pair r c.2 w st
        ]

    no_two_in : (a b q e g : ℕ) → IsPair t u a b → Runs m e q a → Stands (merged m t u s) e
        → Runs m g q b → Stands (merged m t u s) g → ⊥
    no_two_in a b q e g pair w st v st' =
        let c = over a b q pair (inr (e, w)) (inr (g, v)) in
        elim c.1 [
          | inl r ↦ not_right c.0 a b q e pair r c.2 w st
          | inr r ↦ not_right c.0 b a q g (turned t u a b pair) r c.2 v st'
        ]

    both_ends : (e a b : ℕ) → IsPair t u (m.from e) a → IsPair t u (to m e) b
        → Stands (merged m t u s) e → ⊥
    both_ends e a b p q st = st.first ((merge-pair t u s _ _ p).0 ∙ sym (merge-pair t u s _ _ q).0)

    side : (e p q : ℕ) → Stands m e → m.from e ≡ p → to m e ≡ q → Runs m e p q
    side e p q st a b = record { stands = st; begins = a; ends = b }

    pub once_after : NoSideTwice (merged m t u s)
    once_after e g st st' a b =
        let se = stood e st in
        let sg = stood g st' in
        elim (merge-same t u s _ _ (fresh e se) (fresh g sg) a) [
          | inl p ↦
              elim (merge-same t u s _ _ (fresh_to e se) (fresh_to g sg) b) [
                | inl q ↦ once e g se sg p q
                | inr q ↦ absurd
                    (no_two_in (to m e) (to m g) (m.from e) e g q (side e _ _ se refl refl) st
                    (side g _ _ sg (sym p) refl) st')
              ]
          | inr p ↦
              elim (merge-same t u s _ _ (fresh_to e se) (fresh_to g sg) b) [
                | inl q ↦ absurd
                    (no_two_out (m.from e) (m.from g) (to m e) e g p (side e _ _ se refl refl) st
                    (side g _ _ sg refl (sym q)) st')
                | inr q ↦ absurd (both_ends e _ _ p q st)
              ]
        ]

    -- two faces that stay, with p and q in common and the two ends for third corners
    mirror_third : (e g : ℕ) → Stands (merged m t u s) e → Stands (merged m t u s) g
        → m.from g ≡ to m e → to m g ≡ m.from e → IsPair t u (third m e) (third m g) → ⊥
    mirror_third e g st st' i j pair =
        let se = stood e st in
        let sg = stood g st' in
        let p = m.from e in
        let q = to m e in
        let a = third m e in
        let b = third m g in
        let after = merged m t u s in
        let st1 = stands_next after e st in
        let st2 = stands_next after (next e) st1 in
        let st1' = stands_next after g st' in
        let st2' = stands_next after (next g) st1' in
        let qa = runs_next m e p q a (side e p q se refl refl) refl in
        let ap_ = runs_last m e p q a (side e p q se refl refl) refl in
        let pb = runs_next m g q p b (side g q p sg i j) refl in
        let bq = runs_last m g q p b (side g q p sg i j) refl in
        let (x, rx, px) = wedge a b p (next (next e)) (next g) pair ap_ st2 pb in
        let (y, ry, py) = wedge b a q (next (next g)) (next e) (turned t u a b pair) bq st2' qa in
        let face_a : (v w : ℕ) → (v ≡ p) × (w ≡ q) → HasFace m a v w =
        λ v w k. (
          next (next e),
          ap_.stands,
          refl,
          inl (ap_.ends ∙ sym k.0, third_next m (next e) ∙ sym k.1),
        ) in
        let face_a' : (v w : ℕ) → (v ≡ q) × (w ≡ p) → HasFace m a v w =
        λ v w k. (
          next (next e),
          ap_.stands,
          refl,
          inr (ap_.ends ∙ sym k.1, third_next m (next e) ∙ sym k.0),
        ) in
        let face_b : (v w : ℕ) → (v ≡ q) × (w ≡ p) → HasFace m b v w =
        λ v w k. (
          next (next g),
          bq.stands,
          refl,
          inl (
            bq.ends ∙ sym k.0,
            third_next m (next g)
                ∙ j ∙ sym k.1,
          ),
        ) in
        let face_b' : (v w : ℕ) → (v ≡ p) × (w ≡ q) → HasFace m b v w =
        λ v w k. (
          next (next g),
          bq.stands,
          refl,
          inr (
            bq.ends ∙ sym k.1,
            third_next m (next g)
                ∙ j ∙ sym k.0,
          ),
        ) in
        elim pair [
          | inl k ↦
              keeps.thirds x y (side x t u rx.stands (rx.begins ∙ k.0) (rx.ends ∙ k.1))
              (side y u t ry.stands (ry.begins ∙ k.1) (ry.ends ∙ k.0))
              (subst (λ v. HasFace m v (third m x) (third m y)) k.0 (face_a _ _ (px, py)))
              (subst (λ v. HasFace m v (third m x) (third m y)) k.1 (face_b' _ _ (px, py)))
          | inr k ↦
              keeps.thirds y x (side y t u ry.stands (ry.begins ∙ k.1) (ry.ends ∙ k.0))
              (side x u t rx.stands (rx.begins ∙ k.0) (rx.ends ∙ k.1))
              (subst (λ v. HasFace m v (third m y) (third m x)) k.1 (face_b _ _ (py, px)))
              (subst (λ v. HasFace m v (third m y) (third m x)) k.0 (face_a' _ _ (py, px)))
        ]

    pub no_mirror_after : NoMirror m → NoMirror (merged m t u s)
    no_mirror_after none e g st st' i j k =
        let se = stood e st in
        let sg = stood g st' in
        let after = merged m t u s in
        elim (merge-same t u s _ _ (fresh g sg) (fresh_to e se) i) [
          | inl a ↦
              elim (merge-same t u s _ _ (fresh_to g sg) (fresh e se) j) [
                | inl b ↦
                    elim (merge-same t u s _ _ (fresh_third g sg) (fresh_third e se) k) [
                      | inl c ↦ none e g se sg a b c
                      | inr c ↦ mirror_third e g st st' a b (turned t u _ _ c)
                    ]
                | inr b ↦
                    elim (merge-same t u s _ _ (fresh_third g sg) (fresh_third e se) k) [
                      | inl c ↦ mirror_third (next e) (next (next g)) (stands_next after e st)
                          (stands_next after (next g) (stands_next after g st')) c (third_next m g
                          ∙ a) (subst (λ v. IsPair t u v (third m (next (next g))))
                          (sym (third_next m e))
                          (subst (IsPair t u (m.from e)) (sym (third_next m (next g)))
                          (turned t u _ _ b)))
                      | inr c ↦ st'.second ((merge-pair t u s _ _ b).0
                          ∙ sym (merge-pair t u s _ _ c).0)
                    ]
              ]
          | inr a ↦
              elim (merge-same t u s _ _ (fresh_to g sg) (fresh e se) j) [
                | inl b ↦
                    elim (merge-same t u s _ _ (fresh_third g sg) (fresh_third e se) k) [
                      | inl c ↦ mirror_third (next (next e)) (next g)
                          (stands_next after (next e) (stands_next after e st))
                          (stands_next after g st') (b ∙ sym (third_next m e)) c
                          (subst (λ v. IsPair t u v (third m (next g)))
                          (sym (third_next m (next e)))
                          (subst (IsPair t u (to m e)) (sym (third_next m g)) (turned t u _ _ a)))
                      | inr c ↦ st'.last ((merge-pair t u s _ _ c).0
                          ∙ sym (merge-pair t u s _ _ a).0)
                    ]
                | inr b ↦ st'.first ((merge-pair t u s _ _ a).0 ∙ sym (merge-pair t u s _ _ b).0)
              ]
        ]
