-- Legality of a pair is a matter of the faces at its ends; a merge changes only what is near.
use Rattle.std.proofs.Common.{◌≡◌, ◌≢◌, ℕ, inl, inr, refl, sym, ◌∙◌, subst, arith}
use Rattle.std.proofs.lemmas.Grind.{common_steps}
use Rattle.pm_base.specs.Sides.{Net, next, to, third, Stands, HasNoTwin, IsBorder}
use Rattle.pm_base.proofs.Sides.{stands_next}
use Rattle.pm_runs.specs.Surfaces.{merge}
use Rattle.pm_runs.specs.Pairs.{Runs, HasSide, Joined, HasFace, IsPair}
use Rattle.pm_runs.specs.Merged.{KeepsApart, IsLinkable, AgreesAt, merged, IsFresh}
use Rattle.pm_runs.proofs.Merges.{merge-pair, merge-other}
use Rattle.pm_runs.proofs.Sides.{stands_back, runs_next, runs_last, third_next}
use Rattle.pm_runs.proofs.Apart.{stood, stays}

pub agrees-sym : (m n : Net) (p : ℕ) → AgreesAt m n p → AgreesAt n m p
agrees-sym m n p a = record { forth = a.back; back = a.forth }

module _ (m n : Net) where
  runs-from : (e p q : ℕ) → AgreesAt m n p → Runs m e p q → Runs n e p q
  runs-from e p q a r = let f =
      a.forth e r.stands r.begins in record { stands = f.0; begins = f.1; ends = f.2 ∙ r.ends }

  -- a side that runs to p is seen from its face's corner at p
  pub runs-to : (e p q : ℕ) → AgreesAt m n q → Runs m e p q → Runs n e p q
  runs-to e p q a r =
      let f = a.forth (next e) (stands_next m e r.stands) r.ends in
      record {
        stands = stands_back n e f.0;
        begins =
            sym (third_next n e) ∙ f.3 ∙ third_next m e ∙ r.begins;
        ends = f.1;
      }

  third-from : (e p q : ℕ) → AgreesAt m n p → Runs m e p q → third n e ≡ third m e
  third-from e p q a r = (a.forth e r.stands r.begins).3

  has_side : (p q : ℕ) → AgreesAt m n p → HasSide m p q → HasSide n p q
  has_side p q a (e, r) = (e, runs-from e p q a r)

  has_side_to : (p q : ℕ) → AgreesAt m n q → HasSide m p q → HasSide n p q
  has_side_to p q a (e, r) = (e, runs-to e p q a r)

  joined : (p q : ℕ) → AgreesAt m n p → Joined m p q → Joined n p q
  joined p q a j = elim j [ inl k ↦ inl (has_side p q a k) | inr k ↦ inr (has_side_to q p a k) ]

  has_face : (p v w : ℕ) → AgreesAt m n p → HasFace m p v w → HasFace n p v w
  has_face p v w a (e, st, is, way) = grind (arith, common_steps)

  -- a side with an end at p that has no twin in one has none in the other
  border_from : (e p q : ℕ) → AgreesAt m n p → Runs m e p q → HasNoTwin m e → HasNoTwin n e
  border_from e p q a r alone g twin =
      let w = runs-from e p q a r in
      let f = a.back (next g) (stands_next n g twin.stands) (twin.ends ∙ w.begins) in
      alone g (record {
        stands = stands_back m g f.0;
        begins = sym (third_next m g) ∙ f.3
            ∙ third_next n g ∙ twin.begins ∙ w.ends ∙ sym r.ends;
        ends = f.1 ∙ sym r.begins;
      })

  border_to : (e p q : ℕ) → AgreesAt m n q → Runs m e p q → HasNoTwin m e → HasNoTwin n e
  border_to e p q a r alone g twin = grind (arith, common_steps, runs-to e p q a r)

  on_border : (p : ℕ) → AgreesAt m n p → IsBorder m p → IsBorder n p
  on_border p a (e, b, way) =
      elim way [
        | inl is ↦
            let r : Runs m e p (to m e) = record { stands = b.stands; begins = is; ends = refl } in
            let w = runs-from e p _ a r in
            (e, record { stands = w.stands; alone = border_from e p _ a r b.alone }, inl w.begins)
        | inr is ↦
            let r : Runs m e (m.from e) p = grind (arith, common_steps) in
            let w = runs-to e _ p a r in
            (e, record { stands = w.stands; alone = border_to e _ p a r b.alone }, inr w.ends)
      ]

module _ (m n : Net) (t u : ℕ) (a : AgreesAt m n t) (b : AgreesAt m n u) where
  a' : AgreesAt n m t
  a' = agrees-sym m n t a

  b' : AgreesAt n m u
  b' = agrees-sym m n u b

  same-apart : KeepsApart m t u → KeepsApart n t u
  same-apart keeps = record {
    common = λ w j k.
        let (e, links, is) = keeps.common w (joined n m t w a' j) (joined n m u w b' k) in
        elim links [
          | inl r ↦ (e, inl (runs-from m n e t u a r), third-from m n e t u a r ∙ is)
          | inr r ↦ (e, inr (runs-from m n e u t b r), third-from m n e u t b r ∙ is)
        ];
    thirds = λ e g r w f k.
        let x = third-from n m e t u a' r in
        let y = third-from n m g u t b' w in
        let f' = subst (λ v. HasFace m t v (third m g)) (sym x)
        (subst (λ v. HasFace m t (third n e) v) (sym y) (has_face n m t _ _ a' f)) in
        let k' = subst (λ v. HasFace m u v (third m g)) (sym x)
        (subst (λ v. HasFace m u (third n e) v) (sym y) (has_face n m u _ _ b' k)) in
        keeps.thirds e g (runs-from n m e t u a' r) (runs-from n m g u t b' w) f' k';
  }

  pub same-linkable : IsLinkable m t u → IsLinkable n t u
  same-linkable ok = record {
    joined = joined m n t u a ok.joined;
    apart = same-apart ok.apart;
    border = λ x y s w. ok.border (on_border n m t a' x) (on_border n m u b' y)
        (has_side n m t u a' s) (has_side n m u t b' w);
    single = λ e links x y z.
        elim links [
          | inl r ↦ ok.single e (inl (runs-from n m e t u a' r)) (border_from n m e t u a' r x)
              (border_from n m (next e) u _ b' (runs_next n e t u _ r refl) y)
              (border_to n m (next (next e)) _ t a' (runs_last n e t u _ r refl) z)
          | inr r ↦ ok.single e (inr (runs-from n m e u t b' r)) (border_from n m e u t b' r x)
              (border_from n m (next e) t _ a' (runs_next n e u t _ r refl) y)
              (border_to n m (next (next e)) _ u b' (runs_last n e u t _ r refl) z)
        ];
  }

module _ (m : Net) (t u s p : ℕ) (fresh : IsFresh m s) (n_s : p ≢ s) (n_t : p ≢ t) (n_u : p ≢ u)
    (off_t : Joined m p t → ⊥) (off_u : Joined m p u → ⊥) where
  pub not_to : (e : ℕ) → Stands m e → m.from e ≡ p → (to m e ≢ t) × (to m e ≢ u)
  not_to e st is = grind (arith, common_steps)

  pub not_third : (e : ℕ) → Stands m e → m.from e ≡ p → (third m e ≢ t) × (third m e ≢ u)
  not_third e st is =
      let o : (v : ℕ) → third m e ≡ v
      → HasSide m v p =
      λ v z. (
        next (next e),
        runs_last m e p (to m e) v
            (record { stands = st; begins = is; ends = refl }) z,
      ) in
      (λ z. off_t (inr (o t z)), λ z. off_u (inr (o u z)))

  of_pair : (v w : ℕ) → v ≢ t → v ≢ u → IsPair t u v w → ⊥
  of_pair v w x y pair = elim pair [ inl k ↦ x k.0 | inr k ↦ y k.0 ]

  kept_corners : (e : ℕ) → Stands m e → m.from e ≡ p → Stands (merged m t u s) e
      × (merge t u s (m.from e) ≡ p) × (merge t u s (to m e) ≡ to m e)
      × (merge t u s (third m e) ≡ third m e)
  kept_corners e st is =
      let x = not_to e st is in
      let y = not_third e st is in
      let f : m.from e ≢ t = λ z. n_t (sym is ∙ z) in
      let g : m.from e ≢ u = λ z. n_u (sym is ∙ z) in (
        stays m t u s fresh e st (of_pair _ _ f g) (of_pair _ _ x.0 x.1) (of_pair _ _ y.0 y.1),
        merge-other t u s (m.from e) f g ∙ is,
        merge-other t u s (to m e) x.0 x.1,
        merge-other t u s (third m e) y.0 y.1,
      )

  pub was_at : (e : ℕ) → Stands m e → merge t u s (m.from e) ≡ p → m.from e ≡ p
  was_at e st q =
      grind (
        arith,
        common_steps,
        merge-other t u s (m.from e),
        merge-pair t u s t u (inl (refl, refl)),
      )

  -- A merge leaves the faces at a vertex that is neither an end nor beside one
  pub merge-agrees : AgreesAt m (merged m t u s) p
  merge-agrees = grind (arith, common_steps, kept_corners, stood, was_at)
