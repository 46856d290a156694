-- What is said of a mesh without its numbers holds under other numbers.
use Rattle.std.proofs.Common.{◌≡◌, ℕ, ◌*◌, ◌<◌, Option, Some, None, inl, inr, refl, sym, ap, ◌∙◌}
use Rattle.std.proofs.Common.{arith}
use Rattle.std.proofs.lemmas.Grind.{common_steps}
use Rattle.std.proofs.Common.{subst}
use Rattle.pm_base.proofs.Sides.{next-lt as next-side}
use Rattle.pm_base.specs.Sides.{next, Net, to, third, Stands, NoSideTwice}
use Rattle.pm_number.specs.Stages.{BeginsSide, side_moved, Renames}
use Rattle.pm_runs.specs.Merged.{NoMirror, StandsAcross, KeepsApart}
use Rattle.pm_runs.specs.Pairs.{Runs, Joined, HasFace}

module _ (m n : Net) (side name : ℕ → ℕ) (map : Renames m n side name) where
  pub at_to : (e : ℕ) → e < 3 * m.faces → to n (side e) ≡ name (to m e)
  at_to e l = ap n.from (sym (map.turns e l)) ∙ map.from (next e) (next-side m.faces e l)

  pub at_third : (e : ℕ) → e < 3 * m.faces → third n (side e) ≡ name (third m e)
  at_third e l = grind (arith, common_steps, next-side m.faces e l, next-side m.faces (next e))

  used : (e : ℕ) → e < 3 * m.faces → BeginsSide m (m.from e)
  used e l = (e, l, refl)

  used_to : (e : ℕ) → e < 3 * m.faces → BeginsSide m (to m e)
  used_to e l = (next e, next-side m.faces e l, refl)

  used_third : (e : ℕ) → e < 3 * m.faces → BeginsSide m (third m e)
  used_third e l = (next (next e), next-side m.faces (next e) (next-side m.faces e l), refl)

  pub stands-moved : (e : ℕ) → Stands m e → Stands n (side e)
  stands-moved e st = grind (arith, common_steps, at_third, at_to, used, used_third, used_to)

  pub stood-before : (e : ℕ) → e < 3 * m.faces → Stands n (side e) → Stands m e
  stood-before e l st = grind (arith, common_steps, at_third, at_to)

  pub runs-moved : (e p q : ℕ) → Runs m e p q → Runs n (side e) (name p) (name q)
  runs-moved e p q r = grind (arith, common_steps, at_to, stands-moved)

  -- a side of n between vertices of m
  pub runs-before : (e p q : ℕ) → e < 3 * m.faces → BeginsSide m p → BeginsSide m q
      → Runs n (side e) (name p) (name q) → Runs m e p q
  runs-before e p q l a b r =
      grind (arith, common_steps, at_to e l, stood-before e l r.stands, used e l, used_to e l)

  data Before (P : ℕ → Type 0) (e : ℕ) : Type 0 where
    was : (g : ℕ) → g < 3 * m.faces → side g ≡ e → P g → Before P e

  pub across-moved : (e : ℕ) (r : Option ℕ) → e < 3 * m.faces → StandsAcross m e r
      → StandsAcross n (side e) (side_moved side r)
  across-moved e None l border =
      λ g w.
      let (g', k, is) = map.back g w.stands.is_side in
      let st' = stood-before g' k (subst (Stands n) (sym is) w.stands) in
      border g' (record {
        stands = st';
        begins = map.one _ _ (used g' k) (used_to e l) (sym (map.from g' k) ∙ ap n.from is
            ∙ w.begins ∙ at_to e l);
        ends = map.one _ _ (used_to g' k) (used e l) (sym (at_to g' k) ∙ ap (to n) is ∙ w.ends
            ∙ map.from e l);
      })
  across-moved e (Some g) l w =
      grind (arith, common_steps, at_to e l, at_to g w.stands.is_side, stands-moved g w.stands)

  pub once-moved : NoSideTwice m → NoSideTwice n
  once-moved once e g st st' a b =
      let (e', k, is) = map.back e st.is_side in
      let (g', l, is') = map.back g st'.is_side in
      let se = stood-before e' k (subst (Stands n) (sym is) st) in
      let sg = stood-before g' l (subst (Stands n) (sym is') st') in
      let same = once e' g' se sg
      (map.one _ _ (used e' k) (used g' l) (sym (map.from e' k) ∙ ap n.from is ∙ a
      ∙ sym (ap n.from is') ∙ map.from g' l))
      (map.one _ _ (used_to e' k) (used_to g' l) (sym (at_to e' k) ∙ ap (to n) is ∙ b
      ∙ sym (ap (to n) is') ∙ at_to g' l)) in
      sym is ∙ ap side same ∙ is'

  pub no_mirror-moved : NoMirror m → NoMirror n
  no_mirror-moved none e g st st' a b c =
      let (e', k, is) = map.back e st.is_side in
      let (g', l, is') = map.back g st'.is_side in
      let se = stood-before e' k (subst (Stands n) (sym is) st) in
      let sg = stood-before g' l (subst (Stands n) (sym is') st') in
      none e' g' se sg
      (map.one _ _ (used g' l) (used_to e' k) (sym (map.from g' l) ∙ ap n.from is' ∙ a
      ∙ sym (ap (to n) is) ∙ at_to e' k))
      (map.one _ _ (used_to g' l) (used e' k) (sym (at_to g' l) ∙ ap (to n) is' ∙ b
      ∙ sym (ap n.from is) ∙ map.from e' k))
      (map.one _ _ (used_third g' l) (used_third e' k) (sym (at_third g' l) ∙ ap (third n) is' ∙ c
      ∙ sym (ap (third n) is) ∙ at_third e' k))

  -- a vertex of n that is joined to one of m has a name
  named : (p w : ℕ) → BeginsSide m p → Joined n (name p) w → (v : ℕ) × BeginsSide m v × (name v ≡ w)
      × Joined m p v
  named p w a j =
      elim j [
        | inl (e, r) ↦
            let (e', k, is) = map.back e r.stands.is_side in
            let r' : Runs n (side e') (name p) (name (to m e')) =
            subst (λ g. Runs n g (name p) (name (to m e'))) (sym is)
            (record {
              stands = r.stands;
              begins = r.begins;
              ends =
                  ap (to n) (sym is) ∙ at_to e' k;
            }) in (
              to m e',
              used_to e' k,
              sym (at_to e' k) ∙ ap (to n) is
                  ∙ r.ends,
              inl (e', runs-before e' p _ k a (used_to e' k) r'),
            )
        | inr (e, r) ↦
            let (e', k, is) = map.back e r.stands.is_side in
            let r' : Runs n (side e') (name (m.from e')) (name p) =
            subst (λ g. Runs n g (name (m.from e')) (name p)) (sym is)
            (record {
              stands = r.stands;
              begins = ap n.from (sym is) ∙ map.from e' k;
              ends =
                  r.ends;
            }) in (
              m.from e',
              used e' k,
              sym (map.from e' k) ∙ ap n.from is
                  ∙ r.begins,
              inr (e', runs-before e' _ p k (used e' k) a r'),
            )
      ]

  links-before : (e p q : ℕ) → BeginsSide m p → BeginsSide m q → Runs n e (name p) (name q)
      → (g : ℕ) × (side g ≡ e) × Runs m g p q
  links-before e p q a b r =
      let (e', k, is) = map.back e r.stands.is_side in
      (e', is, runs-before e' p q k a b (subst (λ g. Runs n g (name p) (name q)) (sym is) r))

  face-before : (a b c : ℕ) → BeginsSide m a → BeginsSide m b → BeginsSide m c
      → HasFace n (name a) (name b) (name c) → HasFace m a b c
  face-before a b c x y z (e, st, is, way) =
      let (e', k, q) = map.back e st.is_side in
      let st' = stood-before e' k (subst (Stands n) (sym q) st) in
      let t' : (v : ℕ) → BeginsSide m v → to n e ≡ name v
      → to m e' ≡ v =
      λ v w i. map.one _ _ (used_to e' k) w (sym (at_to e' k) ∙ ap (to n) q ∙ i) in
      let u' : (v : ℕ) → BeginsSide m v → third n e ≡ name v
      → third m e' ≡ v =
      λ v w i. map.one _ _ (used_third e' k) w (sym (at_third e' k) ∙ ap (third n) q ∙ i) in (
        e',
        st',
        map.one _ _ (used e' k) x (sym (map.from e' k) ∙ ap n.from q ∙ is),
        elim way [ inl i ↦ inl (t' b y i.0, u' c z i.1) | inr i ↦ inr (t' c z i.0, u' b y i.1) ],
      )

  pub apart-moved : (t u : ℕ) → BeginsSide m t → BeginsSide m u → KeepsApart m t u
      → KeepsApart n (name t) (name u)
  apart-moved t u a b keeps = record {
    common = λ w j k.
        let (v, in_use, is, j') = named t w a j in
        let (v', in_use', is', k') = named u w b k in
        let same = map.one v' v in_use' in_use (is' ∙ sym is) in
        let (e, links, third_is) = keeps.common v j' (subst (Joined m u) same k') in
        elim links [
          | inl r ↦ (
            side e,
            inl (runs-moved e t u r),
            at_third e r.stands.is_side
                ∙ ap name third_is ∙ is,
          )
          | inr r ↦ (
            side e,
            inr (runs-moved e u t r),
            at_third e r.stands.is_side
                ∙ ap name third_is ∙ is,
          )
        ];
    thirds = λ e g r w f k.
        let (e', is, r') = links-before e t u a b r in
        let (g', is', w') = links-before g u t b a w in
        let x : third n e ≡ name (third m e') =
        ap (third n) (sym is) ∙ at_third e' r'.stands.is_side in
        let y : third n g ≡ name (third m g') =
        ap (third n) (sym is') ∙ at_third g' w'.stands.is_side in
        let p = used_third e' r'.stands.is_side in
        let q = used_third g' w'.stands.is_side in
        let f' = subst (λ v. HasFace n (name t) v (name (third m g'))) x
        (subst (λ v. HasFace n (name t) (third n e) v) y f) in
        let k' = subst (λ v. HasFace n (name u) v (name (third m g'))) x
        (subst (λ v. HasFace n (name u) (third n e) v) y k) in
        keeps.thirds e' g' r' w' (face-before t _ _ a p q f') (face-before u _ _ b p q k');
  }
