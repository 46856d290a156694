-- An oriented manifold stays one under other numbers.
use Rattle.std.proofs.Common.{◌≡◌, ℕ, inl, inr, sym, ap, ◌∙◌, subst, arith}
use Rattle.std.proofs.lemmas.Grind.{common_steps}
use Rattle.pm_base.specs.Sides.{Net, to, third, Stands}
use Rattle.pm_base.specs.Fans.{IsPairAt, IsOrientedManifold}
use Rattle.pm_base.specs.Rounds.{Goes, stay, on, IsRound}
use Rattle.pm_base.proofs.FanLaws.{used?, every_round}
use Rattle.pm_runs.proofs.Manifolds.{rounds-manifold}
use Rattle.pm_runs.proofs.Proper.{manifold-proper}
use Rattle.pm_number.specs.Stages.{Renames}
use Rattle.pm_number.proofs.Renamed.{at_to, at_third, stands-moved, stood-before, once-moved}
use Rattle.pm_number.proofs.Renamed.{no_mirror-moved}

module _ (m n : Net) (side name : ℕ → ℕ) (map : Renames m n side name) where
  pair-moved : (v x y : ℕ) → IsPairAt m v x y → IsPairAt n (name v) (name x) (name y)
  pair-moved v x y f = grind (arith, common_steps, at_third, at_to, stands-moved)

  goes-moved : (v : ℕ) {a x : ℕ} → Goes m v a x → Goes n (name v) (name a) (name x)
  goes-moved v stay = stay
  goes-moved v (on {x = x} {y = y} w f) = on (goes-moved v w) (pair-moved v x y f)

  round-moved : (manifold : IsOrientedManifold m) → (w : ℕ) → IsRound n w
  round-moved manifold w =
      elim (used? n w) [
        | inr unused ↦ (0, λ x y f. absurd (unused (f.side, f.stands, f.at)))
        | inl (e, st, at) ↦
            let (g, l, is) = map.back e st.is_side in
            let v = m.from g in
            let v_is : name v ≡ w = sym (map.from g l) ∙ ap n.from is ∙ at in
            let (a, all) = every_round m manifold v in (
              name a,
              λ x y f.
                  let (h, k, h_is) = map.back f.side f.stands.is_side in
                  let st' = stood-before m n side name map h k
                  (subst (λ i. Stands n i) (sym h_is) f.stands) in
                  let at' : m.from h ≡ v = grind (arith, common_steps) in
                  let x_is : name (to m h) ≡ x =
                  sym (at_to m n side name map h k) ∙ ap (λ i. to n i) h_is ∙ f.one in
                  let p : IsPairAt m v (to m h) (third m h) = grind (arith, common_steps) in
                  subst (λ i. Goes n i (name a) x) v_is
                  (subst (λ i. Goes n (name v) (name a) i) x_is
                  (goes-moved v (all (to m h) (third m h) p))),
            )
      ]

  pub manifold-moved : IsOrientedManifold m → IsOrientedManifold n
  manifold-moved manifold =
      let proper = manifold-proper m manifold in
      rounds-manifold n (record {
        once = once-moved m n side name map proper.once;
        no_mirror = no_mirror-moved m n side name map proper.no_mirror;
      }) (round-moved manifold)
