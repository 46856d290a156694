-- A split keeps all fans.
use Rattle.std.proofs.Common.{ℕ, Option, inl, inr, refl, sym, subst}
use Rattle.std.proofs.lemmas.Bool.{cases_eq}
use Rattle.pm_base.specs.Sides.{Net, NoSideTwice}
use Rattle.pm_base.specs.Rounds.{IsRound}
use Rattle.pm_runs.proofs.MergedPairs.{not_s}
use Rattle.pm_runs.specs.Splits.{IsSplit}
use Rattle.pm_runs.proofs.Facts.{HasNoMirror}
use Rattle.pm_runs.proofs.Split.{merged_net}
use Rattle.pm_runs.proofs.RoundsAway.{round_away}
use Rattle.pm_runs.proofs.RoundsAtEnds.{round_end}

module _ (n : Net) (t u s : ℕ) (beyond : ℕ → Option ℕ) (h : IsSplit n t u s beyond)
    (once : NoSideTwice (merged_net n t u s beyond h)) (plain : HasNoMirror n) where
  abbrev net_before : Net
  net_before = merged_net n t u s beyond h

  pub rounds_after : ((v : ℕ) → IsRound net_before v) → (v : ℕ) → IsRound n v
  rounds_after all v =
      elim (cases_eq v t) [
        | inl is ↦ subst (λ i. IsRound n i) (sym is)
            (round_end n t u s beyond h once plain t u (inl (refl, refl)) (all s))
        | inr vt ↦
            elim (cases_eq v u) [
              | inl is ↦ subst (λ i. IsRound n i) (sym is)
                  (round_end n t u s beyond h once plain u t (inr (refl, refl)) (all s))
              | inr vu ↦
                  elim (cases_eq v s) [
                    | inl is ↦ (0, λ x y f. absurd (not_s n t u s h.fresh f is))
                    | inr vs ↦ round_away n t u s beyond h once plain v vs vt vu (all v)
                  ]
            ]
      ]
