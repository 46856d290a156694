-- The run to a number of faces has one log, is a run, and can be built entry by entry.
use Rattle.std.proofs.Common.{◌≡◌, ℕ, List, [], ◌∷◌, ◌++◌, inl, inr, refl, sym, ap, ◌∙◌, subst}
use Rattle.std.proofs.lemmas.Grind.{common_steps}
use Rattle.std.proofs.Common.{arith}
use Rattle.std.proofs.lemmas.Bool.{both_ways}
use Rattle.std.proofs.lemmas.List.{append_assoc, append-nil}
use Rattle.pm_base.specs.declared.log.Collapse.{Collapse}
use Rattle.pm_base.specs.Meshes.{Mesh}
use Rattle.pm_queue.proofs.KeyOrder.{before_asym}
use Rattle.pm_runs.specs.Steps.{entry_of}
use Rattle.pm_runs.specs.Runs.{surface_after, IsStep, AreSteps, IsRun, place_of_pair, key_of_pair}
use Rattle.pm_runs.specs.Runs.{IsLeastPair, IsStepTo, IsEnd, AreStepsTo, IsRunTo, IsBegun}
use Rattle.pm_runs.proofs.Logs.{surface_after-nil, surface_after-more}

module _ (m : Mesh) where
  -- One pair at most is the least.
  pub one_least : (log : List Collapse) (a b c d : ℕ) → IsLeastPair m log a b
      → IsLeastPair m log c d → (a ≡ c) × (b ≡ d)
  one_least log a b c d x y =
      elim (x.least c d y.candidate) [
        | inl is ↦ (sym is.0, sym is.1)
        | inr first ↦
            elim (y.least a b x.candidate) [
              | inl is ↦ is
              | inr second ↦
                  absurd (both_ways _
                  (before_asym (key_of_pair m log a b) (key_of_pair m log c d) first) second)
            ]
      ]

  one_entry : (target : ℕ) (past : List Collapse) (c d : Collapse) → IsStepTo m target past c
      → IsStepTo m target past d → c ≡ d
  one_entry target past c d x y =
      let (t, u) = one_least past c.t c.u d.t d.u x.least y.least in
      x.entry ∙
      ap (λ v. entry_of (surface_after m past) v c.u (place_of_pair m past v c.u)) t ∙
      ap (λ v. entry_of (surface_after m past) d.t v (place_of_pair m past d.t v)) u ∙
      sym y.entry

  no_step_at_end : (target : ℕ) (past : List Collapse) (c : Collapse) → IsEnd m target past
      → IsStepTo m target past c → ⊥
  no_step_at_end target past c end step =
      elim end [
        | inl few ↦ (let more = step.more in absurd (omega arith))
        | inr none ↦ none c.t c.u step.least.candidate
      ]

  one_rest : (target : ℕ) (past cs ds : List Collapse) → AreStepsTo m target past cs
      → AreStepsTo m target past ds → cs ≡ ds
  one_rest target past [] [] x y = refl
  one_rest target past [] (d ∷ ds) x y = absurd (no_step_at_end target past d x y.0)
  one_rest target past (c ∷ cs) [] x y = absurd (no_step_at_end target past c y x.0)
  one_rest target past (c ∷ cs) (d ∷ ds) x y =
      let same : c ≡ d = one_entry target past c d x.0 y.0 in
      let rest : AreStepsTo m target (past ++ c ∷ []) ds =
      subst (λ e. AreStepsTo m target (past ++ e ∷ []) ds) (sym same) y.1 in
      ap (λ e. e ∷ cs) same ∙ ap (λ es. d ∷ es) (one_rest target (past ++ c ∷ []) cs ds x.1 rest)

  pub one_run : (target : ℕ) (cs ds : List Collapse) → IsRunTo m target cs → IsRunTo m target ds
      → cs ≡ ds
  unfolding IsRunTo
  one_run target cs ds x y = one_rest target [] cs ds x y

  step-to : (target : ℕ) (past : List Collapse) (c : Collapse) → IsStepTo m target past c
      → IsStep (surface_after m past) c
  step-to target past c step = grind (arith, common_steps)

  steps-to : (target : ℕ) (past cs : List Collapse) → AreStepsTo m target past cs
      → AreSteps (surface_after m past) cs
  steps-to target past [] x = tt
  steps-to target past (c ∷ cs) x = (
    step-to target past c x.0,
    subst (λ s. AreSteps s cs) (surface_after-more m past c)
        (steps-to target (past ++ c ∷ []) cs x.1),
  )

  pub run-to-run : (target : ℕ) (log : List Collapse) → IsRunTo m target log → IsRun m log
  unfolding IsRun IsRunTo
  run-to-run target log x =
      subst (λ s. AreSteps s log) (surface_after-nil m) (steps-to target [] log x)

  -- Building it.
  pub begun-nil : (target : ℕ) → IsBegun m target []
  unfolding IsRunTo
  begun-nil target rest x = x

  pub begun-more : (target : ℕ) (past : List Collapse) (c : Collapse) → IsBegun m target past
      → IsStepTo m target past c → IsBegun m target (past ++ c ∷ [])
  begun-more target past c begun step rest x =
      subst (IsRunTo m target) (sym (append_assoc past (c ∷ []) rest)) (begun (c ∷ rest) (step, x))

  pub begun-end : (target : ℕ) (log : List Collapse) → IsBegun m target log → IsEnd m target log
      → IsRunTo m target log
  begun-end target log begun end = subst (IsRunTo m target) (append-nil log) (begun [] end)
