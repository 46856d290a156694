-- A run that keeps vertices has one log, is a run, and takes no vertex that it keeps.
use Rattle.std.proofs.Common.{◌≡◌, ◌≢◌, ℕ, zero, suc, Bool, true, false, List, [], ◌∷◌, ◌++◌, inl}
use Rattle.std.proofs.lemmas.Grind.{common_steps}
use Rattle.std.proofs.Common.{inr, refl, sym, ap, ◌∙◌, subst, arith}
use Rattle.std.proofs.lemmas.Bool.{both_ways}
use Rattle.pm_base.specs.declared.log.Collapse.{Collapse}
use Rattle.pm_base.specs.Meshes.{Mesh}
use Rattle.pm_queue.proofs.KeyOrder.{before_asym}
use Rattle.pm_runs.specs.Steps.{entry_of}
use Rattle.pm_runs.specs.Counts.{IsSpared}
use Rattle.pm_runs.specs.Runs.{surface_after, IsStep, AreSteps, IsRun, place_of_pair, key_of_pair}
use Rattle.pm_runs.proofs.Logs.{surface_after-nil, surface_after-more}
use Rattle.pm_keeping.specs.Keeping.{IsLeastFreePair, IsStepKeeping, IsEndKeeping}
use Rattle.pm_keeping.specs.Keeping.{AreStepsKeeping, IsRunKeeping}
use Rattle.pm_keeping.specs.Laws as law

-- An entry that doesn't take a vertex, before a log that spares it.
spared-more :
    (v : ℕ) (c : Collapse) (cs : List Collapse) → (v ≢ c.t) × (v ≢ c.u) → IsSpared v cs →
    IsSpared v (c ∷ cs)
spared-more v c cs first rest zero d l = first
spared-more v c cs first rest (suc k) d l = rest k d (omega arith)

module _ (kept : ℕ → Bool) (m : Mesh) where
  -- One pair at most is the least.
  one_least :
      (log : List Collapse) (a b c d : ℕ) → IsLeastFreePair kept m log a b →
      IsLeastFreePair kept m log c d → (a ≡ c) × (b ≡ d)
  one_least log a b c d x y =
      elim (x.least c d y.free) [
        | inl is ↦ (sym is.0, sym is.1)
        | inr first ↦
            elim (y.least a b x.free) [
              | inl is ↦ is
              | inr second ↦
                  let one = key_of_pair m log a b in
                  let two = key_of_pair m log c d in
                  absurd (both_ways _ (before_asym one two first) second)
            ]
      ]

  one_entry :
      (target : ℕ) (past : List Collapse) (c d : Collapse) → IsStepKeeping kept m target past c →
      IsStepKeeping kept m target past d → c ≡ d
  one_entry target past c d x y =
      let (t, u) = one_least past c.t c.u d.t d.u x.least y.least in
      let s = surface_after m past in
      x.entry ∙ ap (λ v. entry_of s v c.u (place_of_pair m past v c.u)) t
      ∙ ap (λ v. entry_of s d.t v (place_of_pair m past d.t v)) u ∙ sym y.entry

  no_step_at_end :
      (target : ℕ) (past : List Collapse) (c : Collapse) → IsEndKeeping kept m target past →
      IsStepKeeping kept m target past c → ⊥
  no_step_at_end target past c end step =
      elim end [
        | inl few ↦ (let more = step.more in absurd (omega arith))
        | inr none ↦ none c.t c.u step.least.free
      ]

  one_rest :
      (target : ℕ) (past cs ds : List Collapse) → AreStepsKeeping kept m target past cs →
      AreStepsKeeping kept m target past ds → cs ≡ ds
  one_rest target past [] [] x y = refl
  one_rest target past [] (d ∷ ds) x y = absurd (no_step_at_end target past d x y.0)
  one_rest target past (c ∷ cs) [] x y = absurd (no_step_at_end target past c y x.0)
  one_rest target past (c ∷ cs) (d ∷ ds) x y =
      let same : c ≡ d = one_entry target past c d x.0 y.0 in
      let rest : AreStepsKeeping kept m target (past ++ c ∷ []) ds =
      subst (λ e. AreStepsKeeping kept m target (past ++ e ∷ []) ds) (sym same) y.1 in
      ap (λ e. e ∷ cs) same ∙ ap (λ es. d ∷ es) (one_rest target (past ++ c ∷ []) cs ds x.1 rest)

  one_log :
      (target : ℕ) (cs ds : List Collapse) → IsRunKeeping kept m target cs →
      IsRunKeeping kept m target ds → cs ≡ ds
  unfolding IsRunKeeping
  one_log target cs ds x y = one_rest target [] cs ds x y

  -- Each of its steps is a step of a run.
  step-keeping :
      (target : ℕ) (past : List Collapse) (c : Collapse) → IsStepKeeping kept m target past c →
      IsStep (surface_after m past) c
  step-keeping target past c step = grind (arith, common_steps)

  steps-keeping :
      (target : ℕ) (past cs : List Collapse) → AreStepsKeeping kept m target past cs →
      AreSteps (surface_after m past) cs
  steps-keeping target past [] x = tt
  steps-keeping target past (c ∷ cs) x =
      let rest = steps-keeping target (past ++ c ∷ []) cs x.1 in (
        step-keeping target past c x.0,
        subst (λ s. AreSteps s cs) (surface_after-more m past c) rest,
      )

  run-keeping : (target : ℕ) (log : List Collapse) → IsRunKeeping kept m target log → IsRun m log
  unfolding IsRun IsRunKeeping
  run-keeping target log x =
      subst (λ s. AreSteps s log) (surface_after-nil m) (steps-keeping target [] log x)

  -- No collapse takes a vertex that is kept.
  kept-apart : (v w : ℕ) → kept v ≡ true → kept w ≡ false → v ≢ w
  kept-apart v w is free same = both_ways (kept w) free (ap kept (sym same) ∙ is)

  spares :
      (target : ℕ) (past cs : List Collapse) → AreStepsKeeping kept m target past cs →
      (v : ℕ) → kept v ≡ true → IsSpared v cs
  spares target past [] x v is = λ i d l. absurd (omega arith)
  spares target past (c ∷ cs) x v is =
      let pair = x.0.least.free in
      spared-more v c cs (kept-apart v c.t is pair.first, kept-apart v c.u is pair.second)
      (spares target (past ++ c ∷ []) cs x.1 v is)

pub one_run_keeping : law.OneRunKeeping
unfolding IsRunKeeping
one_run_keeping kept m target log x = record {
  run = run-keeping kept m target log x;
  spared = spares kept m target [] log x;
  one = λ other y. one_log kept m target other log y x;
}
