-- A run by a policy has one log, is a run, and takes no vertex that the policy keeps.
use Rattle.std.proofs.Common.{◌≡◌, ◌≢◌, ℕ, zero, suc, true, false, List, [], ◌∷◌, ◌++◌, inl, inr}
use Rattle.std.proofs.lemmas.Grind.{common_steps}
use Rattle.std.proofs.Common.{refl, sym, ap, ◌∙◌, subst, arith}
use Rattle.std.proofs.lemmas.Bool.{both_ways}
use Rattle.pm_base.specs.Place.{Place}
use Rattle.pm_base.specs.declared.log.Collapse.{Collapse}
use Rattle.pm_base.specs.Meshes.{Mesh}
use Rattle.pm_queue.proofs.KeyOrder.{before_asym}
use Rattle.pm_runs.specs.Pairs.{IsLegalPair}
use Rattle.pm_runs.specs.Steps.{entry_of}
use Rattle.pm_runs.specs.Counts.{IsSpared}
use Rattle.pm_runs.specs.Runs.{surface_after, IsStep, AreSteps, IsRun}
use Rattle.pm_runs.proofs.Logs.{surface_after-nil, surface_after-more}
use Rattle.pm_policies.specs.Policies.{Policy, key_by}
use Rattle.pm_policies.specs.PolicyRuns.{IsCandidateBy, IsPutBy}
use Rattle.pm_policies.specs.PolicyRuns.{IsLeastPairBy, IsStepBy, IsEndBy, AreStepsBy, IsRunBy}
use Rattle.pm_policies.specs.Laws as law

-- An entry that doesn't take a vertex, before a log that spares it.
spared-more :
    (v : ℕ) (c : Collapse) (cs : List Collapse) → (v ≢ c.t) × (v ≢ c.u) → IsSpared v cs →
    IsSpared v (c ∷ cs)
spared-more v c cs first rest zero d l = first
spared-more v c cs first rest (suc k) d l = rest k d (omega arith)

module _ (p : Policy) (m : Mesh) where
  -- One pair at most is the least.
  one_least :
      (log : List Collapse) (a b c d : ℕ) → IsLeastPairBy p m log a b →
      IsLeastPairBy p m log c d → (a ≡ c) × (b ≡ d)
  one_least log a b c d x y =
      elim (x.least c d y.candidate) [
        | inl is ↦ (sym is.0, sym is.1)
        | inr first ↦
            elim (y.least a b x.candidate) [
              | inl is ↦ is
              | inr second ↦
                  let one = key_by p m log a b in
                  let two = key_by p m log c d in
                  absurd (both_ways _ (before_asym one two first) second)
            ]
      ]

  -- It is put at one place, and is legal there.
  one_put :
      (log : List Collapse) (a b : ℕ) (q r : Place) → IsPutBy p m log a b q →
      IsPutBy p m log a b r → q ≡ r
  one_put log a b q r (inl x) (inl y) = x.1 ∙ sym y.1
  one_put log a b q r (inl x) (inr y) = absurd (y.0 x.0)
  one_put log a b q r (inr x) (inl y) = absurd (x.0 y.0)
  one_put log a b q r (inr x) (inr y) = x.1 ∙ sym y.1

  pub put_legal :
      (log : List Collapse) (a b : ℕ) (q : Place) → IsCandidateBy p m log a b →
      IsPutBy p m log a b q → IsLegalPair (surface_after m log) a b q
  put_legal log a b q pair (inl x) =
      subst (IsLegalPair (surface_after m log) a b) (sym x.1) x.0
  put_legal log a b q pair (inr x) =
      subst (IsLegalPair (surface_after m log) a b) (sym x.1) pair.legal

  one_entry :
      (target : ℕ) (past : List Collapse) (c d : Collapse) → IsStepBy p m target past c →
      IsStepBy p m target past d → c ≡ d
  one_entry target past c d x y =
      let (t, u) = one_least past c.t c.u d.t d.u x.least y.least in
      let s = surface_after m past in
      let there : IsPutBy p m past d.t d.u c.place =
      subst (λ v. IsPutBy p m past d.t v c.place) u
      (subst (λ v. IsPutBy p m past v c.u c.place) t x.put) in
      x.entry ∙ ap (λ v. entry_of s v c.u c.place) t ∙ ap (λ v. entry_of s d.t v c.place) u
      ∙ ap (entry_of s d.t d.u) (one_put past d.t d.u c.place d.place there y.put)
      ∙ sym y.entry

  no_step_at_end :
      (target : ℕ) (past : List Collapse) (c : Collapse) → IsEndBy p m target past →
      IsStepBy p m target past c → ⊥
  no_step_at_end target past c end step =
      elim end [
        | inl few ↦ (let more = step.more in absurd (omega arith))
        | inr none ↦ none c.t c.u step.least.candidate
      ]

  one_rest :
      (target : ℕ) (past cs ds : List Collapse) → AreStepsBy p m target past cs →
      AreStepsBy p m target past ds → cs ≡ ds
  one_rest target past [] [] x y = refl
  one_rest target past [] (d ∷ ds) x y = absurd (no_step_at_end target past d x y.0)
  one_rest target past (c ∷ cs) [] x y = absurd (no_step_at_end target past c y x.0)
  one_rest target past (c ∷ cs) (d ∷ ds) x y =
      let same : c ≡ d = one_entry target past c d x.0 y.0 in
      let rest : AreStepsBy p m target (past ++ c ∷ []) ds =
      subst (λ e. AreStepsBy p m target (past ++ e ∷ []) ds) (sym same) y.1 in
      ap (λ e. e ∷ cs) same ∙ ap (λ es. d ∷ es) (one_rest target (past ++ c ∷ []) cs ds x.1 rest)

  one_log :
      (target : ℕ) (cs ds : List Collapse) → IsRunBy p m target cs →
      IsRunBy p m target ds → cs ≡ ds
  unfolding IsRunBy
  one_log target cs ds x y = one_rest target [] cs ds x y

  -- Each of its steps is a step of a run.
  step-by :
      (target : ℕ) (past : List Collapse) (c : Collapse) → IsStepBy p m target past c →
      IsStep (surface_after m past) c
  step-by target past c step = record {
    ordered = step.least.candidate.ordered;
    legal = put_legal past c.t c.u c.place step.least.candidate step.put;
    entry = step.entry;
  }

  steps-by :
      (target : ℕ) (past cs : List Collapse) → AreStepsBy p m target past cs →
      AreSteps (surface_after m past) cs
  steps-by target past [] x = tt
  steps-by target past (c ∷ cs) x =
      let rest = steps-by target (past ++ c ∷ []) cs x.1 in (
        step-by target past c x.0,
        subst (λ s. AreSteps s cs) (surface_after-more m past c) rest,
      )

  run-by : (target : ℕ) (log : List Collapse) → IsRunBy p m target log → IsRun m log
  unfolding IsRun IsRunBy
  run-by target log x =
      subst (λ s. AreSteps s log) (surface_after-nil m) (steps-by target [] log x)

  -- No collapse takes a vertex that is kept.
  kept-apart : (v w : ℕ) → p.kept v ≡ true → p.kept w ≡ false → v ≢ w
  kept-apart v w is free same = both_ways (p.kept w) free (ap p.kept (sym same) ∙ is)

  spares :
      (target : ℕ) (past cs : List Collapse) → AreStepsBy p m target past cs →
      (v : ℕ) → p.kept v ≡ true → IsSpared v cs
  spares target past [] x v is = λ i d l. absurd (omega arith)
  spares target past (c ∷ cs) x v is =
      let pair = x.0.least.candidate in
      spared-more v c cs (kept-apart v c.t is pair.first, kept-apart v c.u is pair.second)
      (spares target (past ++ c ∷ []) cs x.1 v is)

pub one_run_by_a_policy : law.OneRunByAPolicy
unfolding IsRunBy
one_run_by_a_policy p m target log x = grind (arith, common_steps, one_log, run-by, spares)
