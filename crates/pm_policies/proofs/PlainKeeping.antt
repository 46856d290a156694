-- The policy of the run that keeps some vertices takes nothing, so its places and keys are that
-- run's.
use Rattle.std.proofs.Common.{◌≡◌, ℕ, eqb, Bool, true, List, [], ◌∷◌, ◌++◌, inl, inr, refl, sym, ap}
use Rattle.std.proofs.Common.{arith}
use Rattle.std.proofs.lemmas.Grind.{common_steps}
use Rattle.std.proofs.Common.{◌∙◌, subst}
use Rattle.std.proofs.lemmas.Bool.{cases_Bool, cond-true, cond-false}
use Rattle.pm_base.specs.Place.{Place}
use Rattle.pm_base.specs.declared.log.Collapse.{Collapse}
use Rattle.pm_base.specs.Meshes.{Mesh}
use Rattle.pm_quadric.specs.Planes.{Plane}
use Rattle.pm_queue.specs.declared.key.Key.{Key}
use Rattle.pm_queue.specs.Keys.{is_before}
use Rattle.pm_runs.specs.Surfaces.{Surface, surface_of}
use Rattle.pm_runs.specs.Pairs.{IsLegalPair}
use Rattle.pm_runs.specs.Steps.{entry_of}
use Rattle.pm_runs.specs.Planes.{planes_after, pair_planes}
use Rattle.pm_runs.specs.Runs.{after_entry, surface_after, place_of_pair, key_of_pair}
use Rattle.pm_keeping.specs.Keeping.{IsFreeCandidate, IsLeastFreePair, IsStepKeeping}
use Rattle.pm_keeping.specs.Keeping.{AreStepsKeeping, IsRunKeeping}
use Rattle.pm_keeping.proofs.KeepingNone.{keeping_none_is_the_run}
use Rattle.pm_policies.specs.Policies.{Policy, taken_next, taken_from, taken_after, brought_after}
use Rattle.pm_policies.specs.Policies.{planes_by, pair_planes_by, place_by, key_by, plain_keeping}
use Rattle.pm_policies.specs.PolicyRuns.{IsCandidateBy, IsLeastPairBy, IsPutBy, IsStepBy}
use Rattle.pm_policies.specs.PolicyRuns.{AreStepsBy, IsRunBy}
use Rattle.pm_policies.specs.Laws as law

module _ (kept : ℕ → Bool) where
  abbrev policy : Policy
  policy = plain_keeping kept

  none_taken :
      (s : Surface) (planes : ℕ → List Plane) → ((v : ℕ) → planes v ≡ []) →
      (cs : List Collapse) (v : ℕ) → taken_from policy s planes cs v ≡ []
  none_taken s planes none [] v = none v
  none_taken s planes none (c ∷ cs) v =
      none_taken (after_entry s c) (taken_next policy s planes c) (λ w.
      elim (cases_Bool (eqb w c.s)) [
        | inl is ↦ cond-true _ _ _ is
        | inr is ↦ cond-false _ _ _ is ∙ none w
      ]) cs v

  module _ (m : Mesh) where
    planes_same : (log : List Collapse) (v : ℕ) → planes_by policy m log v ≡ planes_after m log v
    unfolding taken_after brought_after planes_after
    planes_same log v =
        let none = none_taken (surface_of m) (λ w. []) (λ w. refl) log v in
        ap (λ (x : List Plane). x ++ brought_after policy m log v) none

    module _ (log : List Collapse) (a b : ℕ) where
      pair_same : pair_planes_by policy m log a b ≡ pair_planes (planes_after m log) a b
      pair_same =
          ap (λ (x : List Plane). x ++ planes_by policy m log b) (planes_same log a)
          ∙ ap (λ (y : List Plane). planes_after m log a ++ y) (planes_same log b)

      place_same : place_by policy m log a b ≡ place_of_pair m log a b
      place_same = grind (arith, common_steps, pair_same)

      key_same : key_by policy m log a b ≡ key_of_pair m log a b
      key_same = grind (arith, common_steps, pair_same, place_same)

      candidate_to : IsCandidateBy policy m log a b → IsFreeCandidate kept m log a b
      candidate_to x = record {
        candidate = record {
          ordered = x.ordered;
          legal = subst (IsLegalPair (surface_after m log) a b) place_same x.legal;
        };
        first = x.first;
        second = x.second;
      }

      candidate_from : IsFreeCandidate kept m log a b → IsCandidateBy policy m log a b
      candidate_from x = record {
        ordered = x.candidate.ordered;
        legal = subst (IsLegalPair (surface_after m log) a b) (sym place_same) x.candidate.legal;
        first = x.first;
        second = x.second;
      }

    least_to :
        (log : List Collapse) (a b : ℕ) → IsLeastPairBy policy m log a b →
        IsLeastFreePair kept m log a b
    least_to log a b x = record {
      free = candidate_to log a b x.candidate;
      least = λ c d other. elim (x.least c d (candidate_from log c d other)) [
        | inl is ↦ inl is
        | inr before ↦
            inr (subst (λ (k : Key). is_before k (key_of_pair m log c d) ≡ true) (key_same log a b)
            (subst (λ (k : Key). is_before (key_by policy m log a b) k ≡ true) (key_same log c d)
            before))
      ];
    }

    least_from :
        (log : List Collapse) (a b : ℕ) → IsLeastFreePair kept m log a b →
        IsLeastPairBy policy m log a b
    least_from log a b x = record {
      candidate = candidate_from log a b x.free;
      least = λ c d other. elim (x.least c d (candidate_to log c d other)) [
        | inl is ↦ inl is
        | inr before ↦
            let one = sym (key_same log a b) in
            let two = sym (key_same log c d) in
            inr (subst (λ (k : Key). is_before k (key_by policy m log c d) ≡ true) one
            (subst (λ (k : Key). is_before (key_of_pair m log a b) k ≡ true) two before))
      ];
    }

    -- A pair is put at its place.
    put_same :
        (log : List Collapse) (a b : ℕ) (q : Place) → IsPutBy policy m log a b q →
        q ≡ place_of_pair m log a b
    put_same log a b q (inl x) = x.1 ∙ place_same log a b
    put_same log a b q (inr x) = x.1 ∙ place_same log a b

    module _ (target : ℕ) where
      step_to :
          (past : List Collapse) (c : Collapse) → IsStepBy policy m target past c →
          IsStepKeeping kept m target past c
      step_to past c x = record {
        more = x.more;
        least = least_to past c.t c.u x.least;
        entry =
            x.entry
            ∙ ap (entry_of (surface_after m past) c.t c.u) (put_same past c.t c.u c.place x.put);
      }

      step_from :
          (past : List Collapse) (c : Collapse) → IsStepKeeping kept m target past c →
          IsStepBy policy m target past c
      step_from past c x =
          let place : c.place ≡ place_of_pair m past c.t c.u =
          ap (λ (e : Collapse). e.place) x.entry in
          let least = least_from past c.t c.u x.least in
          let here : c.place ≡ place_by policy m past c.t c.u =
          place ∙ sym (place_same past c.t c.u) in
          record {
            more = x.more;
            least = least;
            put = inl (least.candidate.legal, here);
            entry = x.entry ∙ ap (entry_of (surface_after m past) c.t c.u) (sym place);
          }

      steps_to :
          (past cs : List Collapse) → AreStepsBy policy m target past cs →
          AreStepsKeeping kept m target past cs
      steps_to past [] x =
          elim x [
            | inl few ↦ inl few
            | inr none ↦ inr (λ a b y. none a b (candidate_from past a b y))
          ]
      steps_to past (c ∷ cs) x = (step_to past c x.0, steps_to (past ++ c ∷ []) cs x.1)

      steps_from :
          (past cs : List Collapse) → AreStepsKeeping kept m target past cs →
          AreStepsBy policy m target past cs
      steps_from past [] x =
          elim x [
            | inl few ↦ inl few
            | inr none ↦ inr (λ a b y. none a b (candidate_to past a b y))
          ]
      steps_from past (c ∷ cs) x = (step_from past c x.0, steps_from (past ++ c ∷ []) cs x.1)

pub plain_keeping_is_keeping : law.PlainKeepingIsKeeping
unfolding IsRunBy IsRunKeeping
plain_keeping_is_keeping kept m target log =
    (steps_to kept m target [] log, steps_from kept m target [] log)

pub plain_run_is_the_run : law.PlainRunIsTheRun
plain_run_is_the_run m target log =
    grind (arith, common_steps, keeping_none_is_the_run, plain_keeping_is_keeping)
