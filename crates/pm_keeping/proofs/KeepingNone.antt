-- Where no vertex is kept every pair is free, and the run is the run to a number of faces.
use Rattle.std.proofs.Common.{ℕ, List, [], ◌∷◌, ◌++◌, inl, inr, refl}
use Rattle.pm_base.specs.declared.log.Collapse.{Collapse}
use Rattle.pm_base.specs.Meshes.{Mesh}
use Rattle.pm_runs.specs.Runs.{IsCandidate, IsLeastPair, AreStepsTo, IsRunTo}
use Rattle.pm_keeping.specs.Keeping.{none_kept, IsFreeCandidate, IsLeastFreePair, AreStepsKeeping}
use Rattle.pm_keeping.specs.Keeping.{IsRunKeeping}
use Rattle.pm_keeping.specs.Laws as law

module _ (m : Mesh) where
  free :
      (log : List Collapse) (a b : ℕ) → IsCandidate m log a b → IsFreeCandidate none_kept m log a b
  free log a b x = record { candidate = x; first = refl; second = refl }

  free-least :
      (log : List Collapse) (a b : ℕ) → IsLeastPair m log a b → IsLeastFreePair none_kept m log a b
  free-least log a b x = record {
    free = free log a b x.candidate;
    least = λ c d y. x.least c d y.candidate;
  }

  least-free :
      (log : List Collapse) (a b : ℕ) → IsLeastFreePair none_kept m log a b → IsLeastPair m log a b
  least-free log a b x = record {
    candidate = x.free.candidate;
    least = λ c d y. x.least c d (free log c d y);
  }

  to-keeping :
      (target : ℕ) (past cs : List Collapse) → AreStepsTo m target past cs →
      AreStepsKeeping none_kept m target past cs
  to-keeping target past [] x =
      elim x [ inl few ↦ inl few | inr none ↦ inr (λ a b y. none a b y.candidate) ]
  to-keeping target past (c ∷ cs) x = (
    record { more = x.0.more; least = free-least past c.t c.u x.0.least; entry = x.0.entry },
    to-keeping target (past ++ c ∷ []) cs x.1,
  )

  from-keeping :
      (target : ℕ) (past cs : List Collapse) → AreStepsKeeping none_kept m target past cs →
      AreStepsTo m target past cs
  from-keeping target past [] x =
      elim x [ inl few ↦ inl few | inr none ↦ inr (λ a b y. none a b (free past a b y)) ]
  from-keeping target past (c ∷ cs) x = (
    record { more = x.0.more; least = least-free past c.t c.u x.0.least; entry = x.0.entry },
    from-keeping target (past ++ c ∷ []) cs x.1,
  )

pub keeping_none_is_the_run : law.KeepingNoneIsTheRun
unfolding IsRunKeeping IsRunTo
keeping_none_is_the_run m target log = (from-keeping m target [] log, to-keeping m target [] log)
