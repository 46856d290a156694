-- Each mesh that may be simplified has a run by each policy to each target: as long as some pair
-- may be collapsed, one of them is the least.
use Rattle.std.proofs.Common.{◌≡◌, ℕ, None, slice_index_or, ◌<◌, true, false, Bool, List}
use Rattle.std.proofs.Common.{inl, inr, refl, sym, ap}
use Rattle.std.proofs.lemmas.Bool.{false≢true}
use Rattle.pm_base.specs.Place.{Place}
use Rattle.pm_base.specs.declared.log.Collapse.{Collapse}
use Rattle.pm_base.specs.Meshes.{Mesh}
use Rattle.pm_base.proofs.Search.{Decided, some_from}
use Rattle.pm_queue.specs.declared.key.Key.{Key}
use Rattle.pm_runs.specs.Surfaces.{Surface, next_vertex, is_live}
use Rattle.pm_runs.specs.Runs.{IsStartOfRun, surface_after, IsRun}
use Rattle.pm_runs.proofs.Living.{joined_live}
use Rattle.pm_runs.proofs.FacesLeft.{some_within}
use Rattle.pm_runs.proofs.Logs.{run-sound, run-proper}
use Rattle.pm_policies.specs.Policies.{Policy, place_by, key_by}
use Rattle.pm_policies.specs.PolicyRuns.{IsCandidateBy, wanted_by, IsPutBy, IsRunBy}
use Rattle.pm_policies.specs.Laws.{HasLeastBy}
use Rattle.pm_policies.proofs.SomeRuns.{some_run_by_a_policy}
use Rattle.pm_simplify.proofs.Decisions.{four?, less?}
use Rattle.pm_simplify.proofs.LegalPairs.{legal?}
use Rattle.pm_simplify.proofs.LeastPairs.{least_pair}

unset? : (flag : Bool) → Decided (flag ≡ false)
unset? true = inr (λ e. false≢true (sym e))
unset? false = inl refl

module _ (p : Policy) (m : Mesh) (start : IsStartOfRun m) where
  candidate? : (log : List Collapse) → IsRun m log → (a b : ℕ) → Decided (IsCandidateBy p m log a b)
  candidate? log run a b =
      let once = (run-proper m start log run).once in
      let legal = legal? (surface_after m log) a b (place_by p m log a b) once in
      elim (four? (less? a b) legal (unset? (p.kept a)) (unset? (p.kept b))) [
        | inl (ordered, allowed, first, second) ↦
            inl (record { ordered = ordered; legal = allowed; first = first; second = second })
        | inr n ↦ inr (λ c. n (c.ordered, c.legal, c.first, c.second))
      ]

  put_somewhere :
      (log : List Collapse) → IsRun m log → (a b : ℕ) → (place : Place) × IsPutBy p m log a b place
  put_somewhere log run a b =
      let once = (run-proper m start log run).once in
      let wanted = wanted_by p m log a b in
      elim (legal? (surface_after m log) a b wanted once) [
        | inl legal ↦ (wanted, inl (legal, refl))
        | inr n ↦ (place_by p m log a b, inr (n, refl))
      ]

  key_names :
      (log : List Collapse) (a b c d : ℕ) → key_by p m log a b ≡ key_by p m log c d →
      (a ≡ c) × (b ≡ d)
  key_names log a b c d is = (ap (λ (k : Key). k.a) is, ap (λ (k : Key). k.b) is)

  live_below : (s : Surface) (v : ℕ) → is_live s v ≡ true → v < next_vertex s
  live_below s v live =
      let (place, is) = some_from (slice_index_or s.places v None) live in
      some_within s.places v place is

  least? : (log : List Collapse) → IsRun m log → HasLeastBy p m log
  least? log run =
      let s = surface_after m log in
      let n = next_vertex s in
      let below : (c d : ℕ) → IsCandidateBy p m log c d → (c < n) × (d < n) = λ c d is.
      let live = joined_live s (run-sound m start log run) c d is.legal.joined in
      (live_below s c live.0, live_below s d live.1) in
      let found =
      least_pair (IsCandidateBy p m log) (candidate? log run) (key_by p m log) (key_names log) n
      n in
      elim found [
        | inl x ↦
            let (place, put) = put_somewhere log run x.a x.b in
            inl (
              x.a,
              x.b,
              place,
              record { candidate = x.is; least = λ c d is. x.least c d (below c d is) is },
              put,
            )
        | inr none ↦ inr (λ c d is. none c d (below c d is) is)
      ]

  pub some_run_by : (target : ℕ) → (log : List Collapse) × IsRunBy p m target log
  some_run_by target = some_run_by_a_policy p m start least? target
