-- Each mesh that may be simplified has a run to each target: as long as some pair may be collapsed
-- one of them is the least, and each collapse leaves fewer faces.
use Rattle.std.proofs.Common.{◌≡◌, ℕ, None, zero, suc, slice_index_or, ◌<◌, ◌≤◌, true, List, []}
use Rattle.std.proofs.Common.{◌∷◌, ◌++◌, ◌⊎◌, inl, inr, refl, ap, arith}
use Rattle.std.proofs.lemmas.Bool.{cases_lt}
use Rattle.pm_base.specs.declared.log.Collapse.{Collapse}
use Rattle.pm_base.specs.Meshes.{Mesh}
use Rattle.pm_base.proofs.Search.{Decided, some_from}
use Rattle.pm_queue.specs.declared.key.Key.{Key}
use Rattle.pm_runs.specs.Surfaces.{Surface, next_vertex, is_live, face_count_of}
use Rattle.pm_runs.specs.Steps.{entry_of}
use Rattle.pm_runs.specs.Runs.{IsStartOfRun, surface_after, IsStep, IsRun, place_of_pair}
use Rattle.pm_runs.specs.Runs.{key_of_pair, IsCandidate, IsLeastPair, IsRunTo, IsBegun}
use Rattle.pm_runs.proofs.Living.{joined_live}
use Rattle.pm_runs.proofs.FacesLeft.{faces-fewer, some_within}
use Rattle.pm_runs.proofs.Logs.{surface_after-more, run-nil, run-more, run-sound, run-proper}
use Rattle.pm_runs.proofs.LeastRuns.{begun-nil, begun-more, begun-end}
use Rattle.pm_simplify.proofs.Decisions.{both?, less?}
use Rattle.pm_simplify.proofs.LegalPairs.{legal?}
use Rattle.pm_simplify.proofs.LeastPairs.{least_pair}

module _ (m : Mesh) (start : IsStartOfRun m) where
  candidate? : (log : List Collapse) → IsRun m log → (a b : ℕ) → Decided (IsCandidate m log a b)
  candidate? log run a b =
      elim (both? (less? a b)
      (legal? (surface_after m log) a b (place_of_pair m log a b)
      (run-proper m start log run).once)) [
        | inl h ↦ inl (record { ordered = h.0; legal = h.1 })
        | inr n ↦ inr (λ c. n (c.ordered, c.legal))
      ]

  key_names : (log : List Collapse) (a b c d : ℕ) → key_of_pair m log a b ≡ key_of_pair m log c d
      → (a ≡ c) × (b ≡ d)
  key_names log a b c d is = (ap (λ (k : Key). k.a) is, ap (λ (k : Key). k.b) is)

  live_below : (s : Surface) (v : ℕ) → is_live s v ≡ true → v < next_vertex s
  live_below s v live = let (p, is) = some_from (slice_index_or s.places v None) live in
      some_within s.places v p is

  least? : (log : List Collapse) → IsRun m log → ((a : ℕ) × (b : ℕ) × IsLeastPair m log a b)
      ⊎ ((a b : ℕ) → IsCandidate m log a b → ⊥)
  least? log run =
      let s = surface_after m log in
      let below : (c d : ℕ) → IsCandidate m log c d → (c < next_vertex s) × (d < next_vertex s) =
      λ c d is.
      let live = joined_live s (run-sound m start log run) c d is.legal.joined in
      (live_below s c live.0, live_below s d live.1) in
      elim (least_pair (IsCandidate m log) (candidate? log run) (key_of_pair m log) (key_names log)
      (next_vertex s) (next_vertex s)) [
        | inl x ↦ inl
            (x.a, x.b, record { candidate = x.is; least = λ c d is. x.least c d (below c d is) is })
        | inr none ↦ inr (λ c d is. none c d (below c d is) is)
      ]

  step_of : (log : List Collapse) (a b : ℕ) → IsLeastPair m log a b
      → IsStep (surface_after m log) (entry_of (surface_after m log) a b (place_of_pair m log a b))
  step_of log a b least =
      record { ordered = least.candidate.ordered; legal = least.candidate.legal; entry = refl }

  go : (target fuel : ℕ) (past : List Collapse) → IsRun m past → IsBegun m target past
      → face_count_of (surface_after m past) ≤ fuel → (log : List Collapse) × IsRunTo m target log
  go target zero past run begun few =
      (past, begun-end m target past begun (inl (omega (arith, few))))
  go target (suc fuel) past run begun few =
      elim (cases_lt target (face_count_of (surface_after m past))) [
        | inr enough ↦ (past, begun-end m target past begun (inl (omega (arith, enough))))
        | inl more ↦
            elim (least? past run) [
              | inr none ↦ (past, begun-end m target past begun (inr none))
              | inl (a, b, least) ↦
                  let s = surface_after m past in
                  let place = place_of_pair m past a b in
                  let c = entry_of s a b place in
                  let fewer = faces-fewer s (run-sound m start past run)
                  (run-proper m start past run) a b place least.candidate.legal.joined in
                  let after = ap face_count_of (surface_after-more m past c) in
                  go target fuel (past ++ c ∷ []) (run-more m past c run (step_of past a b least))
                  (begun-more m target past c begun
                  (record { more = more; least = least; entry = refl }))
                  (omega (arith, few, fewer, after))
            ]
      ]

  pub some_run : (target : ℕ) → (log : List Collapse) × IsRunTo m target log
  some_run target =
      go target (face_count_of (surface_after m [])) [] (run-nil m) (begun-nil m target)
      (omega arith)
