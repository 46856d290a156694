-- A run by a policy to each target. While some pair may be collapsed the least one is, and each
-- collapse leaves fewer faces.
use Rattle.std.proofs.Common.{ℕ, zero, suc, ◌≤◌, List, [], ◌∷◌, ◌++◌, inl, inr, refl, ap, arith}
use Rattle.std.proofs.lemmas.Bool.{cases_lt}
use Rattle.pm_base.specs.declared.log.Collapse.{Collapse}
use Rattle.pm_base.specs.Meshes.{Mesh}
use Rattle.pm_runs.specs.Surfaces.{face_count_of}
use Rattle.pm_runs.specs.Steps.{entry_of}
use Rattle.pm_runs.specs.Runs.{IsStartOfRun, surface_after, IsRun}
use Rattle.pm_runs.proofs.FacesLeft.{faces-fewer}
use Rattle.pm_runs.proofs.Logs.{surface_after-more, run-nil, run-more, run-sound, run-proper}
use Rattle.pm_policies.specs.Policies.{Policy}
use Rattle.pm_policies.specs.PolicyRuns.{IsRunBy, IsBegunBy}
use Rattle.pm_policies.specs.Laws as law
use Rattle.pm_policies.proofs.Building.{runs_by_are_built}
use Rattle.pm_policies.proofs.OneRun.{put_legal}

module _
    (p : Policy) (m : Mesh) (start : IsStartOfRun m)
    (least? : (log : List Collapse) → IsRun m log → law.HasLeastBy p m log) where
  go :
      (target fuel : ℕ) (past : List Collapse) → IsRun m past → IsBegunBy p m target past →
      face_count_of (surface_after m past) ≤ fuel → (log : List Collapse) × IsRunBy p m target log
  go target zero past run begun few =
      (past, ((runs_by_are_built p m target).1 past begun).1 (inl (omega (arith, few))))
  go target (suc fuel) past run begun few =
      let next = (runs_by_are_built p m target).1 past begun in
      elim (cases_lt target (face_count_of (surface_after m past))) [
        | inr enough ↦ (past, next.1 (inl (omega (arith, enough))))
        | inl more ↦
            elim (least? past run) [
              | inr none ↦ (past, next.1 (inr none))
              | inl (a, b, place, least, put) ↦
                  let s = surface_after m past in
                  let c = entry_of s a b place in
                  let pair = least.candidate in
                  let sound = run-sound m start past run in
                  let proper = run-proper m start past run in
                  let legal = put_legal p m past a b place pair put in
                  let fewer = faces-fewer s sound proper a b place legal.joined in
                  let after = ap face_count_of (surface_after-more m past c) in
                  let run' = run-more m past c run
                  (record { ordered = pair.ordered; legal = legal; entry = refl }) in
                  go target fuel (past ++ c ∷ []) run'
                  (next.0 c (record { more = more; least = least; put = put; entry = refl }))
                  (omega (arith, few, fewer, after))
            ]
      ]

pub some_run_by_a_policy : law.SomeRunByAPolicy
some_run_by_a_policy p m start least? target =
    go p m start least? target (face_count_of (surface_after m [])) [] (run-nil m)
    (runs_by_are_built p m target).0 (omega arith)
