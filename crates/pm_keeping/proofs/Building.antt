-- A run that keeps vertices can be built entry by entry.
use Rattle.std.proofs.Common.{ℕ, Bool, List, [], ◌∷◌, ◌++◌, sym, subst}
use Rattle.std.proofs.lemmas.List.{append_assoc, append-nil}
use Rattle.pm_base.specs.declared.log.Collapse.{Collapse}
use Rattle.pm_base.specs.Meshes.{Mesh}
use Rattle.pm_keeping.specs.Keeping.{IsStepKeeping, IsEndKeeping, IsRunKeeping, IsBegunKeeping}
use Rattle.pm_keeping.specs.Laws as law

module _ (kept : ℕ → Bool) (m : Mesh) (target : ℕ) where
  begun-nil : IsBegunKeeping kept m target []
  unfolding IsRunKeeping
  begun-nil rest x = x

  begun-more :
      (past : List Collapse) (c : Collapse) → IsBegunKeeping kept m target past →
      IsStepKeeping kept m target past c → IsBegunKeeping kept m target (past ++ c ∷ [])
  begun-more past c begun step rest x =
      subst (IsRunKeeping kept m target) (sym (append_assoc past (c ∷ []) rest))
      (begun (c ∷ rest) (step, x))

  begun-end :
      (log : List Collapse) → IsBegunKeeping kept m target log → IsEndKeeping kept m target log →
      IsRunKeeping kept m target log
  begun-end log begun end = subst (IsRunKeeping kept m target) (append-nil log) (begun [] end)

pub runs_keeping_are_built : law.RunsKeepingAreBuilt
runs_keeping_are_built kept m target = (
  begun-nil kept m target,
  λ log begun. (
    λ c step. begun-more kept m target log c begun step,
    λ end. begun-end kept m target log begun end,
  ),
)
