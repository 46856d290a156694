-- A run by a policy can be built entry by entry.
use Rattle.std.proofs.Common.{ℕ, List, [], ◌∷◌, ◌++◌, sym, subst}
use Rattle.std.proofs.lemmas.List.{append_assoc, append-nil}
use Rattle.pm_base.specs.declared.log.Collapse.{Collapse}
use Rattle.pm_base.specs.Meshes.{Mesh}
use Rattle.pm_policies.specs.Policies.{Policy}
use Rattle.pm_policies.specs.PolicyRuns.{IsStepBy, IsEndBy, IsRunBy, IsBegunBy}
use Rattle.pm_policies.specs.Laws as law

module _ (p : Policy) (m : Mesh) (target : ℕ) where
  begun-nil : IsBegunBy p m target []
  unfolding IsRunBy
  begun-nil rest x = x

  begun-more :
      (past : List Collapse) (c : Collapse) → IsBegunBy p m target past →
      IsStepBy p m target past c → IsBegunBy p m target (past ++ c ∷ [])
  begun-more past c begun step rest x =
      subst (IsRunBy p m target) (sym (append_assoc past (c ∷ []) rest))
      (begun (c ∷ rest) (step, x))

  begun-end :
      (log : List Collapse) → IsBegunBy p m target log → IsEndBy p m target log →
      IsRunBy p m target log
  begun-end log begun end = subst (IsRunBy p m target) (append-nil log) (begun [] end)

pub runs_by_are_built : law.RunsByAreBuilt
runs_by_are_built p m target = (
  begun-nil p m target,
  λ log begun. (
    λ c step. begun-more p m target log c begun step,
    λ end. begun-end p m target log begun end,
  ),
)
