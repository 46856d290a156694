-- What is known, along a run by a policy, of the values that its steps work on.
use Rattle.std.specs.Prelude.{◌≡◌, Bool, List}
use Rattle.pm_base.specs.declared.log.Collapse.{Collapse}
use Rattle.pm_base.specs.Meshes.{Mesh}
use Rattle.pm_keeping.specs.Keeping.{kept_in}
use Rattle.pm_policies.specs.Policies.{Policy}
use Rattle.pm_shrink.specs.Shrinking.{Shrinking}
use Rattle.pm_shrink.specs.Following.{IsAfter}

-- What costs go by.
abbrev pub GoesBy : Type 1
GoesBy = Policy → Mesh → List Collapse → Type 0

-- The mesh is the one after the log, the costs go by the policy there, and the flags tell the
-- vertices that it keeps.
pub record IsOnRun
    (s : Shrinking) (goes_by : GoesBy) (flags : List Bool) (p : Policy) (m : Mesh)
    (log : List Collapse) : Type 0 where
  pub after : IsAfter m log s
  pub costs : goes_by p m log
  pub kept : p.kept ≡ kept_in flags

-- Of some run by some policy.
abbrev pub IsOnSomeRun : Shrinking → GoesBy → List Bool → Type 0
IsOnSomeRun s goes_by flags =
    (p : Policy) × (m : Mesh) × (log : List Collapse) × IsOnRun s goes_by flags p m log
