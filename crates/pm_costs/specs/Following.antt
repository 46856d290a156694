-- How costs follow a mesh that is being simplified.
use Rattle.std.specs.Prelude.{List}
use Rattle.pm_base.specs.declared.log.Collapse.{Collapse}
use Rattle.pm_base.specs.Meshes.{Mesh}
use Rattle.pm_policies.specs.Policies.{Policy}
use Rattle.pm_shrink.specs.Shrinking.{Shrinking}
use Rattle.pm_shrink.specs.Following.{IsAfter}

-- The mesh is the one after some run, and there the costs go by some policy.
abbrev pub Follows : Shrinking → (Policy → Mesh → List Collapse → Type 0) → Type 0
Follows s goes_by =
    (p : Policy) × (m : Mesh) × (log : List Collapse) × IsAfter m log s × goes_by p m log
