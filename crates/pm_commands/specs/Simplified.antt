-- What `simplify` makes of an OBJ text: the hierarchy of the run by the fine policy, with the
-- border free or kept.
use Rattle.std.specs.Prelude.{◌≡◌, ◌↔◌, ℕ, Bool, true, false, List, Option, Result}
use Rattle.pm_base.specs.Meshes.{Mesh}
use Rattle.pm_base.specs.Sides.{net_of, IsBorder}
use Rattle.pm_base.specs.declared.log.Collapse.{Collapse}
use Rattle.pm_forest.specs.Forest.{Hierarchy}
use Rattle.pm_policies.specs.PolicyRuns.{IsRunBy}
use Rattle.pm_fine_costs.specs.FinePolicy.{fine_keeping}
use Rattle.pm_number.specs.Numbering.{hierarchy_of_run}
use Rattle.pm_commands.specs.declared.asked.Border.{Border}
use Rattle.pm_commands.specs.declared.asked.Border.TheVariants as borders
use Rattle.pm_commands.specs.declared.fault.Fault.{Fault}
use Rattle.pm_commands.specs.Surface.{IsSurfaceGiven}
use Rattle.pm_commands.specs.Build.{IsMadeOf}

-- Where the border is free no vertex is kept. Where it is kept, the vertices on it are, and no
-- others.
abbrev pub IsKeptWith : Border → Mesh → (ℕ → Bool) → Type 0
IsKeptWith borders.Free m kept = (v : ℕ) → kept v ≡ false
IsKeptWith borders.Kept m kept = (v : ℕ) → (kept v ≡ true) ↔ IsBorder (net_of m.faces) v

-- The hierarchy is that of a log of the mesh's run to the target by the fine policy that keeps
-- these vertices: each time it collapses the legal pair of least cost among those without one of
-- them. There is one such log: `OneRunByAPolicy`.
pub record IsSimplifiedWith (border : Border) (m : Mesh) (target : ℕ) (h : Hierarchy) : Type 0 where
  pub kept : ℕ → Bool
  pub keeps : IsKeptWith border m kept
  pub log : List Collapse
  pub run : IsRunBy (fine_keeping kept) m target log
  pub made : h ≡ hierarchy_of_run m log

-- The text gives no mesh, as one with nothing of a mesh does, or its mesh is simplified so.
abbrev pub IsSimplifiedText : Border → ℕ → ℕ → List ℕ → Result Hierarchy Fault → Option ℕ → Type 0
IsSimplifiedText border target digits =
    IsMadeOf (IsSurfaceGiven digits) (λ m h. IsSimplifiedWith border m target h)
