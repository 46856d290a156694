-- What a surface keeps, and why a mesh is none.
use Rattle.std.specs.Prelude.{length}
use Rattle.pm_base.specs.Meshes.{Mesh, IsWellFormed}
use Rattle.pm_base.specs.Sides.{Net, net_of, NoSideTwice}
use Rattle.pm_base.specs.Fans.{IsOrientedManifold}
use Rattle.pm_twins.specs.Table.{Table, IsTableOf}
use Rattle.pm_twins.specs.Faults.{IsFirstRepeating, IsFirstBroken}
use Rattle.pm_twins.specs.declared.surface.SurfaceFail.{SurfaceFail}
use Rattle.pm_twins.specs.declared.surface.SurfaceFail.TheVariants as fails

-- A well-formed mesh that is an oriented manifold, with the table of its sides.
pub record IsTwinned (m : Mesh) (t : Table) : Type 0 where
  pub formed : IsWellFormed m
  pub manifold : IsOrientedManifold (net_of m.faces)
  pub table : IsTableOf (net_of m.faces) (length m.points) t

-- What each answer says. A repeated side comes before a broken fan.
abbrev pub IsSurfaceFault : Net → SurfaceFail → Type 0
IsSurfaceFault m (fails.EdgeTwice f) = IsFirstRepeating m f.0
IsSurfaceFault m (fails.NotFan v) = NoSideTwice m × IsFirstBroken m v
IsSurfaceFault m fails.OutOfMemory = Unit {0}
