-- Why a mesh isn't simplified.
use Rattle.pm_base.specs.Sides.{Net, NoSideTwice}
use Rattle.pm_twins.specs.Faults.{IsFirstRepeating, IsFirstBroken}
use Rattle.pm_simplify.specs.declared.run.SimplifyFail.{SimplifyFail}
use Rattle.pm_simplify.specs.declared.run.SimplifyFail.TheVariants as fails

-- What each answer says. A repeated side comes before a broken fan.
abbrev pub IsSimplifyFault : Net → SimplifyFail → Type 0
IsSimplifyFault m (fails.EdgeTwice f) = IsFirstRepeating m f.0
IsSimplifyFault m (fails.NotFan v) = NoSideTwice m × IsFirstBroken m v
IsSimplifyFault m fails.OutOfMemory = Unit {0}
