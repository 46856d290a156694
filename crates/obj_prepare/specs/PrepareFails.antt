-- Why no mesh is made of placed vertices and triangles.
use Rattle.std.specs.Prelude.{List}
use Rattle.pm_base.specs.declared.mesh.Corners.{Corners}
use Rattle.pm_base.specs.Place.{Place}
use Rattle.obj_prepare.specs.declared.preparing.PrepareFail.{PrepareFail}
use Rattle.obj_prepare.specs.declared.preparing.PrepareFail.TheVariants as fails
use Rattle.obj_prepare.specs.Prepared.{HasTooMany}

abbrev pub IsPrepareFail : List Place → List Corners → PrepareFail → Type 0
IsPrepareFail places faces fails.TooMany = HasTooMany places faces
IsPrepareFail places faces fails.OutOfMemory = Unit {0}
