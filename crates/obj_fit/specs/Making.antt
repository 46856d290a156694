-- What is held of a mesh that was made, and why none was.
use Rattle.std.specs.Prelude.{◌≡◌, ℕ, ◌++◌, Option}
use Rattle.pm_base.specs.Meshes.{mesh_of}
use Rattle.pm_base.specs.Canonical.{canonical_text}
use Rattle.obj_scan.specs.Judged.{Scanned}
use Rattle.obj_prepare.specs.Named.{of_three}
use Rattle.obj_prepare.specs.Prepared.{HasTooMany}
use Rattle.obj_fit.specs.declared.fault.Fault.TheVariants as faults
use Rattle.obj_fit.specs.declared.fault.InputFail.{InputFail}
use Rattle.obj_fit.specs.declared.fault.InputFail.TheVariants as input
use Rattle.obj_fit.specs.declared.laying.Laid.{Laid}
use Rattle.obj_fit.specs.declared.making.Made.{Made}
use Rattle.obj_prepare.specs.Placing.{IsSized}
use Rattle.obj_fit.specs.Outcome.{Done, LeavesNoFace, cut_in, fit_in, overlapping_in, places_in}

-- The texts that are written and said of it.
abbrev pub done_of : Made → Done
done_of m = record {
  text = m.head.items ++ canonical_text 0 (mesh_of m.mesh);
  notes = m.notes.items;
}

-- Of points and triangles no mesh is made where too many vertices come out or no face, or memory
-- is wanting.
abbrev pub IsMakeFail : Option ℕ → Scanned → InputFail → Type 0
IsMakeFail size s (input.Faulty (faults.File f)) = ⊥
IsMakeFail size s (input.Faulty faults.TooMany) = HasTooMany (places_in size s)
    (of_three (cut_in size s))
IsMakeFail size s (input.Faulty faults.NoFaces) = LeavesNoFace (places_in size s)
    (of_three (cut_in size s))
IsMakeFail size s input.Read = ⊥
IsMakeFail size s input.OutOfMemory = Unit {0}

-- The points of a text on the grid, and its triangles once polygons were cut anew.
pub record IsLaid (size : Option ℕ) (s : Scanned) (laid : Laid) : Type 0 where
  pub fans : laid.fans.items ≡ of_three s.faces
  pub fit : laid.placing.fit ≡ fit_in size s
  pub sized : IsSized laid.placing.fit
  pub places : laid.placing.places.items ≡ places_in size s
  pub cut : laid.cut.faces.items ≡ cut_in size s
  pub overlapping : laid.cut.overlapping ≡ overlapping_in size s
  pub three : laid.three.items ≡ of_three (cut_in size s)
