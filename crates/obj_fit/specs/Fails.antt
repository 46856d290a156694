-- Why nothing is made of a file, and when.
use Rattle.std.specs.Prelude.{◌≡◌, ℕ, ◌<◌, min, List, length, Option, None, Some, IfSome, Result}
use Rattle.std.specs.Prelude.{Err}
use Rattle.pm_io.specs.Bytes.{Loses}
use Rattle.pm_io.specs.Causes.{Rose}
use Rattle.obj_scan.specs.Refusals.{fault_number}
use Rattle.stl_read.specs.declared.fault.StlFault.{StlFault}
use Rattle.stl_read.specs.declared.fault.StlFault.TheVariants as stl_faults
use Rattle.ply_read.specs.declared.fault.PlyFault.{PlyFault}
use Rattle.ply_read.specs.declared.fault.PlyFault.TheVariants as ply_faults
use Rattle.ply_read.specs.declared.fault.Spot.{Spot}
use Rattle.ply_read.specs.declared.fault.Spot.TheVariants as spots
use Rattle.mesh_scan.specs.declared.fault.MeshFault.{MeshFault}
use Rattle.mesh_scan.specs.declared.fault.MeshFault.TheVariants as files
use Rattle.obj_fit.specs.declared.fault.Fault.{Fault}
use Rattle.obj_fit.specs.declared.fault.Fault.TheVariants as faults
use Rattle.obj_fit.specs.declared.fault.InputFail.{InputFail}
use Rattle.obj_fit.specs.declared.fault.InputFail.TheVariants as input
use Rattle.obj_fit.specs.Outcome.{Done, IsPreparedText}

-- The numbers by which programs tell the faults of STL files,
abbrev pub stl_number : StlFault → ℕ
stl_number stl_faults.CutOff = 21
stl_number stl_faults.MoreBytes = 22
stl_number stl_faults.NotFinite = 23
stl_number stl_faults.TooLarge = 24
stl_number stl_faults.TooManyVertices = 25
stl_number stl_faults.TooManyFaces = 26
stl_number stl_faults.UnexpectedWord = 27
stl_number stl_faults.BadNumber = 28

-- of PLY files,
abbrev pub ply_number : PlyFault → ℕ
ply_number ply_faults.NotPly = 41
ply_number ply_faults.CutOff = 42
ply_number ply_faults.UnexpectedLine = 43
ply_number ply_faults.UnknownFormat = 44
ply_number ply_faults.UnknownType = 45
ply_number ply_faults.BadNumber = 46
ply_number ply_faults.UnexpectedProperty = 47
ply_number ply_faults.MissingProperty = 48
ply_number ply_faults.UnexpectedElement = 49
ply_number ply_faults.NoVertices = 50
ply_number ply_faults.TriangleStrips = 51
ply_number ply_faults.TooManyVertices = 52
ply_number ply_faults.TooManyTriangles = 53
ply_number ply_faults.BadIndex = 54
ply_number ply_faults.NotFinite = 55
ply_number ply_faults.TooLarge = 56

-- and of any file.
abbrev pub file_number : MeshFault → ℕ
file_number (files.Obj e n) = fault_number e
file_number (files.Stl e spot) = stl_number e
file_number (files.Ply e spot) = ply_number e
file_number (files.Foreign kind) = 14
file_number files.TooLong = 15

abbrev pub number_of : Fault → ℕ
number_of (faults.File f) = file_number f
number_of faults.TooMany = 9
number_of faults.NoFaces = 12

-- The number of a line or byte, up to the greatest that is told.
abbrev pub told : ℕ → ℕ
told n = min n 4294967295

abbrev pub line_at : Spot → Option ℕ
line_at (spots.Line n) = Some (told n)
line_at (spots.Byte n) = None

abbrev pub byte_at : Spot → Option ℕ
byte_at (spots.Line n) = None
byte_at (spots.Byte n) = Some (told n)

-- The line that has a fault, counted from 1,
abbrev pub line_of : Fault → Option ℕ
line_of (faults.File (files.Obj e n)) = Some n
line_of (faults.File (files.Stl e spot)) = line_at spot
line_of (faults.File (files.Ply e spot)) = line_at spot
line_of (faults.File (files.Foreign kind)) = None
line_of (faults.File files.TooLong) = None
line_of faults.TooMany = None
line_of faults.NoFaces = None

-- or the byte, counted from 0.
abbrev pub byte_of : Fault → Option ℕ
byte_of (faults.File (files.Obj e n)) = None
byte_of (faults.File (files.Stl e spot)) = byte_at spot
byte_of (faults.File (files.Ply e spot)) = byte_at spot
byte_of (faults.File (files.Foreign kind)) = None
byte_of (faults.File files.TooLong) = None
byte_of faults.TooMany = None
byte_of faults.NoFaces = None

-- The bytes have this fault.
pub record HasPreparedFault (size : Option ℕ) (bytes : List ℕ) (f : Fault) : Type 0 where
  pub place : Option ℕ
  pub outcome : IsPreparedText size bytes (Err f) place

-- A read failed before the place that decides what comes of the bytes.
pub record PlaceUnreached (size : Option ℕ) (left now : Option (List ℕ)) : Type 0 where
  pub taken : List ℕ
  pub took : Loses left now taken
  pub before : IfSome left (λ bytes. (r : Result Done Fault) (place : Option ℕ)
      → IsPreparedText size bytes r place → IfSome place (λ n. length taken < n))

-- Why nothing could be made of what the source had left: `left` at first and `now` then, and what
-- its count did. Only a failed read is counted.
abbrev pub StopsPreparing : Option ℕ → InputFail → Option (List ℕ) → Option (List ℕ) → ℕ → ℕ
    → Type 0
StopsPreparing size (input.Faulty f) left now in_old in_new =
    IfSome left (λ bytes. HasPreparedFault size bytes f) × (in_new ≡ in_old)
StopsPreparing size input.Read left now in_old in_new =
    PlaceUnreached size left now × Rose in_old in_new
StopsPreparing size input.OutOfMemory left now in_old in_new = in_new ≡ in_old
