-- What an OBJ text gives: the mesh that it spells, where that is an oriented manifold, or its first
-- fault.
use Rattle.std.specs.Prelude.{◌≡◌, ℕ, ◌+◌, Bool, ◌==◌, ◌&&◌, List, length, Option, None, Result}
use Rattle.std.specs.Prelude.{Ok, Err, if◌then◌else◌}
use Rattle.pm_base.specs.Meshes.{Mesh}
use Rattle.pm_base.specs.Sides.{Net, net_of, NoSideTwice}
use Rattle.pm_base.specs.Fans.{IsOrientedManifold}
use Rattle.pm_twins.specs.Faults.{IsFirstRepeating, IsFirstBroken}
use Rattle.obj_read.specs.declared.fault.ObjFail.{ObjFail}
use Rattle.obj_read.specs.declared.fault.ObjFail.TheVariants as fails
use Rattle.obj_read.specs.Meaning.{Refused, meaning_of}
use Rattle.obj_read.specs.Worded.{holds_words}
use Rattle.pm_commands.specs.declared.fault.Fault.{Fault}
use Rattle.pm_commands.specs.declared.fault.Fault.TheVariants as faults
use Rattle.pm_commands.specs.declared.fault.InputFail.{InputFail}
use Rattle.pm_commands.specs.declared.fault.InputFail.TheVariants as input

-- Want of memory is no fault of a text.
abbrev pub obj_fail : ObjFail → InputFail
obj_fail (fails.Fault fault line) = input.Faulty (faults.Obj fault line)
obj_fail fails.Read = input.Read
obj_fail fails.OutOfMemory = input.OutOfMemory

-- Why a mesh is no oriented manifold: the least face that has a directed side of an earlier face,
-- else the least vertex whose faces are no fan. Faces and vertices are counted from 1.
pub data IsMeshFault (m : Net) : Fault → Type 0 where
  side_twice : (f : ℕ) → IsFirstRepeating m f → IsMeshFault m (faults.EdgeTwice (f + 1))
  no_fan : (v : ℕ) → NoSideTwice m → IsFirstBroken m v → IsMeshFault m (faults.NotFan (v + 1))

-- The mesh is no oriented manifold, or memory was wanted.
abbrev pub IsNoSurface : Mesh → InputFail → Type 0
IsNoSurface m (input.Faulty f) = IsMeshFault (net_of m.faces) f
IsNoSurface m input.Read = ⊥
IsNoSurface m input.OutOfMemory = Unit {0}

-- The text has a line with a fault, or its mesh is no oriented manifold, or this is its mesh, with
-- so many decimals a coordinate; and how many bytes decide that, where it isn't the end of the
-- text.
pub data IsSurfaceRead (digits : ℕ) (bytes : List ℕ) : Result Mesh Fault → Option ℕ → Type 0 where
  bad_line : (r : Refused) → meaning_of digits bytes ≡ Err r
      → IsSurfaceRead digits bytes (Err (faults.Obj r.fault r.line)) r.place
  no_manifold : (m : Mesh) (f : Fault) → meaning_of digits bytes ≡ Ok m
      → IsMeshFault (net_of m.faces) f → IsSurfaceRead digits bytes (Err f) None
  manifold : (m : Mesh) → meaning_of digits bytes ≡ Ok m → IsOrientedManifold (net_of m.faces)
      → IsSurfaceRead digits bytes (Ok m) None

-- The bytes, which spell this mesh, have nothing of one: some line has more than blanks and a
-- comment, but none is a vertex, and so none a face.
abbrev pub lacks_mesh : List ℕ → Mesh → Bool
lacks_mesh bytes m = holds_words bytes && length m.points == 0

-- What bytes give that shall have a mesh, where this is read of them: nothing of one is a fault.
abbrev pub mesh_given : List ℕ → Result Mesh Fault → Result Mesh Fault
mesh_given bytes (Err f) = Err f
mesh_given bytes (Ok m) = if lacks_mesh bytes m then Err faults.NoMesh else Ok m

-- A text that shall have a mesh gives this. That it has nothing of one its end decides.
pub record IsSurfaceGiven (digits : ℕ) (bytes : List ℕ) (r : Result Mesh Fault) (place : Option ℕ)
    : Type 0 where
  pub read : Result Mesh Fault
  pub is : IsSurfaceRead digits bytes read place
  pub given : r ≡ mesh_given bytes read
