-- What bytes give that should begin with a stream text.
use Rattle.std.specs.Prelude.{◌≡◌, ◌≢◌, ℕ, ◌+◌, ◌≤◌, List, [], ◌++◌, length, Option, Some, None}
use Rattle.std.specs.Prelude.{Result, Ok, Err}
use Rattle.pm_base.specs.Sides.{net_of, NoSideTwice}
use Rattle.pm_twins.specs.Faults.{IsFirstRepeating}
use Rattle.pm_forest.specs.Forest.{Hierarchy}
use Rattle.pm_forest.specs.Rules.{HasShape}
use Rattle.pm_forest.specs.Meshes.{leaf_mesh_of}
use Rattle.pm_beyond.specs.Walks.{leaf_net}
use Rattle.pm_beyond.specs.Valid.{IsValid, IsLastToFail}
use Rattle.pm_load.specs.declared.open.LoadFail.{LoadFail}
use Rattle.pm_load.specs.declared.open.LoadFail.TheVariants as loads
use Rattle.pm_format.specs.declared.fault.FormatError.{FormatError}
use Rattle.pm_format.specs.declared.fault.FormatError.TheVariants as format
use Rattle.pm_format.specs.Stream.{stream}
use Rattle.pm_format.specs.Faults.{stream_fault}
use Rattle.pm_format.specs.Places.{IsDecidedAt}
use Rattle.pm_format.specs.declared.read.StreamFail.{StreamFail}
use Rattle.pm_format.specs.declared.read.StreamFail.TheVariants as streams
use Rattle.pm_commands.specs.declared.fault.Fault.{Fault}
use Rattle.pm_commands.specs.declared.fault.Fault.TheVariants as faults
use Rattle.pm_commands.specs.declared.fault.InputFail.{InputFail}
use Rattle.pm_commands.specs.declared.fault.InputFail.TheVariants as input

-- A hierarchy, how many decimals its coordinates have, and the bytes that follow its stream text.
pub record Beginning : Type 0 where
  pub digits : ℕ
  pub h : Hierarchy
  pub rest : List ℕ

-- A unit of the text has a fault, which the unit's last byte decides; or the text is cut off; or
-- the bytes begin with the stream text of a hierarchy, which its last byte decides.
pub data IsBeginning (bytes : List ℕ) : Result Beginning Fault → Option ℕ → Type 0 where
  bad_unit : (e : FormatError) (n : ℕ) → stream_fault bytes ≡ Some e → IsDecidedAt bytes n
      → IsBeginning bytes (Err (faults.Stream e)) (Some n)
  cut_off : stream_fault bytes ≡ Some (format.Truncated (length bytes))
      → IsBeginning bytes (Err (faults.Stream (format.Truncated (length bytes)))) None
  begins : (digits : ℕ) (h : Hierarchy) (rest : List ℕ) → digits ≤ 4 → HasShape h
      → bytes ≡ stream digits h ++ rest
      → IsBeginning bytes (Ok (record { digits = digits; h = h; rest = rest }))
      (Some (length (stream digits h)))

-- Want of memory is no fault of the bytes.
abbrev pub stream_fail : StreamFail → InputFail
stream_fail streams.Read = input.Read
stream_fail (streams.Fault format.OutOfMemory) = input.OutOfMemory
stream_fail (streams.Fault format.BadMagic) = input.Faulty (faults.Stream format.BadMagic)
stream_fail (streams.Fault (format.BadVersion version)) =
    input.Faulty (faults.Stream (format.BadVersion version))
stream_fail (streams.Fault (format.BadDigits digits)) =
    input.Faulty (faults.Stream (format.BadDigits digits))
stream_fail (streams.Fault (format.Truncated bytes)) =
    input.Faulty (faults.Stream (format.Truncated bytes))
stream_fail (streams.Fault format.BadCount) = input.Faulty (faults.Stream format.BadCount)
stream_fail (streams.Fault (format.BadRoot root)) =
    input.Faulty (faults.Stream (format.BadRoot root))
stream_fail (streams.Fault (format.BadFace face)) =
    input.Faulty (faults.Stream (format.BadFace face))
stream_fail (streams.Fault (format.BadRecord record_number)) =
    input.Faulty (faults.Stream (format.BadRecord record_number))
stream_fail (streams.Fault (format.BadInput field)) =
    input.Faulty (faults.Stream (format.BadInput field))

-- What is wrong with the hierarchy of a stream: the least face of the leaf mesh that has a directed
-- side of an earlier face; or else the last record that isn't as told. Faces and records are
-- counted from 0.
pub data IsHierarchyFault (h : Hierarchy) : Fault → Type 0 where
  leaf_side_twice : (f : ℕ) → IsFirstRepeating (net_of (leaf_mesh_of h).faces) f
      → IsHierarchyFault h (faults.LeafEdgeTwice f)
  wrong_neighbour : (k : ℕ) → NoSideTwice (leaf_net h) → IsLastToFail h k
      → IsHierarchyFault h (faults.BadNeighbour k)

-- The bytes begin with no stream text, or its hierarchy has a fault, or it is valid. The hierarchy
-- is judged once its last byte is there.
pub data IsValidBeginning (bytes : List ℕ) : Result Beginning Fault → Option ℕ → Type 0 where
  no_stream : (f : Fault) (place : Option ℕ) → IsBeginning bytes (Err f) place
      → IsValidBeginning bytes (Err f) place
  invalid : (o : Beginning) (f : Fault) (place : Option ℕ) → IsBeginning bytes (Ok o) place
      → IsHierarchyFault o.h f → IsValidBeginning bytes (Err f) place
  valid : (o : Beginning) (place : Option ℕ) → IsBeginning bytes (Ok o) place → IsValid o.h
      → IsValidBeginning bytes (Ok o) place

-- The bytes don't begin with the stream text of a valid hierarchy, or a byte follows it, or they
-- are its text. That nothing follows is decided by the end of the bytes alone.
pub data IsHierarchyText (bytes : List ℕ) : Result Beginning Fault → Option ℕ → Type 0 where
  no_hierarchy : (f : Fault) (place : Option ℕ) → IsValidBeginning bytes (Err f) place
      → IsHierarchyText bytes (Err f) place
  bytes_after : (o : Beginning) (place : Option ℕ) → IsValidBeginning bytes (Ok o) place
      → o.rest ≢ []
      → IsHierarchyText bytes (Err faults.Trailing) (Some (length (stream o.digits o.h) + 1))
  whole_text : (o : Beginning) (place : Option ℕ) → IsValidBeginning bytes (Ok o) place
      → o.rest ≡ [] → IsHierarchyText bytes (Ok o) None

-- Want of memory is no fault of a hierarchy.
abbrev pub load_fail : LoadFail → InputFail
load_fail (loads.EdgeTwice f) = input.Faulty (faults.LeafEdgeTwice f.0)
load_fail (loads.BadNeighbour k) = input.Faulty (faults.BadNeighbour k)
load_fail loads.OutOfMemory = input.OutOfMemory
