-- What is made of bytes: the lines of the coat that follows a stream text.
use Rattle.std.specs.Prelude.{◌≡◌, ℕ, List, Some, Ok, Err}
use Rattle.pm_forest.specs.Forest.{Hierarchy, leaf_count}
use Rattle.pm_forest.specs.Faces.{face_count}
use Rattle.pm_format.specs.Faults.{stream_fault}
use Rattle.paint.specs.declared.refused.Refused.{Refused}
use Rattle.paint.specs.declared.coat.CoatFail.{CoatFail}
use Rattle.paint.specs.declared.coat.CoatFail.TheVariants as coat_fails
use Rattle.paint.specs.declared.fault.Fault.{Fault}
use Rattle.paint.specs.declared.fault.Fault.TheVariants as faults
use Rattle.pm_program.specs.declared.making.MakeFail.{MakeFail}
use Rattle.pm_program.specs.declared.making.MakeFail.TheVariants as fails
use Rattle.paint.specs.Coat.{Coat, coat_of}
use Rattle.paint.specs.Lines.{lines_of}
use Rattle.paint.specs.Streams.{BeginsWith}

-- The lines are those of the coat that the rest is.
pub record IsPainted (h : Hierarchy) (rest lines : List ℕ) : Type 0 where
  pub coat : Coat
  pub is : coat_of (leaf_count h) (face_count h) rest ≡ Ok coat
  pub are : lines ≡ lines_of h coat

pub record IsMade (bytes lines : List ℕ) : Type 0 where
  pub h : Hierarchy
  pub rest : List ℕ
  pub begins : BeginsWith bytes h rest
  pub painted : IsPainted h rest lines

-- The rest of the bytes has this fault.
pub record HasBadCoat (bytes : List ℕ) (refused : Refused) : Type 0 where
  pub h : Hierarchy
  pub rest : List ℕ
  pub begins : BeginsWith bytes h rest
  pub is : coat_of (leaf_count h) (face_count h) rest ≡ Err refused

-- The bytes have this fault.
abbrev pub IsFaulty : List ℕ → Fault → Type 0
IsFaulty bytes (faults.Stream e) = stream_fault bytes ≡ Some e
IsFaulty bytes (faults.Coat e) = HasBadCoat bytes e

-- Bytes of which nothing is made.
pub record Refuses (bytes : List ℕ) (fault : Fault) : Type 0 where
  pub faulty : IsFaulty bytes fault
  pub none : (lines : List ℕ) → ¬ IsMade bytes lines

-- Want of memory is no fault of the input.
abbrev pub coat_fail : CoatFail → MakeFail Fault
coat_fail (coat_fails.Refused e) = fails.Faulty (faults.Coat e)
coat_fail coat_fails.OutOfMemory = fails.OutOfMemory
