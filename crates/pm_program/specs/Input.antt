-- The first bytes that a source has left.
use Rattle.std.specs.Prelude.{◌≡◌, ◌⊎◌, ℕ, ◌<◌, ◌≤◌, List, ◌++◌, length, take, Option, Result}
use Rattle.std.specs.Prelude.{Ok, Err}
use Rattle.pm_io.specs.Bytes.{Loses, AtEnd}
use Rattle.pm_io.specs.Causes.{Rose}
use Rattle.pm_program.specs.declared.input.InputFail.{InputFail}
use Rattle.pm_program.specs.declared.input.InputFail.TheVariants as fails

-- What the source lost was added to the bytes.
pub record Took (left now : Option (List ℕ)) (old new : List ℕ) : Type 0 where
  pub added : List ℕ
  pub lost : Loses left now added
  pub is : new ≡ old ++ added

-- The source lost all, or so many bytes.
pub record ReadsTo (most : ℕ) (left now : Option (List ℕ)) : Type 0 where
  pub taken : List ℕ
  pub lost : Loses left now taken
  pub enough : AtEnd now ⊎ (most ≤ length taken)

-- These are the first bytes that were left, so many of them at most.
pub record HoldsFront (most : ℕ) (left now : Option (List ℕ)) (bytes : List ℕ) : Type 0 where
  pub reads : ReadsTo most left now
  pub is : bytes ≡ take most reads.taken

-- The source lost fewer bytes.
pub record StopsShort (most : ℕ) (left now : Option (List ℕ)) : Type 0 where
  pub taken : List ℕ
  pub lost : Loses left now taken
  pub few : length taken < most

-- Only a read that failed is counted.
abbrev pub InputCounts : {T : Type 0} → ℕ → ℕ → Result T InputFail → Type 0
InputCounts before now (Ok x) = now ≡ before
InputCounts before now (Err fails.Read) = Rose before now
InputCounts before now (Err fails.OutOfMemory) = now ≡ before
