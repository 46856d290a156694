-- How a summary ends.
use Rattle.std.specs.Prelude.{◌≡◌, ℕ, List, Option, Result, Ok, Err}
use Rattle.pm_io.specs.Bytes.{Gains, GainsPart}
use Rattle.pm_io.specs.Causes.{Rose}
use Rattle.pm_demo.specs.declared.write.DemoFail.{DemoFail}
use Rattle.pm_demo.specs.declared.write.DemoFail.TheVariants as fails
use Rattle.pm_demo.specs.Summary.{IsSummary}

-- The sink gained the summary,
pub record IsWritten (n : ℕ) (old new : Option (List ℕ)) : Type 0 where
  pub text : List ℕ
  pub summary : IsSummary n text
  pub gained : Gains old new text

-- or a proper prefix of it.
pub record IsCut (n : ℕ) (old new : Option (List ℕ)) : Type 0 where
  pub text : List ℕ
  pub summary : IsSummary n text
  pub part : GainsPart old new text

-- `old` and `new` are what the sink had taken.
abbrev pub DemoEnds : ℕ → Result (Unit {0}) DemoFail → Option (List ℕ) → Option (List ℕ) → Type 0
DemoEnds n (Ok done) old new = IsWritten n old new
DemoEnds n (Err fails.Write) old new = IsCut n old new
DemoEnds n (Err fails.OutOfMemory) old new = new ≡ old

-- What the sink's count did then.
abbrev pub DemoCounts : Result (Unit {0}) DemoFail → ℕ → ℕ → Type 0
DemoCounts (Err fails.Write) before now = Rose before now
DemoCounts result before now = now ≡ before
