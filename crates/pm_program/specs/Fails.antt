-- The status of a program that ended early, its line, and what the counts of its devices did.
use Rattle.std.specs.Prelude.{◌≡◌, ℕ, List, ◌++◌, Result, Ok, Err, codes}
use Rattle.pm_io.specs.Causes.{Rose}
use Rattle.pm_program.specs.declared.fail.RunFail.{RunFail}
use Rattle.pm_program.specs.declared.fail.RunFail.TheVariants as fails
use Rattle.pm_program.specs.declared.input.InputFail.{InputFail}
use Rattle.pm_program.specs.declared.input.InputFail.TheVariants as input

-- What a program ends by whose input isn't there.
abbrev pub of_input_fail : {F : Type 0} → InputFail → RunFail F
of_input_fail input.Read = fails.Read
of_input_fail input.OutOfMemory = fails.OutOfMemory

abbrev pub status_of : {F : Type 0} → RunFail F → ℕ
status_of (fails.Faulty fault) = 1
status_of fails.Read = 3
status_of fails.Write = 4
status_of fails.OutOfMemory = 5

-- The line that a program of this name says, of a fault its own one.
unfoldable pub fail_line : {F : Type 0} → List ℕ → (F → List ℕ) → RunFail F → List ℕ
fail_line program fault_line (fails.Faulty fault) = fault_line fault
fail_line program fault_line fails.Read = program ++ codes ": read fault\n"
fail_line program fault_line fails.Write = program ++ codes ": write fault\n"
fail_line program fault_line fails.OutOfMemory = program ++ codes ": out of memory\n"

-- What the count of the sink did.
abbrev pub PutCounts : {F : Type 0} → Result (Unit {0}) (RunFail F) → ℕ → ℕ → Type 0
PutCounts (Ok done) old new = new ≡ old
PutCounts (Err (fails.Faulty fault)) old new = new ≡ old
PutCounts (Err fails.Read) old new = new ≡ old
PutCounts (Err fails.Write) old new = Rose old new
PutCounts (Err fails.OutOfMemory) old new = new ≡ old

-- What the count of the source did.
abbrev pub ReadCounts : {F : Type 0} → Result (Unit {0}) (RunFail F) → ℕ → ℕ → Type 0
ReadCounts (Ok done) old new = new ≡ old
ReadCounts (Err (fails.Faulty fault)) old new = new ≡ old
ReadCounts (Err fails.Read) old new = Rose old new
ReadCounts (Err fails.Write) old new = new ≡ old
ReadCounts (Err fails.OutOfMemory) old new = new ≡ old
