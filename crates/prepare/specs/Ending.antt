-- How the program ends, and when each status comes.
use Rattle.std.specs.Prelude.{◌≡◌, ℕ, List, ◌++◌, Option, None, Some, IfSome, Ok, codes}
use Rattle.std.specs.Fmt.{decimal}
use Rattle.pm_io.specs.Bytes.{Gains, GainsPart}
use Rattle.obj_fit.specs.declared.fault.Fault.{Fault}
use Rattle.obj_fit.specs.declared.fault.InputFail.{InputFail}
use Rattle.obj_fit.specs.declared.fault.InputFail.TheVariants as input
use Rattle.pm_program.specs.declared.fail.RunFail.{RunFail}
use Rattle.pm_program.specs.declared.fail.RunFail.TheVariants as fails
use Rattle.obj_fit.specs.Outcome.{Done, IsPreparedText}
use Rattle.obj_fit.specs.Fails.{HasPreparedFault, PlaceUnreached, number_of, line_of, byte_of}
use Rattle.obj_fit.specs.Reasons.{reason_of}
use Rattle.pm_io.specs.Puts.{Said}

-- The sink gained the text of what was done, and beside it these notes are to be said.
pub record Written (size : Option ℕ) (bytes notes : List ℕ) (old new : Option (List ℕ)) : Type 0
  where
    pub done : Done
    pub outcome : IsPreparedText size bytes (Ok done) None
    pub notes_are : notes ≡ done.notes
    pub gained : Gains old new done.text

-- The sink gained a proper prefix of the text.
pub record IsPreparedInPart (size : Option ℕ) (bytes : List ℕ) (old new : Option (List ℕ)) : Type 0
  where
    pub done : Done
    pub outcome : IsPreparedText size bytes (Ok done) None
    pub part : GainsPart old new done.text

-- The sink gained the text of what was done, and the error sink what is said of it.
pub record Finished (size : Option ℕ) (bytes : List ℕ) (old new err_old err_new : Option (List ℕ))
    (err_before err_now : ℕ) : Type 0 where
  pub done : Done
  pub outcome : IsPreparedText size bytes (Ok done) None
  pub gained : Gains old new done.text
  pub said : Said err_old err_new err_before err_now done.notes

-- ` line N` of a line, ` byte N` of a byte, and nothing where none has the fault.
abbrev pub place_text : List ℕ → Option ℕ → List ℕ
place_text what None = codes ""
place_text what (Some n) = what ++ decimal n

-- The line of a fault: its number, the line or byte that has it, and what it is.
unfoldable pub prepare_fault_line : Fault → List ℕ
prepare_fault_line f = codes "prepare: fault " ++ decimal (number_of f)
    ++ place_text (codes " line ") (line_of f) ++ place_text (codes " byte ") (byte_of f)
    ++ codes " (" ++ reason_of f ++ codes ")\n"

-- What the program ends by where nothing is made of the input.
abbrev pub of_make_fail : InputFail → RunFail Fault
of_make_fail (input.Faulty f) = fails.Faulty f
of_make_fail input.Read = fails.Read
of_make_fail input.OutOfMemory = fails.OutOfMemory

-- How the program ends early: only a failed write finds the output changed.
abbrev pub FailsBy : Option ℕ → RunFail Fault → Option (List ℕ) → Option (List ℕ)
    → Option (List ℕ) → Option (List ℕ) → Type 0
FailsBy size (fails.Faulty f) left now old new =
    IfSome left (λ bytes. HasPreparedFault size bytes f) × (new ≡ old)
FailsBy size fails.Read left now old new = PlaceUnreached size left now × (new ≡ old)
FailsBy size fails.Write left now old new =
    IfSome left (λ bytes. IsPreparedInPart size bytes old new)
FailsBy size fails.OutOfMemory left now old new = new ≡ old
