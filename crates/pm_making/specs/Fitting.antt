-- What is made of any OBJ text in memory, so that it is fit.
use Rattle.std.specs.Prelude.{◌≡◌, ℕ, List, ◌++◌, Option, None, Ok}
use Rattle.obj_fit.specs.Fails.{HasPreparedFault}
use Rattle.obj_fit.specs.Outcome.{IsPreparedText}
use Rattle.obj_fit.specs.Scales.{TellsScale}
use Rattle.pm_making.specs.declared.fail.PrepareFail.{PrepareFail}
use Rattle.pm_making.specs.declared.fail.PrepareFail.TheVariants as fails
use Rattle.pm_making.specs.Making.{MadeText}

-- The bytes and the lines beside them are what `prepare` writes of the text and says.
abbrev pub IsPreparedOf : Option ℕ → List ℕ → MadeText → Type 0
IsPreparedOf size text all =
    IsPreparedText size text (Ok (record { text = all.bytes; notes = all.notes })) None

-- The first line of the bytes tells the scale.
pub record HasScale (all : MadeText) : Type 0 where
  pub line : List ℕ
  pub rest : List ℕ
  pub is : all.bytes ≡ line ++ rest
  pub tells : TellsScale line all.scale

-- Why nothing is made of a text: it has a fault, or too much or nothing would come of it. Want of
-- memory is none of its own.
abbrev pub IsUnfit : Option ℕ → List ℕ → PrepareFail → Type 0
IsUnfit size text (fails.Faulty f) = HasPreparedFault size text f
IsUnfit size text fails.OutOfMemory = Unit {0}
