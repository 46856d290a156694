-- The outcome of each command on bytes.
use Rattle.std.specs.Prelude.{◌≡◌, ℕ, List, ◌++◌, length, Option, None, Result, Ok, Err, codes}
use Rattle.std.specs.Fmt.{decimal}
use Rattle.pm_io.specs.Bytes.{Gains, GainsPart}
use Rattle.pm_forest.specs.Forest.{Hierarchy, leaf_count, record_count}
use Rattle.pm_forest.specs.Faces.{face_count}
use Rattle.pm_forest.specs.Meshes.{input_mesh_of}
use Rattle.pm_base.specs.Canonical.{canonical_text}
use Rattle.pm_session.specs.declared.grammar.Grammar.{Grammar}
use Rattle.pm_session.specs.declared.grammar.Grammar.TheVariants as grammars
use Rattle.pm_session.specs.Script.{at_first}
use Rattle.pm_session.specs.Serving.{played}
use Rattle.pm_format.specs.Stream.{stream}
use Rattle.pm_format.specs.Words.{IsBytes}
use Rattle.pm_demo.specs.Summary.{IsSummary}
use Rattle.pm_commands.specs.declared.asked.Asked.{Asked}
use Rattle.pm_commands.specs.declared.asked.Asked.TheVariants as asked
use Rattle.pm_commands.specs.declared.fault.Fault.{Fault}
use Rattle.pm_commands.specs.Asked.{digits_asked, HasSize}
use Rattle.pm_commands.specs.Surface.{IsSurfaceRead}
use Rattle.pm_commands.specs.Build.{IsBuilt}
use Rattle.pm_commands.specs.Simplified.{IsSimplifiedText}
use Rattle.pm_commands.specs.Beginning.{IsValidBeginning, IsHierarchyText}
use Rattle.pm_commands.specs.Ran.{Ran, refused, whole_output, unread, of_script}

-- What a command does with what it reads, and nothing where the input is refused.
abbrev pub done_with : {X : Type 0} → (X → Ran) → Result X Fault → Option ℕ → Ran
done_with does (Ok x) place = does x
done_with does (Err f) place = refused f place

-- The outcome of a command that does this with what it reads, where `IsRead` says what the bytes
-- give and by which place.
pub record Follows {X : Type 0} (IsRead : Result X Fault → Option ℕ → Type 0) (does : X
    → Ran) (all : Ran) : Type 0 where
  pub read : Result X Fault
  pub place : Option ℕ
  pub is : IsRead read place
  pub done : all ≡ done_with does read place

-- `leaves L roots R base B records N faces F`
unfoldable pub counts_line : Hierarchy → List ℕ
counts_line h =
    codes "leaves " ++ decimal (leaf_count h) ++ codes " roots " ++ decimal (length h.roots)
    ++ codes " base " ++ decimal (length h.bases)
    ++ codes " records " ++ decimal (record_count h) ++ codes " faces " ++ decimal (face_count h)
    ++ codes "\n"

-- The outcome of `demo`, whatever the bytes are: the summary of the grid.
pub record Summarizes (n : ℕ) (all : Ran) : Type 0 where
  pub text : List ℕ
  pub summary : IsSummary n text
  pub done : all ≡ unread text

-- The outcome of a script of this grammar that follows the stream text of a valid hierarchy.
abbrev pub PlaysScript : Grammar → ℕ → List ℕ → Ran → Type 0
PlaysScript grammar budget bytes all =
    Follows (IsValidBeginning bytes)
    (λ o. of_script (length (stream o.digits o.h))
    (played o.h grammar (at_first budget) o.rest)) all

-- The outcome of a command on bytes. `canon` writes the canonical text of the mesh, `build` the
-- stream text of the hierarchy that the mesh's run makes, `expand` the canonical text of the mesh
-- that a hierarchy was made from, with as many decimals as the stream tells, `check` how large the
-- hierarchy is, `view` and `live` what the script does that follows it, and `demo` the summary of a
-- grid. The program `simplify` writes a stream text as `build` does.
abbrev pub IsOutcome : Asked → List ℕ → Ran → Type 0
IsOutcome (asked.Canon digits) bytes all =
    Follows (IsSurfaceRead digits bytes) (λ m. whole_output (canonical_text digits m)) all
IsOutcome (asked.Build target digits) bytes all =
    Follows (IsBuilt target digits bytes) (λ h. whole_output (stream digits h)) all
IsOutcome asked.Expand bytes all =
    Follows (IsHierarchyText bytes)
    (λ o. whole_output (canonical_text o.digits (input_mesh_of o.h))) all
IsOutcome asked.Check bytes all =
    Follows (IsHierarchyText bytes) (λ o. whole_output (counts_line o.h)) all
IsOutcome (asked.View budget) bytes all = PlaysScript grammars.View budget bytes all
IsOutcome (asked.Live budget) bytes all = PlaysScript grammars.Live budget bytes all
IsOutcome (asked.Demo n) bytes all = Summarizes n all
IsOutcome (asked.Simplify target digits border) bytes all =
    Follows (IsSimplifiedText border target digits bytes) (λ h. whole_output (stream digits h)) all

-- Whatever is asked for, and whatever bytes the input has, there is an outcome.
abbrev pub SomeOutcome : Type 0
SomeOutcome = (asks : Asked) → HasSize asks → (bytes : List ℕ) → IsBytes bytes
    → (all : Ran) × IsOutcome asks bytes all

-- And an input has no other: one text, one fault or none, and one place.
abbrev pub OneOutcome : Type 0
OneOutcome = (asks : Asked) (bytes : List ℕ) (one other : Ran) → IsOutcome asks bytes one
    → IsOutcome asks bytes other → one ≡ other

-- A whole outcome of `view` is one of `live` too.
abbrev pub LiveDoesAsView : Type 0
LiveDoesAsView =
    (budget : ℕ) (bytes : List ℕ) (all : Ran) → IsOutcome (asked.View budget) bytes all
    → all.fault ≡ None
    → IsOutcome (asked.Live budget) bytes all

-- The outcome has this fault, or none, and the sink gained its text.
pub record Replied (asks : Asked) (bytes : List ℕ) (fault : Option Fault)
    (old new : Option (List ℕ)) : Type 0 where
  pub all : Ran
  pub outcome : IsOutcome asks bytes all
  pub fault_is : all.fault ≡ fault
  pub gained : Gains old new all.text

-- The sink gained the stream text of what was asked for, and `expand` does with that text what
-- `canon` does with the OBJ text, with the same number of decimals.
pub record GivesMeshBack (asks : Asked) (bytes : List ℕ) (old new : Option (List ℕ)) : Type 0 where
  pub replied : Replied asks bytes None old new
  pub expands : (all : Ran) → IsOutcome (asked.Canon (digits_asked asks)) bytes all
      → IsOutcome asked.Expand replied.all.text all

-- So it is with the text of a build.
abbrev pub GivesBack : ℕ → ℕ → List ℕ → Option (List ℕ) → Option (List ℕ) → Type 0
GivesBack target digits = GivesMeshBack (asked.Build target digits)

-- The sink gained a proper prefix of the outcome's text.
pub record CutShort (asks : Asked) (bytes : List ℕ) (old new : Option (List ℕ)) : Type 0 where
  pub all : Ran
  pub outcome : IsOutcome asks bytes all
  pub part : GainsPart old new all.text
