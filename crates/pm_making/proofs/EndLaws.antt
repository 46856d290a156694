-- How a command that builds ends, and what was made then.
use Rattle.std.proofs.Common.{◌≡◌, ℕ, List, [], Option, Some, None, Result, Ok, Err, refl, sym}
use Rattle.std.proofs.Common.{◌∙◌, ap, subst, arith}
use Rattle.pm_forest.specs.Forest.{Hierarchy}
use Rattle.pm_format.specs.Stream.{stream}
use Rattle.pm_commands.specs.declared.asked.Asked.{Asked}
use Rattle.pm_commands.specs.declared.asked.Asked.TheVariants as asked
use Rattle.pm_commands.specs.declared.asked.Border.{Border}
use Rattle.pm_commands.specs.declared.fault.Fault.{Fault}
use Rattle.pm_commands.specs.Input.{IsFaulty}
use Rattle.pm_commands.specs.Ran.{Ran, whole_output}
use Rattle.pm_commands.specs.Build.{IsBuilt}
use Rattle.pm_commands.specs.Simplified.{IsSimplifiedText}
use Rattle.pm_commands.specs.Outcome.{Follows, GivesMeshBack, done_with}
use Rattle.pm_commands.specs.Frames.{ShowsSurfacesOf}
use Rattle.pm_commands.specs.Borders.{FramesShowBorder}
use Rattle.pm_making.specs.declared.fail.BuildFail.{BuildFail}
use Rattle.pm_making.specs.declared.fail.BuildFail.TheVariants as fails
use Rattle.pm_making.specs.Making.{MadeText, IsStreamOf, IsRefusedBy, IsEndOf}

some_inner : {X : Type 0} {x y : X} → Some x ≡ Some y → x ≡ y
some_inner e = grind (arith, e)

pub stream_of :
    (IsMade : List ℕ → Result Hierarchy Fault → Option ℕ → Type 0) (asks : Asked) (digits : ℕ)
    (text bytes : List ℕ) (all : MadeText)
    → all ≡ record { bytes = bytes; notes = []; scale = None }
    → ShowsSurfacesOf IsMade digits text (Some []) (Some bytes)
    → GivesMeshBack asks text (Some []) (Some bytes) → IsStreamOf IsMade asks digits text all
stream_of IsMade asks digits text bytes all is shows back =
    subst (IsStreamOf IsMade asks digits text) (sym is) (record {
      h = shows.h;
      made = shows.built;
      bytes = some_inner shows.gained;
      notes = refl;
      scale = refl;
      back = back;
    })

-- What follows has a fault only where what is read has it.
fault_read :
    (does : Hierarchy → List ℕ) (read : Result Hierarchy Fault) (place : Option ℕ) (f : Fault)
    → (done_with (λ h. whole_output (does h)) read place).fault ≡ Some f → read ≡ Err f
fault_read does (Ok h) place f is = grind (arith, is)
fault_read does (Err e) place f is = ap Err (some_inner is)

pub faulty_of :
    (IsMade : List ℕ → Result Hierarchy Fault → Option ℕ → Type 0) (digits : ℕ) (text : List ℕ)
    (f : Fault) (all : Ran) → Follows (IsMade text) (λ h. whole_output (stream digits h)) all
    → all.fault ≡ Some f → IsFaulty IsMade text f
faulty_of IsMade digits text f all out is =
    let same = fault_read (stream digits) out.read out.place f
    (sym (ap (λ (r : Ran). r.fault) out.done) ∙ is) in record {
      place = out.place;
      is = subst (λ r. IsMade text r out.place) same out.is;
    }

pub build_refused :
    (target digits : ℕ) (text : List ℕ) (fail : BuildFail)
    → IsEndOf (asked.Build target digits) text fail
    → IsRefusedBy (IsBuilt target digits) text fail
build_refused target digits text (fails.Faulty f) end =
    faulty_of (IsBuilt target digits) digits text f end.1.all end.1.outcome end.1.fault_is
build_refused target digits text fails.OutOfMemory end = tt

pub simplify_refused :
    (target digits : ℕ) (border : Border) (text : List ℕ) (fail : BuildFail)
    → IsEndOf (asked.Simplify target digits border) text fail
    → IsRefusedBy (IsSimplifiedText border target digits) text fail
simplify_refused target digits border text (fails.Faulty f) end =
    faulty_of (IsSimplifiedText border target digits) digits text f end.1.all end.1.outcome
    end.1.fault_is
simplify_refused target digits border text fails.OutOfMemory end = tt

-- The same frames, of an equal text and of equal bytes.
pub border_of :
    (target digits : ℕ) (left text got items out : List ℕ) → left ≡ text → got ≡ []
    → items ≡ out → FramesShowBorder target digits left (Some got) (Some out)
    → FramesShowBorder target digits text (Some []) (Some items)
border_of target digits left text got items out same none is shown =
    subst (λ (l : List ℕ). FramesShowBorder target digits l (Some []) (Some items)) same
    (subst (λ (l : List ℕ). FramesShowBorder target digits left (Some l) (Some items)) none
    (subst (λ (l : List ℕ). FramesShowBorder target digits left (Some got) (Some l)) (sym is)
    shown))

-- What holds from nothing to the bytes of a sink holds of equal bytes.
pub of_bytes :
    (P : Option (List ℕ) → Option (List ℕ) → Type 0) (got out bytes : List ℕ) → got ≡ []
    → bytes ≡ out → P (Some got) (Some out) → P (Some []) (Some bytes)
of_bytes P got out bytes none same is =
    subst (λ (l : List ℕ). P (Some []) (Some l)) (sym same)
    (subst (λ (l : List ℕ). P (Some l) (Some out)) none is)

-- These bytes, and these lines beside them.
abbrev pub unscaled : List ℕ → List ℕ → MadeText
unscaled bytes notes = record { bytes = bytes; notes = notes; scale = None }
