-- An outcome is the only one of its bytes, and how a command ends.
use Rattle.std.proofs.Common.{◌≡◌, ℕ, ◌<◌, List, [], length, Option, Some, None, Result, Ok, Err}
use Rattle.std.proofs.Common.{IfSome, OnOk, refl, sym, ◌∙◌, ap, subst, arith}
use Rattle.pm_base.specs.Canonical.{canonical_text}
use Rattle.pm_forest.specs.Meshes.{input_mesh_of}
use Rattle.pm_format.specs.Stream.{stream}
use Rattle.pm_io.specs.Bytes.{Gains, GainsPart, AtEnd}
use Rattle.pm_io.proofs.Known.{gains_none, loses_none}
use Rattle.pm_commands.specs.declared.fault.Fault.{Fault}
use Rattle.pm_commands.specs.declared.fault.InputFail.{InputFail}
use Rattle.pm_commands.specs.declared.fault.InputFail.TheVariants as input
use Rattle.pm_commands.specs.declared.fault.CommandFail.{CommandFail}
use Rattle.pm_commands.specs.declared.fault.CommandFail.TheVariants as fails
use Rattle.pm_commands.specs.declared.asked.Border.{Border}
use Rattle.pm_commands.specs.declared.asked.Asked.{Asked}
use Rattle.pm_commands.specs.declared.asked.Asked.TheVariants as asked
use Rattle.pm_commands.specs.Input.{fail_of, Unreached, IsFaulty, Stops}
use Rattle.pm_demo.proofs.SummaryLaws.{one_summary}
use Rattle.pm_commands.specs.Ran.{Ran, refused, whole_output, unread}
use Rattle.pm_commands.specs.Surface.{IsSurfaceRead}
use Rattle.pm_commands.specs.Build.{IsSimplified, IsBuilt}
use Rattle.pm_commands.specs.Simplified.{IsSimplifiedText}
use Rattle.pm_commands.specs.Beginning.{IsHierarchyText}
use Rattle.pm_commands.specs.Outcome.{IsOutcome, done_with, Follows, counts_line, OneOutcome}
use Rattle.pm_commands.specs.Outcome.{Replied, CutShort}
use Rattle.pm_commands.specs.Ending.{PutBy, ReadFails, ReadToEnd, TakesTo, ReadToPlace, Ends}
use Rattle.pm_commands.specs.Ending.{Counts}
use Rattle.pm_commands.proofs.SurfaceLaws.{one_surface}
use Rattle.pm_commands.proofs.BuildLaws.{GivesOne, one_simplified, one_made}
use Rattle.pm_commands.proofs.GivenLaws.{one_simplified_text}
use Rattle.pm_commands.proofs.BeginningLaws.{one_valid, one_hierarchy}

-- Bytes have one outcome.

one_follows : {X : Type 0} {IsRead : Result X Fault → Option ℕ → Type 0} {does : X
    → Ran} {a b : Ran}
    → GivesOne IsRead → Follows IsRead does a → Follows IsRead does b → a ≡ b
one_follows {does = does} one is are =
    let same = one is.read are.read is.place are.place is.is are.is in
    is.done ∙ ap (λ (r : Result _ Fault). done_with does r is.place) same.0
    ∙ ap (λ (i : Option ℕ). done_with does are.read i) same.1 ∙ sym are.done

pub one_outcome : OneOutcome
one_outcome (asked.Canon digits) bytes a b is are =
    one_follows (λ p q i j one other. one_surface digits bytes one other) is are
one_outcome (asked.Build target digits) bytes a b is are =
    one_follows (one_made (IsSurfaceRead digits) (λ m h. IsSimplified m target h) bytes
    (λ p q i j one other. one_surface digits bytes one other)
    (λ m h g. one_simplified m target h g)) is are
one_outcome asked.Expand bytes a b is are =
    one_follows (λ p q i j one other. one_hierarchy bytes one other) is are
one_outcome asked.Check bytes a b is are =
    one_follows (λ p q i j one other. one_hierarchy bytes one other) is are
one_outcome (asked.View budget) bytes a b is are =
    one_follows (λ p q i j one other. one_valid bytes one other) is are
one_outcome (asked.Live budget) bytes a b is are =
    one_follows (λ p q i j one other. one_valid bytes one other) is are
one_outcome (asked.Demo n) bytes a b is are =
    is.done ∙ ap unread (one_summary n is.text are.text is.summary are.summary) ∙ sym are.done
one_outcome (asked.Simplify target digits border) bytes a b is are =
    one_follows (one_simplified_text border target digits bytes) is are

-- What follows from what the bytes give.

pub follows_refused : {X : Type 0} (IsRead : Result X Fault → Option ℕ → Type 0) (does : X
    → Ran) (f : Fault) (place : Option ℕ) → IsRead (Err f) place
    → Follows IsRead does (refused f place)
follows_refused IsRead does f place is = record {
  read = Err f;
  place = place;
  is = is;
  done = refl;
}

pub follows_done : {X : Type 0} (IsRead : List ℕ → Result X Fault → Option ℕ → Type 0) (does : X
    → Ran) (left : Option (List ℕ)) (x : X) (place : Option ℕ)
    → IfSome left (λ bytes. IsRead bytes (Ok x) place)
    → IfSome left (λ bytes. Follows (IsRead bytes) does (does x))
follows_done IsRead does None x place is = tt
follows_done IsRead does (Some bytes) x place is = record {
  read = Ok x;
  place = place;
  is = is;
  done = refl;
}

-- All of the outcome's text was put, or a part.

pub ends_all : (asks : Asked) (left old new : Option (List ℕ)) (all : Ran) (fault : Option Fault)
    → IfSome left (λ bytes. IsOutcome asks bytes all) → all.fault ≡ fault → Gains old new all.text
    → IfSome left (λ bytes. Replied asks bytes fault old new)
ends_all asks None old new all fault outcome is gained = tt
ends_all asks (Some bytes) old new all fault outcome is gained = record {
  all = all;
  outcome = outcome;
  fault_is = is;
  gained = gained;
}

pub ends_part : (asks : Asked) (left old new : Option (List ℕ)) (all : Ran)
    → IfSome left (λ bytes. IsOutcome asks bytes all) → GainsPart old new all.text
    → IfSome left (λ bytes. CutShort asks bytes old new)
ends_part asks None old new all outcome part = tt
ends_part asks (Some bytes) old new all outcome part = record {
  all = all;
  outcome = outcome;
  part = part;
}

-- The input is refused, and nothing is put.
pub ends_refused : (asks : Asked) (left got : Option (List ℕ)) (f : Fault)
    → IfSome left (λ bytes. (place : Option ℕ) × IsOutcome asks bytes (refused f place))
    → IfSome left (λ bytes. Replied asks bytes (Some f) got got)
ends_refused asks None got f outcome = tt
ends_refused asks (Some bytes) got f outcome = record {
  all = refused f outcome.0;
  outcome = outcome.1;
  fault_is = refl;
  gained = gains_none got;
}

-- Where the end of the input decides what a command writes of what it reads, bytes that don't reach
-- the place of what is read don't reach that of the outcome.
follows_before : {X : Type 0} (IsRead : Result X Fault → Option ℕ → Type 0) (does : X
    → Ran) (taken : ℕ) (all : Ran) → ((x : X) → (does x).place ≡ None)
    → ((r : Result X Fault) (place : Option ℕ) → IsRead r place → IfSome place (λ n. taken < n))
    → Follows IsRead does all → IfSome all.place (λ n. taken < n)
follows_before {X = X} IsRead does taken all at_end before f =
    subst (λ (a : Ran). IfSome a.place (λ n. taken < n)) (sym f.done) (go f.read f.place f.is)
  where
    go : (r : Result X Fault) (place : Option ℕ) → IsRead r place
        → IfSome (done_with does r place).place (λ n. taken < n)
    go (Ok x) place is = subst (λ (o : Option ℕ). IfSome o (λ n. taken < n)) (sym (at_end x)) tt
    go (Err e) place is = before (Err e) place is

-- A command that writes nothing before it has read all of its input.
module _ {X : Type 0} (asks : Asked) (IsRead : List ℕ → Result X Fault → Option ℕ
    → Type 0) (does : X → Ran) (at_end : (x : X) → (does x).place ≡ None) (silent : (taken : List ℕ)
    → PutBy asks taken [])
    (given : (bytes : List ℕ) (all : Ran) → IsOutcome asks bytes all
    → Follows (IsRead bytes) does all) (gives : (bytes : List ℕ) (all : Ran)
    → Follows (IsRead bytes) does all → IsOutcome asks bytes all) where
  ends_unreached : (left now got : Option (List ℕ)) → Unreached IsRead left now
      → ReadFails asks left now got got
  ends_unreached left now got u = record {
    taken = u.taken;
    took = u.took;
    before = before left u.before;
    text = [];
    put = silent u.taken;
    gained = gains_none got;
  }
    where
      before : (left : Option (List ℕ))
          → IfSome left (λ bytes. (r : Result X Fault) (place : Option ℕ) → IsRead bytes r place
          → IfSome place (λ n. length u.taken < n))
          → IfSome left (λ bytes. (all : Ran) → IsOutcome asks bytes all
          → IfSome all.place (λ n. length u.taken < n))
      before None is = tt
      before (Some bytes) is = λ all outcome. follows_before (IsRead bytes) does (length u.taken)
          all at_end is (given bytes all outcome)

  ends_faulty : (left got : Option (List ℕ)) (f : Fault)
      → IfSome left (λ bytes. IsFaulty IsRead bytes f)
      → IfSome left (λ bytes. Replied asks bytes (Some f) got got)
  ends_faulty None got f is = tt
  ends_faulty (Some bytes) got f is =
      ends_refused asks (Some bytes) got f (
        is.place,
        gives bytes (refused f is.place)
            (follows_refused (IsRead bytes) does f is.place is.is),
      )

  pub ends_stopped : (e : InputFail) (left now got : Option (List ℕ)) (in_old in_new : ℕ)
      → Stops IsRead e left now in_old in_new → Ends asks (Err (fail_of e)) left now got got
  ends_stopped (input.Faulty f) left now got in_old in_new stops = ends_faulty left got f stops.0
  ends_stopped input.Read left now got in_old in_new stops = ends_unreached left now got stops.0
  ends_stopped input.OutOfMemory left now got in_old in_new stops = refl

pub counts_stopped : {X : Type 0} (IsRead : List ℕ → Result X Fault → Option ℕ
    → Type 0) (e : InputFail) (left now : Option (List ℕ)) (in_old in_new out : ℕ)
    → Stops IsRead e left now in_old in_new → Counts (Err (fail_of e)) in_old in_new out out
counts_stopped IsRead (input.Faulty f) left now in_old in_new out stops = (stops.1, refl)
counts_stopped IsRead input.Read left now in_old in_new out stops = (stops.1, refl)
counts_stopped IsRead input.OutOfMemory left now in_old in_new out stops = (stops, refl)

pub to_end : (asks : Asked) (left now : Option (List ℕ)) → AtEnd now → ReadToEnd asks left now
to_end asks None now end = tt
to_end asks (Some bytes) now end = λ all outcome none. end

pub ok_to_end : (asks : Asked) (left now : Option (List ℕ)) (r : Result (Unit {0}) CommandFail)
    → OnOk r (AtEnd now) → OnOk r (ReadToEnd asks left now)
ok_to_end asks left now (Ok done) end = to_end asks left now end
ok_to_end asks left now (Err e) end = tt

-- Where the end of the input decides what a command writes of what it reads, no byte decides a
-- whole outcome.

whole_nowhere : {X : Type 0} (IsRead : Result X Fault → Option ℕ → Type 0) (does : X
    → Ran) (all : Ran) → ((x : X) → (does x).place ≡ None) → Follows IsRead does all
    → all.fault ≡ None → all.place ≡ None
whole_nowhere {X = X} IsRead does all at_end f whole =
    ap (λ (a : Ran). a.place) f.done
    ∙ go f.read f.place (sym (ap (λ (a : Ran). a.fault) f.done) ∙ whole)
  where
    go : (r : Result X Fault) (place : Option ℕ) → (done_with does r place).fault ≡ None
        → (done_with does r place).place ≡ None
    go (Ok x) place whole = at_end x
    go (Err e) place whole = absurd (cc whole)

-- So the input was read to the place of a whole outcome, as it has none.
replied_to_place : (asks : Asked) (left now old new : Option (List ℕ))
    → ((bytes : List ℕ) (all : Ran) → IsOutcome asks bytes all → all.fault ≡ None
    → all.place ≡ None) → IfSome left (λ bytes. Replied asks bytes None old new)
    → ReadToPlace asks left now
replied_to_place asks None now old new nowhere replied = tt
replied_to_place asks (Some bytes) now old new nowhere replied = λ all is.
    let same : replied.all ≡ all = one_outcome asks bytes replied.all all replied.outcome is in
    let none : all.place ≡ None =
    nowhere bytes all is (sym (ap (λ (a : Ran). a.fault) same) ∙ replied.fault_is) in
    subst (λ (p : Option ℕ). IfSome p (λ n. TakesTo n (Some bytes) now)) (sym none) tt

module _ {X : Type 0} (asks : Asked) (IsRead : List ℕ → Result X Fault → Option ℕ
    → Type 0) (does : X → Ran) (at_end : (x : X) → (does x).place ≡ None)
    (given : (bytes : List ℕ) (all : Ran) → IsOutcome asks bytes all
    → Follows (IsRead bytes) does all) where
  pub ended_to_place : (r : Result (Unit {0}) CommandFail) (left now old new : Option (List ℕ))
      → Ends asks r left now old new → OnOk r (ReadToPlace asks left now)
  ended_to_place (Ok done) left now old new ends =
      replied_to_place asks left now old new
      (λ bytes all is whole. whole_nowhere (IsRead bytes) does all at_end (given bytes all is)
      whole) ends
  ended_to_place (Err e) left now old new ends = tt

pub canon_to_place : (digits : ℕ) (r : Result (Unit {0}) CommandFail)
    (left now old new : Option (List ℕ)) → Ends (asked.Canon digits) r left now old new
    → OnOk r (ReadToPlace (asked.Canon digits) left now)
canon_to_place digits =
    ended_to_place (asked.Canon digits) (IsSurfaceRead digits)
    (λ m. whole_output (canonical_text digits m)) (λ x. refl) (λ bytes all is. is)

pub build_to_place : (target digits : ℕ) (r : Result (Unit {0}) CommandFail)
    (left now old new : Option (List ℕ)) → Ends (asked.Build target digits) r left now old new
    → OnOk r (ReadToPlace (asked.Build target digits) left now)
build_to_place target digits =
    ended_to_place (asked.Build target digits) (IsBuilt target digits)
    (λ h. whole_output (stream digits h)) (λ x. refl) (λ bytes all is. is)

pub simplify_to_place : (target digits : ℕ) (border : Border) (r : Result (Unit {0}) CommandFail)
    (left now old new : Option (List ℕ))
    → Ends (asked.Simplify target digits border) r left now old new
    → OnOk r (ReadToPlace (asked.Simplify target digits border) left now)
simplify_to_place target digits border =
    ended_to_place (asked.Simplify target digits border) (IsSimplifiedText border target digits)
    (λ h. whole_output (stream digits h)) (λ x. refl) (λ bytes all is. is)

pub expand_to_place : (r : Result (Unit {0}) CommandFail) (left now old new : Option (List ℕ))
    → Ends asked.Expand r left now old new → OnOk r (ReadToPlace asked.Expand left now)
expand_to_place =
    ended_to_place asked.Expand IsHierarchyText
    (λ o. whole_output (canonical_text o.digits (input_mesh_of o.h))) (λ x. refl)
    (λ bytes all is. is)

pub check_to_place : (r : Result (Unit {0}) CommandFail) (left now old new : Option (List ℕ))
    → Ends asked.Check r left now old new → OnOk r (ReadToPlace asked.Check left now)
check_to_place =
    ended_to_place asked.Check IsHierarchyText (λ o. whole_output (counts_line o.h)) (λ x. refl)
    (λ bytes all is. is)

-- `demo` reads nothing.
pub demo_to_place : (n : ℕ) (r : Result (Unit {0}) CommandFail) (left : Option (List ℕ))
    → OnOk r (ReadToPlace (asked.Demo n) left left)
demo_to_place n (Err e) left = tt
demo_to_place n (Ok done) None = tt
demo_to_place n (Ok done) (Some bytes) = λ all is.
    let taken : TakesTo 0 (Some bytes) (Some bytes) = record {
      taken = [];
      took = loses_none (Some bytes);
      reached = omega arith;
      few = omega arith;
    } in
    subst (λ (a : Ran). IfSome a.place (λ place. TakesTo place (Some bytes) (Some bytes)))
    (sym is.done) taken

-- Reading its input isn't writing.
pub no_write : (e : InputFail) → fail_of e ≡ fails.Write → ⊥
no_write (input.Faulty f) is = absurd (cc is)
no_write input.Read is = absurd (cc is)
no_write input.OutOfMemory is = absurd (cc is)
