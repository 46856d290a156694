-- What cuts a stream text off or is wrong in it, while it is read.
use Rattle.std.proofs.Common.{◌≡◌, inl, inr, ℕ, ◌<◌, Bool, true, false, cond, List, ◌++◌}
use Rattle.std.proofs.Common.{length, Option, Some, None, IfSome, Result, Ok, Err, refl, sym, ◌∙◌}
use Rattle.std.proofs.Common.{ap, subst}
use Rattle.pm_io.specs.Bytes.{Loses}
use Rattle.pm_forest.specs.Forest.{Hierarchy}
use Rattle.pm_forest.specs.declared.parts.Shape.{Shape}
use Rattle.pm_forest.specs.declared.parts.Shape.TheVariants as shapes
use Rattle.pm_format.specs.declared.fault.FormatError.{FormatError}
use Rattle.pm_format.specs.declared.fault.FormatError.TheVariants as format
use Rattle.pm_format.specs.declared.stop.Stop.{Stop}
use Rattle.pm_format.specs.declared.stop.Stop.TheVariants as kinds
use Rattle.pm_format.specs.Words.{words_of}
use Rattle.pm_format.specs.Reading.{forest_at}
use Rattle.pm_format.specs.Faults.{stream_fault, magic_is_bad, fault_in, named}
use Rattle.pm_format.specs.Places.{is_truncated}
use Rattle.pm_format.specs.Taking.{CutOffUnread, HasFault}
use Rattle.pm_format.proofs.PlaceLaws.{there_is_a_place, dont_reach, dont_reach_end}
use Rattle.pm_commands.specs.declared.fault.Fault.{Fault}
use Rattle.pm_commands.specs.declared.fault.Fault.TheVariants as faults
use Rattle.pm_commands.specs.Input.{Unreached, IsFaulty}
use Rattle.pm_commands.specs.Beginning.{Beginning, IsBeginning, bad_unit, cut_off, begins}
use Rattle.pm_commands.specs.Beginning.{IsValidBeginning, no_stream, invalid, valid}

-- What was taken is a front of the bytes.
rest_is : (bytes taken : List ℕ) (now : Option (List ℕ)) → Loses (Some bytes) now taken
    → (rest : List ℕ) × (bytes ≡ taken ++ rest) × (now ≡ Some rest)
rest_is bytes taken None took = absurd (cc took)
rest_is bytes taken (Some rest) took = (rest, cc took, refl)

-- Bytes that are cut off in the stream don't reach a place.

beginning_before : (taken rest : List ℕ)
    → stream_fault taken ≡ Some (format.Truncated (length taken))
    → (r : Result Beginning Fault) (place : Option ℕ) → IsBeginning (taken ++ rest) r place
    → IfSome place (λ n. length taken < n)
beginning_before taken rest cut r place (bad_unit e n fault at) = dont_reach taken rest n cut at
beginning_before taken rest cut r place (cut_off fault) = tt
beginning_before taken rest cut r place (begins d h more few shape is) =
    dont_reach_end taken rest more d h few shape cut is

valid_before : (taken rest : List ℕ) → stream_fault taken ≡ Some (format.Truncated (length taken))
    → (r : Result Beginning Fault) (place : Option ℕ) → IsValidBeginning (taken ++ rest) r place
    → IfSome place (λ n. length taken < n)
valid_before taken rest cut r place (no_stream f i is) =
    beginning_before taken rest cut (Err f) i is
valid_before taken rest cut r place (invalid o f i is fault) =
    beginning_before taken rest cut (Ok o) i is
valid_before taken rest cut r place (valid o i is good) =
    beginning_before taken rest cut (Ok o) i is

pub valid_unread : (left now : Option (List ℕ)) (u : CutOffUnread left now)
    → IfSome left (λ bytes. (r : Result Beginning Fault) (place : Option ℕ)
    → IsValidBeginning bytes r place → IfSome place (λ n. length u.taken < n))
valid_unread left now u = go left u.took
  where
    go : (left : Option (List ℕ)) → Loses left now u.taken
        → IfSome left (λ bytes. (r : Result Beginning Fault) (place : Option ℕ)
        → IsValidBeginning bytes r place → IfSome place (λ n. length u.taken < n))
    go None took = tt
    go (Some bytes) took = λ r place is.
        let (rest, whole, now_is) = rest_is bytes u.taken now took in
        valid_before u.taken rest u.cut r place
        (subst (λ (l : List ℕ). IsValidBeginning l r place) whole is)

pub valid_unreached : (left now : Option (List ℕ)) → CutOffUnread left now
    → Unreached IsValidBeginning left now
valid_unreached left now u = record {
  taken = u.taken;
  took = u.took;
  before = valid_unread left now u;
}

-- The text has a fault.

truncated_is : (bytes : List ℕ) (n : ℕ) → stream_fault bytes ≡ Some (format.Truncated n)
    → n ≡ length bytes
unfolding stream_fault
truncated_is bytes n is = go (magic_is_bad bytes) (forest_at (words_of bytes)) is
  where
    shape_no : (f : Shape) → Some (named (length bytes) (kinds.Fault f)) ≡ Some (format.Truncated n)
        → ⊥
    shape_no shapes.BadCount e = absurd cc
    shape_no (shapes.BadRoot i) e = absurd cc
    shape_no (shapes.BadFace i) e = absurd cc
    shape_no (shapes.BadRecord i) e = absurd cc
    shape_no (shapes.BadInput i) e = absurd cc
    shape_no shapes.OutOfMemory e = absurd cc

    go : (bad : Bool) (r : Result (Hierarchy × List ℕ) Stop)
        → cond bad (Some format.BadMagic) (fault_in (length bytes) r) ≡ Some (format.Truncated n)
        → n ≡ length bytes
    go true r e = absurd cc
    go false (Ok u) e = absurd cc
    go false (Err kinds.End) e = cc
    go false (Err (kinds.Version v)) e = absurd cc
    go false (Err (kinds.Digits d)) e = absurd cc
    go false (Err (kinds.Fault f)) e = absurd (shape_no f e)

pub bad_text : (bytes : List ℕ) (e : FormatError) (cut : Bool) → is_truncated (Some e) ≡ cut
    → stream_fault bytes ≡ Some e → IsFaulty IsValidBeginning bytes (faults.Stream e)
bad_text bytes e false told is =
    let (n, at) = there_is_a_place bytes (ap is_truncated is ∙ told) in
    record { place = Some n; is = no_stream (faults.Stream e) (Some n) (bad_unit e n is at) }
bad_text bytes (format.Truncated n) true told is =
    let len = truncated_is bytes n is in
    let ends : IsBeginning bytes (Err (faults.Stream (format.Truncated (length bytes)))) None =
    cut_off (is ∙ ap (λ (k : ℕ). Some (format.Truncated k)) len) in
    record {
      place = None;
      is = subst (λ (k : ℕ). IsValidBeginning bytes (Err (faults.Stream (format.Truncated k))) None)
          (sym len) (no_stream (faults.Stream (format.Truncated (length bytes))) None ends);
    }
bad_text bytes format.BadMagic true told is = absurd cc
bad_text bytes (format.BadVersion v) true told is = absurd cc
bad_text bytes (format.BadDigits d) true told is = absurd cc
bad_text bytes format.BadCount true told is = absurd cc
bad_text bytes (format.BadRoot i) true told is = absurd cc
bad_text bytes (format.BadFace i) true told is = absurd cc
bad_text bytes (format.BadRecord i) true told is = absurd cc
bad_text bytes (format.BadInput i) true told is = absurd cc
bad_text bytes format.OutOfMemory true told is = absurd cc

pub bad_stream : (left : Option (List ℕ)) (e : FormatError) → (e ≡ format.OutOfMemory → ⊥)
    → HasFault left e → IfSome left (λ bytes. IsFaulty IsValidBeginning bytes (faults.Stream e))
bad_stream left e other (inl memory) = absurd (other memory)
bad_stream None e other (inr is) = tt
bad_stream (Some bytes) e other (inr is) = bad_text bytes e (is_truncated (Some e)) refl is
