-- How reading a stream text ends.
use Rattle.std.proofs.Common.{◌≡◌, ℕ, ◌+◌, ◌<◌, List, [], ◌++◌}
use Rattle.std.proofs.Common.{length, Option, Some, None, IfSome, Result, Ok, Err, refl, sym, ◌∙◌}
use Rattle.std.proofs.Common.{ap, subst, arith, length-append}
use Rattle.std.specs.Io.KnownBytes.{prepend_known}
use Rattle.pm_io.specs.Bytes.{Loses, AtEnd}
use Rattle.pm_io.specs.Causes.{HasCause}
use Rattle.pm_io.proofs.Known.{loses_none}
use Rattle.pm_forest.specs.Forest.{Hierarchy}
use Rattle.pm_beyond.specs.Valid.{IsValid}
use Rattle.pm_load.specs.declared.open.LoadFail.{LoadFail}
use Rattle.pm_load.specs.declared.open.LoadFail.TheVariants as loads
use Rattle.pm_load.specs.Faults.{IsLoadFault}
use Rattle.pm_format.specs.declared.fault.FormatError.TheVariants as format
use Rattle.pm_format.specs.declared.read.Stream.{Stream}
use Rattle.pm_format.specs.declared.read.StreamFail.{StreamFail}
use Rattle.pm_format.specs.declared.read.StreamFail.TheVariants as streams
use Rattle.pm_format.specs.Stream.{stream}
use Rattle.pm_format.specs.Standing.{IsText}
use Rattle.pm_format.specs.Taking.{Reads, of_stream_source}
use Rattle.pm_commands.specs.declared.fault.Fault.{Fault}
use Rattle.pm_commands.specs.declared.fault.Fault.TheVariants as faults
use Rattle.pm_commands.specs.declared.fault.InputFail.{InputFail}
use Rattle.pm_commands.specs.declared.fault.InputFail.TheVariants as input
use Rattle.pm_commands.specs.Input.{Unreached, IsFaulty, Stops}
use Rattle.pm_commands.specs.Beginning.{Beginning, IsBeginning, begins}
use Rattle.pm_commands.specs.Beginning.{stream_fail, load_fail, leaf_side_twice, wrong_neighbour}
use Rattle.pm_commands.specs.Beginning.{IsValidBeginning, invalid, valid}
use Rattle.pm_commands.specs.Beginning.{IsHierarchyText, no_hierarchy, bytes_after, whole_text}
use Rattle.pm_commands.proofs.BeginningLaws.{valid_place, same_valid, no_valid}
use Rattle.pm_commands.proofs.StreamLaws.{valid_unreached, bad_stream}

-- What a window that holds nothing and a source have to come is what the source has.
pub nothing_held : (held : List ℕ) (left : Option (List ℕ)) → held ≡ []
    → prepend_known held left ≡ left
nothing_held held left none = ap (λ (l : List ℕ). prepend_known l left) none ∙ sym (loses_none left)

-- A stream that isn't read stops all.

pub stream_stops : (left whole mid now : Option (List ℕ)) (e : StreamFail) (in_old in_new : ℕ)
    → whole ≡ left → Reads whole mid now (Err e)
    → HasCause in_old in_new (of_stream_source {T = Stream} (Err e))
    → Stops IsValidBeginning (stream_fail e) left now in_old in_new
stream_stops left whole mid now e in_old in_new same reads cause =
    go e (subst (λ (o : Option (List ℕ)). Reads o mid now (Err e)) same reads) cause
  where
    go : (e : StreamFail) → Reads left mid now (Err e)
        → HasCause in_old in_new (of_stream_source {T = Stream} (Err e))
        → Stops IsValidBeginning (stream_fail e) left now in_old in_new
    go streams.Read reads cause = (valid_unreached left now reads, cause.failed)
    go (streams.Fault format.OutOfMemory) reads cause = cause.same
    go (streams.Fault format.BadMagic) reads cause =
        (bad_stream left format.BadMagic (λ e. absurd cc) reads, cause.same)
    go (streams.Fault (format.BadVersion v)) reads cause =
        (bad_stream left (format.BadVersion v) (λ e. absurd cc) reads, cause.same)
    go (streams.Fault (format.BadDigits d)) reads cause =
        (bad_stream left (format.BadDigits d) (λ e. absurd cc) reads, cause.same)
    go (streams.Fault (format.Truncated n)) reads cause =
        (bad_stream left (format.Truncated n) (λ e. absurd cc) reads, cause.same)
    go (streams.Fault format.BadCount) reads cause =
        (bad_stream left format.BadCount (λ e. absurd cc) reads, cause.same)
    go (streams.Fault (format.BadRoot i)) reads cause =
        (bad_stream left (format.BadRoot i) (λ e. absurd cc) reads, cause.same)
    go (streams.Fault (format.BadFace i)) reads cause =
        (bad_stream left (format.BadFace i) (λ e. absurd cc) reads, cause.same)
    go (streams.Fault (format.BadRecord i)) reads cause =
        (bad_stream left (format.BadRecord i) (λ e. absurd cc) reads, cause.same)
    go (streams.Fault (format.BadInput i)) reads cause =
        (bad_stream left (format.BadInput i) (λ e. absurd cc) reads, cause.same)

-- The text was read.

pub record Begun (left mid : Option (List ℕ)) (d : ℕ) (h : Hierarchy) : Type 0 where
  pub bytes : List ℕ
  pub text : IsText bytes d h
  pub took : Loses left mid bytes

pub begun : (left whole mid now : Option (List ℕ)) (s : Stream) → whole ≡ left
    → Reads whole mid now (Ok s) → Begun left mid s.digits s.h
begun left whole mid now s same reads = record {
  bytes = reads.0;
  text = reads.1;
  took = subst (λ (o : Option (List ℕ)). Loses o mid reads.0) same reads.2;
}

pub took_text : (left mid : Option (List ℕ)) (d : ℕ) (h : Hierarchy) → Begun left mid d h
    → Loses left mid (stream d h)
took_text left mid d h b = subst (λ (l : List ℕ). Loses left mid l) b.text.text b.took

pub opened : (bytes rest : List ℕ) (d : ℕ) (h : Hierarchy) → Begun (Some bytes) (Some rest) d h
    → IsBeginning bytes (Ok (record { digits = d; h = h; rest = rest }))
    (Some (length (stream d h)))
opened bytes rest d h b =
    begins d h rest b.text.few b.text.shape (cc (took_text (Some bytes) (Some rest) d h b))

load_refuses : (bytes rest : List ℕ) (d : ℕ) (h : Hierarchy) (e : LoadFail) (now : Option (List ℕ))
    (in_old in_new : ℕ) → Begun (Some bytes) (Some rest) d h → IsLoadFault h e → in_new ≡ in_old
    → Stops IsValidBeginning (load_fail e) (Some bytes) now in_old in_new
load_refuses bytes rest d h (loads.EdgeTwice f) now in_old in_new b fault same =
    let o : Beginning = record { digits = d; h = h; rest = rest } in (
      record {
        place = Some (length (stream d h));
        is =
            invalid o (faults.LeafEdgeTwice f.0) (Some (length (stream d h)))
            (opened bytes rest d h b)
            (leaf_side_twice f.0 fault);
      },
      same,
    )
load_refuses bytes rest d h (loads.BadNeighbour k) now in_old in_new b fault same =
    let o : Beginning = record { digits = d; h = h; rest = rest } in (
      record {
        place = Some (length (stream d h));
        is =
            invalid o (faults.BadNeighbour k) (Some (length (stream d h))) (opened bytes rest d h b)
            (wrong_neighbour k fault.0 fault.1);
      },
      same,
    )
load_refuses bytes rest d h loads.OutOfMemory now in_old in_new b fault same = same

pub load_stops : (left mid now : Option (List ℕ)) (d : ℕ) (h : Hierarchy) (e : LoadFail)
    (in_old in_new : ℕ) → Begun left mid d h → IsLoadFault h e → in_new ≡ in_old
    → Stops IsValidBeginning (load_fail e) left now in_old in_new
load_stops None mid now d h (loads.EdgeTwice f) in_old in_new b fault same = (tt, same)
load_stops None mid now d h (loads.BadNeighbour k) in_old in_new b fault same = (tt, same)
load_stops None mid now d h loads.OutOfMemory in_old in_new b fault same = same
load_stops (Some bytes) None now d h e in_old in_new b fault same = absurd (cc b.took)
load_stops (Some bytes) (Some rest) now d h e in_old in_new b fault same =
    load_refuses bytes rest d h e now in_old in_new b fault same

-- Where nothing may follow, what stops the beginning stops all.

text_before : (bytes : List ℕ) (taken : ℕ)
    → ((r : Result Beginning Fault) (place : Option ℕ) → IsValidBeginning bytes r place
    → IfSome place (λ n. taken < n))
    → (r : Result Beginning Fault) (place : Option ℕ) → IsHierarchyText bytes r place
    → IfSome place (λ n. taken < n)
text_before bytes taken before r place (no_hierarchy f i is) = before (Err f) i is
text_before bytes taken before r place (bytes_after o i is more) =
    let lt : taken < length (stream o.digits o.h) =
    subst (λ (p : Option ℕ). IfSome p (λ n. taken < n)) (valid_place bytes (Ok o) i o refl is)
    (before (Ok o) i is) in
    omega (arith, lt)
text_before bytes taken before r place (whole_text o i is none) = tt

text_unreached : (left now : Option (List ℕ)) → Unreached IsValidBeginning left now
    → Unreached IsHierarchyText left now
text_unreached left now u = record { taken = u.taken; took = u.took; before = before left u.before }
  where
    before : (left : Option (List ℕ))
        → IfSome left (λ bytes. (r : Result Beginning Fault) (place : Option ℕ)
        → IsValidBeginning bytes r place → IfSome place (λ n. length u.taken < n))
        → IfSome left (λ bytes. (r : Result Beginning Fault) (place : Option ℕ)
        → IsHierarchyText bytes r place → IfSome place (λ n. length u.taken < n))
    before None is = tt
    before (Some bytes) is = text_before bytes (length u.taken) is

pub text_stops : (e : InputFail) (left now : Option (List ℕ)) (in_old in_new : ℕ)
    → Stops IsValidBeginning e left now in_old in_new
    → Stops IsHierarchyText e left now in_old in_new
text_stops (input.Faulty f) None now in_old in_new stops = (tt, stops.1)
text_stops (input.Faulty f) (Some bytes) now in_old in_new
    stops = (
      record { place = stops.0.place; is = no_hierarchy f stops.0.place stops.0.is },
      stops.1,
    )
text_stops input.Read left now in_old in_new stops = (text_unreached left now stops.0, stops.1)
text_stops input.OutOfMemory left now in_old in_new stops = stops

-- What the bytes after the text make of it.

module _ (left mid now : Option (List ℕ)) (d : ℕ) (h : Hierarchy) (piece : List ℕ)
    (b : Begun left mid d h) (good : IsValid h) (after : mid ≡ prepend_known piece now) where
  pub text_whole : piece ≡ [] → AtEnd now
      → IfSome left (λ bytes. IsHierarchyText bytes (Ok (record { digits = d; h = h; rest = [] }))
      None)
  text_whole none end = go left mid now b after end
    where
      go : (left mid now : Option (List ℕ)) → Begun left mid d h → mid ≡ prepend_known piece now
          → AtEnd now → IfSome left
          (λ bytes. IsHierarchyText bytes (Ok (record { digits = d; h = h; rest = [] })) None)
      go None mid now b after end = tt
      go (Some bytes) None now b after end = absurd (cc b.took)
      go (Some bytes) (Some rest) None b after end = absurd (cc after)
      go (Some bytes) (Some rest) (Some later) b after end =
          let o : Beginning = record { digits = d; h = h; rest = rest } in
          let is : rest ≡ piece ++ later = cc after in
          let nothing : rest ≡ [] = is ∙ ap (λ (l : List ℕ). l ++ later) none ∙ end in
          subst (λ (l : List ℕ). IsHierarchyText bytes (Ok (record { digits = d; h = h; rest = l }))
          None) nothing
          (whole_text o (Some (length (stream d h)))
          (valid o (Some (length (stream d h))) (opened bytes rest d h b) good) nothing)

  pub text_trails : 0 < length piece
      → IfSome left (λ bytes. IsFaulty IsHierarchyText bytes faults.Trailing)
  text_trails some = go left mid now b after
    where
      go : (left mid now : Option (List ℕ)) → Begun left mid d h → mid ≡ prepend_known piece now
          → IfSome left (λ bytes. IsFaulty IsHierarchyText bytes faults.Trailing)
      go None mid now b after = tt
      go (Some bytes) None now b after = absurd (cc b.took)
      go (Some bytes) (Some rest) None b after = absurd (cc after)
      go (Some bytes) (Some rest) (Some later) b after =
          let o : Beginning = record { digits = d; h = h; rest = rest } in
          let is : rest ≡ piece ++ later = cc after in
          record {
            place = Some (length (stream d h) + 1);
            is = bytes_after o (Some (length (stream d h)))
                (valid o (Some (length (stream d h))) (opened bytes rest d h b) good)
                (λ none. absurd
                (omega (arith, some, ap length is, ap length none, length-append piece later)));
          }

-- The read failed that looks for a byte after the text.

after_text : (bytes rest : List ℕ) (d : ℕ) (h : Hierarchy) (n : ℕ)
    → IsBeginning bytes (Ok (record { digits = d; h = h; rest = rest }))
    (Some (length (stream d h))) → IsValid h → n ≡ length (stream d h)
    → (r : Result Beginning Fault) (place : Option ℕ) → IsHierarchyText bytes r place
    → IfSome place (λ m. n < m)
after_text bytes rest d h n open_is good same r place (no_hierarchy f i is) =
    let o : Beginning = record { digits = d; h = h; rest = rest } in
    absurd (no_valid bytes o f (valid o (Some (length (stream d h))) open_is good) is)
after_text bytes rest d h n open_is good same r place (bytes_after q i is more) =
    let o : Beginning = record { digits = d; h = h; rest = rest } in
    let one : q ≡ o = same_valid bytes o q (valid o (Some (length (stream d h))) open_is good) is in
    omega (arith, same, ap (λ (x : Beginning). length (stream x.digits x.h)) one)
after_text bytes rest d h n open_is good same r place (whole_text q i is none) = tt

pub end_unread : (left mid now : Option (List ℕ)) (d : ℕ) (h : Hierarchy) → Begun left mid d h
    → IsValid h → mid ≡ now → Unreached IsHierarchyText left now
end_unread left mid now d h b good same = record {
  taken = b.bytes;
  took = subst (λ (o : Option (List ℕ)). Loses left o b.bytes) same b.took;
  before = before left mid b.took;
}
  where
    before : (left mid : Option (List ℕ)) → Loses left mid b.bytes
        → IfSome left (λ bytes. (r : Result Beginning Fault) (place : Option ℕ)
        → IsHierarchyText bytes r place → IfSome place (λ n. length b.bytes < n))
    before None mid took = tt
    before (Some bytes) None took = absurd (cc took)
    before (Some bytes) (Some rest) took =
        let begin : Begun (Some bytes) (Some rest) d h = record {
          bytes = b.bytes;
          text = b.text;
          took = took;
        } in
        after_text bytes rest d h (length b.bytes) (opened bytes rest d h begin) good
        (ap length b.text.text)
