-- What feeding the bytes of a word did.
use Rattle.std.proofs.Common.{◌≡◌, ℕ, ◌≤◌, List, ◌++◌}
use Rattle.std.proofs.Common.{Bool, length, take, refl, arith}
use Rattle.std.proofs.Common.{true, false, not, Ok, Err}
use Rattle.std.proofs.lemmas.List.{take_all}
use Rattle.pm_format.specs.declared.fault.FormatError.{FormatError}
use Rattle.pm_format.specs.declared.fault.FormatError.TheVariants as faults
use Rattle.pm_format.specs.declared.taken.Taken.{Taken}
use Rattle.pm_format.specs.Standing as standing
use Rattle.pm_format.specs.declared.stage.Stage.{Stage}
use Rattle.pm_format.specs.declared.stage.Stage.TheVariants as stages
use Rattle.pm_format.specs.Standing.{Decoding, IsDecoderAfter, HasFaultAlready, IsText, is_whole}
use Rattle.pm_format.specs.Standing.{DecoderTells, takes_more}
use Rattle.pm_pack.specs.Unpacking.{IsCut}
use Rattle.pm_pack.specs.Unpacking.{Feeds, named}

-- A fault that a piece gave.
pub named-feeds : (old piece longer : List ℕ) (next : Decoding) (e : FormatError)
    → HasFaultAlready (old ++ piece) e → Feeds old piece longer next (Err (named e))
named-feeds old piece longer next faults.BadMagic has = ((λ e. cc), has)
named-feeds old piece longer next (faults.BadVersion v) has = ((λ e. cc), has)
named-feeds old piece longer next (faults.BadDigits d) has = ((λ e. cc), has)
named-feeds old piece longer next (faults.Truncated n) has = ((λ e. cc), has)
named-feeds old piece longer next faults.BadCount has = ((λ e. cc), has)
named-feeds old piece longer next (faults.BadRoot i) has = ((λ e. cc), has)
named-feeds old piece longer next (faults.BadFace i) has = ((λ e. cc), has)
named-feeds old piece longer next (faults.BadRecord i) has = ((λ e. cc), has)
named-feeds old piece longer next (faults.BadInput i) has = ((λ e. cc), has)
named-feeds old piece longer next faults.OutOfMemory has = tt

-- A decoder that tells that its text is whole stands so.
stands_whole_at : (stage : Stage) (t : Taken) → DecoderTells stage (Ok t) → t.whole ≡ true
    → is_whole stage ≡ true
stands_whole_at stages.Header t tells is = cc
stands_whole_at (stages.Units s digits) t tells is = cc
stands_whole_at (stages.Whole h digits) t tells is = refl
stands_whole_at (stages.Refused e) t tells is = absurd tells

stands_whole : (next : Decoding) (t : Taken) → DecoderTells next.stage (Ok t) → t.whole ≡ true
    → is_whole next.stage ≡ true
stands_whole next t tells is = stands_whole_at next.stage t tells is

-- One that tells that it isn't takes more.
stands_open_at : (stage : Stage) (t : Taken) → DecoderTells stage (Ok t) → t.whole ≡ false
    → takes_more stage ≡ true
stands_open_at stages.Header t tells is = refl
stands_open_at (stages.Units s digits) t tells is = refl
stands_open_at (stages.Whole h digits) t tells is = cc
stands_open_at (stages.Refused e) t tells is = absurd tells

-- A piece that was taken.
taken-feeds : (old piece longer : List ℕ) (next : Decoding) (t : Taken) (whole : Bool)
    → t.whole ≡ whole → longer ≡ old ++ piece → t.used ≤ length piece
    → (t.whole ≡ false → t.used ≡ length piece) → IsDecoderAfter (old ++ take t.used piece) next
    → DecoderTells next.stage (Ok t) → standing.Says old piece (Ok t)
    → Feeds old piece longer next (Ok (not whole))
taken-feeds old piece longer next t true is l few all after tells says =
    let (digits, h, text) = says.1 is in (
      l,
      record {
        used = t.used;
        digits = digits;
        h = h;
        few = few;
        is = text;
        all = record { after = after; whole = stands_whole next t tells is };
      },
    )
taken-feeds old piece longer next t false is l few all after tells says =
    let used : t.used ≡ length piece = all is in
    let same : take t.used piece ≡ piece = take_all t.used piece (omega arith) in
    let after' : IsDecoderAfter (old ++ piece) next = rw same at after in
    let cut : IsCut (old ++ piece) = rw same at (says.0 is) in
    (l, rw l after', rw l cut, stands_open_at next.stage t tells is)

pub ok-feeds : (old piece longer : List ℕ) (next : Decoding) (t : Taken)
    → longer ≡ old ++ piece → t.used ≤ length piece
    → (t.whole ≡ false → t.used ≡ length piece) → IsDecoderAfter (old ++ take t.used piece) next
    → DecoderTells next.stage (Ok t) → standing.Says old piece (Ok t)
    → Feeds old piece longer next (Ok (not t.whole))
ok-feeds old piece longer next t l few all after tells says =
    taken-feeds old piece longer next t t.whole refl l few all after tells says
