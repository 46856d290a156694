-- What the beginning of a packed text tells.
use Rattle.std.proofs.Common.{◌≡◌, ◌≢◌, ◌⊎◌, ◌≤◌, ◌<◌, ℕ, inl, inr, List, Bool, true, false}
use Rattle.std.proofs.Common.{◌&&◌, nat_le, ◌==◌, [], length, Ok, Err, refl, sym, ap, subst, arith}
use Rattle.pm_coder.specs.declared.predictor.Predictor as predictor
use Rattle.pm_coder.specs.Coding.{Progress}
use Rattle.pm_coder.specs.RoundTrips.{first}
use Rattle.pm_forest.specs.Forest.{Hierarchy, record_count}
use Rattle.pm_format.specs.declared.stage.Stage.{Stage}
use Rattle.pm_format.specs.declared.stage.Stage.TheVariants as stages
use Rattle.pm_format.specs.Words.{spelled}
use Rattle.pm_format.specs.Standing.{Decoding, IsDecoderAfter, HasUnits, has_begun}
use Rattle.pm_format.specs.Standing.{is_whole, StandsAfter, digits_of, IsSoundDecoding}
use Rattle.pm_format.specs.Standing.{takes_more, header_bytes}
use Rattle.pm_format.proofs.AnsweredLaws.{begins_empty}
use Rattle.pm_pack.specs.declared.beginning.Beginning.{Beginning}
use Rattle.pm_pack.specs.declared.beginning.Beginning.TheVariants as beginnings
use Rattle.pm_pack.specs.declared.reading.UnpackFail.{UnpackFail}
use Rattle.pm_pack.specs.declared.reading.UnpackFail.TheVariants as fails
use Rattle.pm_pack.specs.Texts.{Known, all_known}
use Rattle.pm_pack.specs.Packed.{slots, at_first}
use Rattle.pm_pack.specs.Unpacking.{ReadsAll, SaysStream, HasAll, HasFed, CutsAt, IsOneMore}
use Rattle.pm_pack.specs.Unpacking.{Steps, GoesOn, HasRead}
use Rattle.pm_pack.specs.declared.beginning.Reach.TheVariants as reaches
use Rattle.pm_pack.specs.Beginnings.{records_in, has_records, IsPartOf, IsTextOrPart, SaysFew}
use Rattle.pm_pack.specs.Beginnings.{IsBeginningOf, IsEarlyFail, IsStillShort, TellsNoMore}
use Rattle.pm_pack.specs.Beginnings.{EndsEarly, Reaches, reach_after, StandsSoundly}
use Rattle.pm_pack.proofs.StepLaws.{reads-none, short-untold}
use Rattle.pm_pack.proofs.EndLaws.{none-cut, none-spelled}

-- Where n records weren't there, and one word more was read.
still-short : {P : Type 0} (k : predictor.Ghosts P) (from : Known P) (code words before : List ℕ)
    (at : Progress) (stream : Decoding) (n : ℕ) → HasFed k from code before at stream
    → IsSoundDecoding stream.stage stream.held stream.taken → has_records stream.stage n ≡ false
    → IsOneMore before words → IsStillShort n words
still-short k from code words before at stream n fed sound short more = record {
  before = before;
  last = more.last;
  is = more.is;
  stream = stream;
  stands = record { after = fed.after; sound = sound };
  on = fed.on;
  short = short;
}

-- Where one word more was all, or reading failed at it.
module _ {P : Type 0} (k : predictor.Ghosts P) (from new : Known P) (code before : List ℕ)
    (was : Progress) (stream : Decoding) (n : ℕ) (fed : HasFed k from code before was stream)
    (sound : IsSoundDecoding stream.stage stream.held stream.taken)
    (short : has_records stream.stage n ≡ false) where
  pub whole-reach : (text : List ℕ) (at : Progress) (next : Decoding)
      → Steps k from code before new at next text (Ok false)
      → Reaches k from code n at next text (Ok reaches.Whole)
  whole-reach text at next s = (
    s.0,
    s.1,
    still-short k from code (s.0).words before was stream n fed sound short
        s.2,
  )

  pub fail-reach : (text : List ℕ) (at : Progress) (next : Decoding) (e : UnpackFail)
      → Steps k from code before new at next text (Err e)
      → Reaches k from code n at next text (reach_after e)
  fail-reach text at next fails.NotPacked s = absurd s
  fail-reach text at next fails.Cut s = s
  fail-reach text at next fails.Trailing s = absurd s
  fail-reach text at next (fails.Stream fault) s = (
    s.0,
    still-short k from code (s.0).words before was stream n fed sound short
        s.1,
  )
  fail-reach text at next fails.OutOfMemory s = tt

-- The units of a stage are as many as it has.
units-counted : (stage : Stage) (h : Hierarchy) → HasUnits stage h
    → records_in stage ≡ record_count h
units-counted stages.Header h are = absurd are
units-counted (stages.Units s digits) h are = ap record_count (sym are)
units-counted (stages.Whole g digits) h are = ap record_count (sym are)
units-counted (stages.Refused e) h are = absurd are

both-true : (a b : Bool) → (a && b) ≡ true → (a ≡ true) × (b ≡ true)
both-true true true e = (refl, refl)
both-true true false e = cc
both-true false b e = cc

-- A stage that has so many has begun.
pub records-begun : (stage : Stage) (n : ℕ) → has_records stage n ≡ true → has_begun stage ≡ true
records-begun stage n has = (both-true (has_begun stage) (nat_le n (records_in stage)) has).0

pub records-most : (stage : Stage) (n : ℕ) → has_records stage n ≡ true → n ≤ records_in stage
records-most stage n has =
    let le = (both-true (has_begun stage) (nat_le n (records_in stage)) has).1 in grind arith

pub whole-begun : (stage : Stage) → is_whole stage ≡ true → has_begun stage ≡ true
whole-begun stages.Header is = cc
whole-begun (stages.Units s digits) is = cc
whole-begun (stages.Whole h digits) is = refl
whole-begun (stages.Refused e) is = cc

-- Coordinates have at most four decimals.
digits-few : (text : List ℕ) (stage : Stage) (held : List ℕ) → StandsAfter text stage held
    → has_begun stage ≡ true → digits_of stage ≤ 4
digits-few text stages.Header held stands begun = cc
digits-few text (stages.Units s digits) held stands begun = stands.few
digits-few text (stages.Whole h digits) held stands begun = stands.few
digits-few text (stages.Refused e) held stands begun = cc

-- The part of what was fed is a part of what the code bytes tell.
pub part-fed : (code words : List ℕ) (at : Progress) (stream : Decoding) (n : ℕ) (b : Beginning)
    → HasRead slots at_first code words at → StandsSoundly (spelled words) stream
    → (n ≤ records_in stream.stage) ⊎ TellsNoMore slots at_first words at
    → (takes_more stream.stage ≡ true) ⊎ (n < records_in stream.stage)
    → IsPartOf stream.stage n b → IsBeginningOf code n b
part-fed code words at stream n (beginnings.Whole text) read stands enough some part = absurd part
part-fed code words at stream n (beginnings.Part p) read stands enough some part =
    let (units, are, begun, digits, is) = part in
    let counted = units-counted stream.stage units are in
    record {
      units = units;
      tells = record {
        words = words;
        at = at;
        read = read;
        stream = stream;
        stands = stands;
        begun = begun;
        are = are;
        digits_are = digits;
      };
      is = is;
      few = rw digits (digits-few (spelled words) stream.stage stream.held stands.after.0 begun);
      enough = elim enough [
        | inl le ↦ inl (rw (sym counted) le)
        | inr none ↦ inr none
      ];
      some = elim some [
        | inl on ↦ inl on
        | inr lt ↦ inr (rw (sym counted) lt)
      ];
    }

-- The same of what was fed, of which more is to come.
pub part-so_far : (code words : List ℕ) (at : Progress) (stream : Decoding) (n : ℕ)
    (b : Beginning) → HasFed slots at_first code words at stream
    → IsSoundDecoding stream.stage stream.held stream.taken
    → (n ≤ records_in stream.stage) ⊎ TellsNoMore slots at_first words at
    → IsPartOf stream.stage n b → IsBeginningOf code n b
part-so_far code words at stream n b fed sound enough part =
    part-fed code words at stream n b fed.read (record { after = fed.after; sound = sound }) enough
    (inl fed.on) part

unbegun : {A : Type 0} {begun : Bool} → begun ≡ true → begun ≡ false → A
unbegun is isnt = cc

other_fail : {A : Type 0} (e : UnpackFail) → e ≢ fails.Cut → e ≡ fails.Cut → A
other_fail e other same = absurd (other same)

-- There is no part only where the stage has none yet.
pub fail-begun : (code : List ℕ) (n : ℕ) (begun : Bool) (e : UnpackFail) → begun ≡ true
    → (e ≢ fails.OutOfMemory → begun ≡ false) → IsEarlyFail code n e
fail-begun code n begun fails.NotPacked is early = unbegun is (early (λ x. cc))
fail-begun code n begun fails.Cut is early = unbegun is (early (λ x. cc))
fail-begun code n begun fails.Trailing is early = unbegun is (early (λ x. cc))
fail-begun code n begun (fails.Stream f) is early = unbegun is (early (λ x. cc))
fail-begun code n begun fails.OutOfMemory is early = tt

pub fail-early : (code : List ℕ) (n : ℕ) (stream : Decoding) (e : UnpackFail)
    → CutsAt slots at_first code stream → IsSoundDecoding stream.stage stream.held stream.taken
    → (e ≢ fails.OutOfMemory → (e ≡ fails.Cut) × (has_begun stream.stage ≡ false))
    → IsEarlyFail code n e
fail-early code n stream fails.NotPacked cut sound early =
    other_fail fails.NotPacked (λ x. cc) (early (λ x. cc)).0
fail-early code n stream fails.Cut cut sound early = record {
  off = cut.0;
  stream = stream;
  stands = record { after = cut.1.after; sound = sound };
  on = cut.1.on;
  early = (early (λ x. cc)).1;
}
fail-early code n stream fails.Trailing cut sound early =
    other_fail fails.Trailing (λ x. cc) (early (λ x. cc)).0
fail-early code n stream (fails.Stream f) cut sound early =
    other_fail (fails.Stream f) (λ x. cc) (early (λ x. cc)).0
fail-early code n stream fails.OutOfMemory cut sound early = tt

-- A fail while words were read.
pub fail-read : (code text : List ℕ) (n : ℕ) (at : Progress) (stream : Decoding) (e : UnpackFail)
    → Reaches slots at_first code n at stream text (Err e) → IsEarlyFail code n e
fail-read code text n at stream fails.NotPacked f = f
fail-read code text n at stream fails.Cut f = absurd f
fail-read code text n at stream fails.Trailing f = absurd f
fail-read code text n at stream (fails.Stream fault) f = f
fail-read code text n at stream fails.OutOfMemory f = tt

-- Before any word a decoder of a stream is in the header.
abbrev at_header : Decoding
at_header = record { stage = stages.Header; held = []; taken = 0 }

after_none : (text : List ℕ) → [] ≡ text → IsDecoderAfter text at_header
after_none text e =
    subst (λ l. IsDecoderAfter l at_header) e (begins_empty [] refl, λ more. refl)

sound_none : IsSoundDecoding stages.Header [] 0
unfolding header_bytes
sound_none = (grind arith, refl, grind arith)

-- Fewer than four code bytes.
pub short-early : (code : List ℕ) → length code < 4 → EndsEarly code
short-early code short = record {
  off = record {
    words = [];
    at = first code;
    read = reads-none slots at_first code;
    cut = rw (sym none-spelled) none-cut;
    none = λ w small. short-untold slots (all_known slots at_first []) code short w;
  };
  stream = at_header;
  stands = record { after = after_none (spelled []) none-spelled; sound = sound_none };
  on = refl;
  early = refl;
}

-- The text of a stage that has the whole of it.
few-of : (code text : List ℕ) (stage : Stage) (held : List ℕ) (n : ℕ) → StandsAfter text stage held
    → is_whole stage ≡ true → SaysStream code text → records_in stage ≤ n → SaysFew code n text
few-of code text stages.Header held n stands is says few = cc
few-of code text (stages.Units s digits) held n stands is says few = cc
few-of code text (stages.Whole h digits) held n stands is says few =
    record { says = says; digits = digits; h = h; is = stands; few = few }
few-of code text (stages.Refused e) held n stands is says few = cc

pub whole-part : (code text : List ℕ) (at : Progress) (stream : Decoding) (n : ℕ)
    (b : Beginning) → ReadsAll slots at_first code at text → HasAll text stream
    → IsSoundDecoding stream.stage stream.held stream.taken → SaysStream code text
    → IsTextOrPart stream.stage n text b → IsBeginningOf code n b
whole-part code text at stream n (beginnings.Whole t) all has sound says few =
    rw (few.0)
    (few-of code text stream.stage stream.held n has.after.0 has.whole says few.1)
whole-part code text at stream n (beginnings.Part p) all has sound says part =
    part-fed code all.words at stream n (beginnings.Part p) all.read
    (record { after = rw all.text_is at has.after; sound = sound }) (inl (omega (arith, part.1)))
    (inr part.1) part.0

-- Bytes follow the whole text, of which n records weren't there before its last word.
pub trailing-early : (code text : List ℕ) (n : ℕ) (at : Progress)
    (all : ReadsAll slots at_first code at text) → IsStillShort n all.words
    → length at.bytes == 4 ≡ false
    → (on : GoesOn slots at_first code) × IsStillShort n on.all.words
trailing-early code text n at all short more =
    (record { text = text; at = at; all = all; left = λ e. grind arith }, short)
