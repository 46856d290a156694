-- One more word of a packed text.
use Rattle.std.proofs.Common.{◌≡◌, ◌≢◌, ℕ, ◌*◌, ◌<◌, ◌≤◌, inl, inr, List, [], ◌∷◌, ◌++◌}
use Rattle.std.proofs.Common.{Bool, length, take, Some, None, refl, sym, ◌∙◌, ap, arith}
use Rattle.std.proofs.Common.{length-append, true, false, Result, Ok, Err}
use Rattle.std.proofs.lemmas.List.{append-nil, take_all, length-take}
use Rattle.pm_forest.specs.Forest.{Hierarchy}
use Rattle.pm_coder.proofs.IntervalLaws.{at_least}
use Rattle.byteorder.specs.Endian.{little_bytes}
use Rattle.pm_coder.specs.declared.predictor.Predictor as predictor
use Rattle.pm_coder.specs.Intervals.{choice}
use Rattle.pm_coder.specs.Coding.{Progress}
use Rattle.pm_coder.specs.Coders.{Reading, May, Can, Makes}
use Rattle.pm_coder.specs.RoundTrips.{first}
use Rattle.pm_coder.proofs.CoderLaws.{makes-none}
use Rattle.pm_format.specs.declared.fault.FormatError.{FormatError}
use Rattle.pm_format.specs.declared.fault.FormatError.TheVariants as faults
use Rattle.pm_format.specs.Words.{spelled}
use Rattle.pm_format.specs.Faults.{stream_fault}
use Rattle.pm_format.specs.Stream.{stream, stream_words}
use Rattle.pm_format.specs.Standing.{Decoding, IsDecoderAfter, HasFaultAlready, IsText}
use Rattle.pm_format.specs.Standing.{takes_more}
use Rattle.pm_format.proofs.WholeLaws.{whole_text}
use Rattle.pm_format.proofs.WordLaws.{words_append, length-spelled}
use Rattle.pm_format.proofs.TextLaws.{spelled-append}
use Rattle.pm_pack.specs.Hints.{guess_of, firsts_of}
use Rattle.pm_pack.specs.Texts.{Known, word_choices, words_choices, known_after}
use Rattle.pm_pack.specs.Texts.{all_known}
use Rattle.pm_pack.specs.Packed.{IsStream}
use Rattle.pm_pack.specs.declared.reading.UnpackFail.{UnpackFail}
use Rattle.pm_pack.specs.declared.reading.UnpackFail.TheVariants as fails
use Rattle.pm_pack.specs.Unpacking.{HasRead, IsCut, ReadsOn, ReadsAll, CutsOff, SaysFault}
use Rattle.pm_pack.specs.Unpacking.{Feeds, Steps, HasAll, HasFed, CutsAt, IsOneMore}
use Rattle.pm_pack.specs.Unpacking.{IsFailOf}
use Rattle.pm_pack.proofs.FirstsLaws.{none-untold}
use Rattle.pm_pack.proofs.TextLaws.{makes-join, words-append, words-one, words-none}
use Rattle.pm_pack.proofs.TextLaws.{known-more}

-- Before the first word.
pub reads-none : {P : Type 0} (k : predictor.Ghosts P) (from : Known P) (code : List ℕ)
    → HasRead k from code [] (first code)
reads-none k from code = record {
  fit = tt;
  made = rw (words-none k from) (makes-none (Reading (first code)));
}

-- After one more word.
pub read-more : {P : Type 0} (k : predictor.Ghosts P) (from known : Known P)
    (code words : List ℕ) (at on : Progress) (w : ℕ) → HasRead k from code words at
    → known ≡ all_known k from words → w < 4294967296
    → Makes (Reading at) (word_choices k known w) (Reading on)
    → HasRead k from code (words ++ w ∷ []) on
read-more k from known code words at on w r is small made =
    let one : Makes (Reading at) (words_choices k (all_known k from words) (w ∷ [])) (Reading on) =
    rw (words-one k (all_known k from words) w) (rw is at made) in
    record {
      fit = words_append words (w ∷ []) r.fit (small, tt);
      made = rw (words-append k words (w ∷ []) from)
          (makes-join (Reading (first code)) (Reading at) (Reading on) (words_choices k from words)
          (words_choices k (all_known k from words) (w ∷ [])) r.made one);
    }

pub text-more : (text words : List ℕ) (w : ℕ) → text ≡ spelled words
    → text ++ little_bytes 4 w ≡ spelled (words ++ w ∷ [])
unfolding spelled
text-more text words w e =
    ap (λ (l : List ℕ). l ++ little_bytes 4 w) e
    ∙ (ap (λ (l : List ℕ). spelled words ++ l) (sym (append-nil (little_bytes 4 w)))
    ∙ sym (spelled-append words (w ∷ [])))

-- Fewer than four bytes say no word.
short-choice : (code : List ℕ) (bit : Bool) (share : ℕ) → length code < 4
    → ¬ May (Reading (first code)) (choice bit share)
short-choice code bit share short may = omega (arith, may.enough)

pub short-untold : {P : Type 0} (k : predictor.Ghosts P) (m : Known P) (code : List ℕ)
    → length code < 4 → (w : ℕ) → ¬ Can (Reading (first code)) (word_choices k m w)
unfolding word_choices
short-untold k m code short w =
    none-untold k m.learnt (Reading (first code)) (guess_of m.seen) (firsts_of m.seen)
    (λ q bit. short-choice code bit (k.share m.learnt q) short) w

-- What a word did to the reading.
pub cut-off : {P : Type 0} (k : predictor.Ghosts P) (from known : Known P) (code text : List ℕ)
    (at : Progress) (stream : Decoding) → ReadsOn k from code known at stream text
    → ((w : ℕ) → w < 4294967296 → ¬ Can (Reading at) (word_choices k known w))
    → CutsOff k from code
cut-off k from known code text at stream r none = record {
  words = r.words;
  at = at;
  read = r.read;
  cut = rw r.text_is at r.cut;
  none = rw r.known_is at none;
}

pub step-read : {P : Type 0} (k : predictor.Ghosts P) (from known : Known P)
    (code text : List ℕ) (at on : Progress) (stream : Decoding) (w : ℕ)
    → (r : ReadsOn k from code known at stream text) → w < 4294967296
    → Makes (Reading at) (word_choices k known w) (Reading on)
    → HasRead k from code (r.words ++ w ∷ []) on
step-read k from known code text at on stream w r small made =
    read-more k from known code r.words at on w r.read r.known_is small made

pub step-on : {P : Type 0} (k : predictor.Ghosts P) (from known new : Known P)
    (code text : List ℕ) (at on : Progress) (stream next : Decoding) (w : ℕ)
    → ReadsOn k from code known at stream text → w < 4294967296
    → Makes (Reading at) (word_choices k known w) (Reading on) → new ≡ known_after k known w
    → IsDecoderAfter (text ++ little_bytes 4 w) next → IsCut (text ++ little_bytes 4 w)
    → takes_more next.stage ≡ true → ReadsOn k from code new on next (text ++ little_bytes 4 w)
step-on k from known new code text at on stream next w r small made learnt after cut goes = record {
  words = r.words ++ w ∷ [];
  read = step-read k from known code text at on stream w r small made;
  known_is = known-more k from known new r.words w r.known_is learnt;
  text_is = text-more text r.words w r.text_is;
  after = after;
  on = goes;
  cut = cut;
}

pub step-all : {P : Type 0} (k : predictor.Ghosts P) (from known : Known P)
    (code text : List ℕ) (at on : Progress) (stream : Decoding) (w : ℕ)
    → ReadsOn k from code known at stream text → w < 4294967296
    → Makes (Reading at) (word_choices k known w) (Reading on)
    → IsStream (text ++ little_bytes 4 w) → ReadsAll k from code on (text ++ little_bytes 4 w)
step-all k from known code text at on stream w r small made whole = record {
  words = r.words ++ w ∷ [];
  read = step-read k from known code text at on stream w r small made;
  text_is = text-more text r.words w r.text_is;
  stream = whole;
}

pub step-fault : {P : Type 0} (k : predictor.Ghosts P) (from known : Known P)
    (code text : List ℕ) (at on : Progress) (stream : Decoding) (w : ℕ) (f : FormatError)
    → (r : ReadsOn k from code known at stream text) → w < 4294967296
    → Makes (Reading at) (word_choices k known w) (Reading on) → f ≢ faults.OutOfMemory
    → HasFaultAlready (text ++ little_bytes 4 w) f
    → (says : SaysFault k from code f) × IsOneMore r.words says.words
step-fault k from known code text at on stream w f r small made other has =
    elim has [
      | inl memory ↦ absurd (other memory)
      | inr faulty ↦ (
        record {
          words = r.words ++ w ∷ [];
          at = on;
          read = step-read k from known code text at on stream w r small made;
          faulty = rw (text-more text r.words w r.text_is) at faulty;
        },
        record { last = w; is = refl },
      )
    ]

stream-is_spelled : (digits : ℕ) (h : Hierarchy)
    → stream digits h ≡ spelled (stream_words digits h)
unfolding stream
stream-is_spelled digits h = refl

-- A whole text isn't cut off.
cut-none : (text : List ℕ) (digits : ℕ) (h : Hierarchy) → IsCut text → ¬ IsText text digits h
cut-none text digits h cut t =
    let none = whole_text digits h [] t.few t.shape in
    let fine : stream_fault text ≡ None = rw t.text (rw (append-nil (stream digits h)) at none) in
    let both : None ≡ Some (faults.Truncated (length text)) = sym fine ∙ cut in
    absurd cc

-- The bytes of the last word are all taken: before them the text was cut off.
pub last-used : (text words piece : List ℕ) (used w digits : ℕ) (h : Hierarchy)
    (next : Decoding) → text ≡ spelled words → IsCut text → piece ≡ little_bytes 4 w
    → used ≤ length piece → IsText (text ++ take used piece) digits h
    → HasAll (text ++ take used piece) next
    → IsStream (text ++ little_bytes 4 w) × HasAll (text ++ little_bytes 4 w) next
last-used text words piece used w digits h next e cut p le t has =
    let four : length (little_bytes 4 w) ≡ 4 = refl in
    let text_length : length text ≡ 4 * length words = rw e (length-spelled words) in
    let whole_length = ap length (t.text ∙ stream-is_spelled digits h) in
    elim (at_least 4 used) [
      | inl all ↦
          let same : take used piece ≡ little_bytes 4 w =
          rw p (take_all used (little_bytes 4 w) all) in
          (record { digits = digits; h = h; is = rw same at t }, rw same at has)
      | inr some ↦
          let none : used ≡ 0 =
          omega (
            arith,
            whole_length,
            text_length,
            length-spelled (stream_words digits h),
            length-append text (take used piece),
            length-take used piece,
          ) in
          let before : IsText text digits h = rw (none, append-nil text) at t in
          absurd (cut-none text digits h cut before)
    ]

-- What was fed so far, and where the bytes end then.
pub fed-so_far : {P : Type 0} (k : predictor.Ghosts P) (from known : Known P)
    (code text : List ℕ) (at : Progress) (stream : Decoding)
    → (r : ReadsOn k from code known at stream text) → HasFed k from code r.words at stream
fed-so_far k from known code text at stream r =
    record { read = r.read; after = rw r.text_is at r.after; on = r.on }

pub cuts-at : {P : Type 0} (k : predictor.Ghosts P) (from known : Known P) (code text : List ℕ)
    (at : Progress) (stream : Decoding) → ReadsOn k from code known at stream text
    → ((w : ℕ) → w < 4294967296 → ¬ Can (Reading at) (word_choices k known w))
    → CutsAt k from code stream
unfolding cut-off
cuts-at k from known code text at stream r none = (
  cut-off k from known code text at stream r none,
  fed-so_far k from known code text at stream r,
)

-- What a word that was fed did to the reading.
pub fed-steps : {P : Type 0} (k : predictor.Ghosts P) (from known new : Known P)
    (code text longer : List ℕ) (at on : Progress) (stream next : Decoding) (w : ℕ)
    (r : Result Bool UnpackFail) → (on_so_far : ReadsOn k from code known at stream text)
    → w < 4294967296 → Makes (Reading at) (word_choices k known w) (Reading on)
    → new ≡ known_after k known w → Feeds text (little_bytes 4 w) longer next r
    → Steps k from code on_so_far.words new on next longer r
unfolding step-all
fed-steps k from known new code text longer at on was next w (Ok true) rd small made learnt f =
    let after : IsDecoderAfter (text ++ little_bytes 4 w) next = rw f.0 at f.1 in
    let cut : IsCut (text ++ little_bytes 4 w) = rw f.0 at f.2 in
    rw f.0 (step-on k from known new code text at on was next w rd small made learnt after cut
    f.3)
fed-steps k from known new code text longer at on was next w (Ok false) rd small made learnt f =
    let whole : IsStream (text ++ little_bytes 4 w) × HasAll (text ++ little_bytes 4 w) next =
    last-used text rd.words (little_bytes 4 w) f.1.used w f.1.digits f.1.h next rd.text_is rd.cut
    refl f.1.few f.1.is f.1.all in
    rw f.0 (
      step-all k from known code text at on was w rd small made whole.0,
      whole.1,
      record { last = w; is = refl },
    )
fed-steps k from known new code text longer at on was next w (Err fails.NotPacked) rd small
    made learnt f = f
fed-steps k from known new code text longer at on was next w (Err fails.Cut) rd small
    made learnt f = absurd f
fed-steps k from known new code text longer at on was next w (Err fails.Trailing) rd small
    made learnt f = f
fed-steps k from known new code text longer at on was next w (Err (fails.Stream fault)) rd
    small made learnt f =
    step-fault k from known code text at on was w fault rd small made f.0 f.1
fed-steps k from known new code text longer at on was next w (Err fails.OutOfMemory) rd small
    made learnt f = tt

-- Why a word ended the reading.
pub steps-fail : {P : Type 0} (k : predictor.Ghosts P) (from new : Known P)
    (code before text : List ℕ) (at : Progress) (stream : Decoding) (e : UnpackFail)
    → Steps k from code before new at stream text (Err e) → IsFailOf k from code e
steps-fail k from new code before text at stream fails.NotPacked s = s
steps-fail k from new code before text at stream fails.Cut s = s.0
steps-fail k from new code before text at stream fails.Trailing s = absurd s
steps-fail k from new code before text at stream (fails.Stream fault) s = s.0
steps-fail k from new code before text at stream fails.OutOfMemory s = tt
