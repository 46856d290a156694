-- Where the reading of a packed text begins and ends.
use Rattle.std.proofs.Common.{◌≡◌, ◌≢◌, ℕ, ◌==◌, ◌<◌, List, [], ◌++◌, length, take, drop}
use Rattle.std.proofs.Common.{nat_eq, true, false, refl, sym, ◌∙◌, ap, arith}
use Rattle.std.proofs.lemmas.List.{take-append-drop}
use Rattle.std.specs.Cmp.Lexicographic.{pointwise, same_text, other_text}
use Rattle.pm_coder.specs.declared.predictor.Predictor as predictor
use Rattle.pm_coder.specs.Coding.{Progress}
use Rattle.pm_coder.specs.RoundTrips.{first}
use Rattle.pm_format.specs.Words.{spelled}
use Rattle.pm_format.specs.Faults.{stream_fault, magic_is_bad}
use Rattle.pm_format.specs.Reading.{forest_at, header_at, digits_at}
use Rattle.pm_format.specs.Standing.{Decoding, IsDecoderAfter, takes_more}
use Rattle.pm_pack.specs.Texts.{Known}
use Rattle.pm_pack.specs.Packed.{head, slots, at_first, IsPacked}
use Rattle.pm_pack.specs.Unpacking.{IsCut, ReadsOn, ReadsAll, CutsOff, GoesOn, SaysStream}
use Rattle.pm_pack.proofs.TextLaws.{known-none}
use Rattle.pm_pack.proofs.StepLaws.{reads-none, short-untold}
use Rattle.pm_pack.proofs.UnpackLaws.{all-said}

-- No bytes at all are cut off.
pub none-cut : IsCut []
unfolding stream_fault magic_is_bad forest_at header_at digits_at
none-cut = refl

pub none-spelled : [] ≡ spelled []
unfolding spelled
none-spelled = refl

-- Before the first word.
pub begins : {P : Type 0} (k : predictor.Ghosts P) (from known : Known P) (code text : List ℕ)
    (at : Progress) (stream : Decoding) → known ≡ from → first code ≡ at → text ≡ []
    → IsDecoderAfter [] stream → takes_more stream.stage ≡ true
    → ReadsOn k from code known at stream text
begins k from known code text at stream same start empty after goes = record {
  words = [];
  read = rw (sym start) (reads-none k from code);
  known_is = same ∙ sym (known-none k from);
  text_is = empty ∙ none-spelled;
  after = rw empty after;
  on = goes;
  cut = rw empty none-cut;
}

-- Fewer than four code bytes.
pub short-cut : {P : Type 0} (k : predictor.Ghosts P) (from : Known P) (code : List ℕ)
    → length code < 4 → CutsOff k from code
short-cut k from code short = record {
  words = [];
  at = first code;
  read = reads-none k from code;
  cut = rw (sym none-spelled) none-cut;
  none = λ w small. short-untold k _ code short w;
}

-- All words were read, and all code bytes were taken.
pub ends : (code text : List ℕ) (at : Progress) → ReadsAll slots at_first code at text
    → length at.bytes == 4 ≡ true → SaysStream code text
ends code text at all four =
    record { stream = all.stream; says = all-said slots at_first code text at all (grind arith) }

pub ends-not : (code text : List ℕ) (at : Progress) → ReadsAll slots at_first code at text
    → length at.bytes == 4 ≡ false → GoesOn slots at_first code
ends-not code text at all more =
    record { text = text; at = at; all = all; left = λ e. grind arith }

-- The head.
pub head-begins : (packed rest : List ℕ) → pointwise nat_eq (take 5 packed) head ≡ true
    → rest ≡ drop 5 packed → packed ≡ head ++ rest
head-begins packed rest same is =
    sym (take-append-drop 5 packed)
    ∙ (ap (λ (l : List ℕ). l ++ drop 5 packed) (same_text (take 5 packed) head (sym same))
    ∙ ap (λ (l : List ℕ). head ++ l) (sym is))

pub head-lacks : (packed : List ℕ) → pointwise nat_eq (take 5 packed) head ≡ false
    → (code : List ℕ) → packed ≢ head ++ code
head-lacks packed other code e =
    other_text (take 5 packed) head (sym other) (ap (λ (l : List ℕ). take 5 l) e)

-- What code bytes say, the packed text with its head is of.
pub says-packed : (packed code text : List ℕ) → packed ≡ head ++ code → SaysStream code text
    → IsPacked packed text
says-packed packed code text is said =
    record { code = code; head = is; stream = said.stream; says = said.says }
