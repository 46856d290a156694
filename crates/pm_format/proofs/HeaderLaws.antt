-- The header of a text, whose bytes come in pieces.
use Rattle.std.proofs.Common.{◌≡◌, ◌⊎◌, ℕ, ◌+◌, ◌*◌, ◌^◌, ◌≤◌, true, false, List, [], ◌∷◌, ◌++◌, Ok}
use Rattle.std.proofs.lemmas.Grind.{common_steps}
use Rattle.std.proofs.Common.{Err, length, take, drop, inl, inr, refl, sym, ◌∙◌, ap, subst, arith}
use Rattle.std.proofs.Common.{length-append, append_assoc}
use Rattle.std.proofs.Math.Seq.{take-add}
use Rattle.std.proofs.lemmas.List.{length-take-le, nil_from_length}
use Rattle.pm_forest.specs.declared.parts.Counts.{Counts}
use Rattle.pm_forest.specs.declared.parts.Shape.{Shape}
use Rattle.pm_forest.specs.declared.parts.Shape.TheVariants as shapes
use Rattle.pm_forest.specs.Rules.{counts_are_bad}
use Rattle.pm_forest.specs.Shaping.{Shaping, nothing_in}
use Rattle.pm_forest.proofs.UnitLaws.{counts_fit}
use Rattle.pm_format.specs.declared.stop.Stop.{Stop}
use Rattle.pm_format.specs.declared.stop.Stop.TheVariants as stops
use Rattle.pm_format.specs.declared.stage.Stage.{Stage}
use Rattle.pm_format.specs.declared.stage.Stage.TheVariants as stages
use Rattle.pm_format.specs.Words.{words_of, IsBytes}
use Rattle.pm_format.specs.Reading.{digits_at, digits_in, header_at, forest_at}
use Rattle.pm_format.specs.Faults.{magic_is_bad, named}
use Rattle.pm_format.specs.Decoding.{bytes_to_come}
use Rattle.pm_format.specs.Standing.{GoesOn, BeginsHeader, HasFaultAlready, StandsAfter}
use Rattle.pm_format.specs.Standing.{IsSoundDecoding, header_bytes, JudgesHeader, takes_more}
use Rattle.pm_format.specs.Standing.{stage_of}
use Rattle.pm_format.proofs.WordLaws.{length-words_of}
use Rattle.pm_format.proofs.WholeLaws.{forest_is}
use Rattle.pm_format.proofs.GrowLaws.{Extends, header_on}
use Rattle.pm_format.proofs.StayLaws.{same_magic, header_digits}
use Rattle.pm_format.proofs.OnLaws.{from_start}
use Rattle.pm_format.proofs.UnitLaws.{words_apart}
use Rattle.pm_format.proofs.StandLaws.{header_stops, stop_refused}
use Rattle.pm_format.proofs.HeaderSizes.{size_is, within, header_size, header_long, not_begun}

-- Refusals

pub header_refused : (bytes ws : List ℕ) (e : Stop) → ws ≡ words_of bytes
    → magic_is_bad bytes ≡ false → header_at ws ≡ Err e → (e ≡ stops.End → ⊥)
    → HasFaultAlready bytes (named 0 e)
header_refused bytes ws e same good is other =
    stop_refused bytes 0 e good (ap forest_at (sym same) ∙ header_stops ws e is) other

-- Counts that are bad are refused, and memory may be wanting.
pub counts_refused : (bytes ws rest : List ℕ) (c : Counts) (e : Shape) → ws ≡ words_of bytes
    → magic_is_bad bytes ≡ false → header_at ws ≡ Ok (c, rest)
    → ((e ≡ shapes.OutOfMemory) × (counts_are_bad c ≡ false))
    ⊎ ((e ≡ shapes.BadCount) × (counts_are_bad c ≡ true))
    → HasFaultAlready bytes (named 0 (stops.Fault e))
unfolding forest_at
counts_refused bytes ws rest c e same good is (inl memory) =
    inl (ap (λ f. named 0 (stops.Fault f)) memory.0)
counts_refused bytes ws rest c e same good is (inr bad) =
    grind (arith, common_steps, stop_refused bytes 0 (stops.Fault shapes.BadCount) good)

-- What it makes of a decoder

pub header_begins : (bytes ws : List ℕ) → ws ≡ words_of bytes → magic_is_bad bytes ≡ false
    → header_at ws ≡ Err stops.End → BeginsHeader bytes bytes
header_begins bytes ws same good is = grind (arith, common_steps)

-- The magic stands where there is a word.
magic_on : (bytes : List ℕ) → 4 ≤ length bytes → magic_is_bad bytes ≡ false → (more : List ℕ)
    → magic_is_bad (bytes ++ more) ≡ false
magic_on (a ∷ b ∷ c ∷ d ∷ bytes) le good more = same_magic (a ∷ b ∷ c ∷ d ∷ bytes) more _ _ refl
    ∙ good
magic_on [] le good more = absurd (omega (arith, le))
magic_on (a ∷ []) le good more = absurd (omega (arith, le))
magic_on (a ∷ b ∷ []) le good more = absurd (omega (arith, le))
magic_on (a ∷ b ∷ c ∷ []) le good more = absurd (omega (arith, le))

pub header_whole : (bytes ws rest : List ℕ) (digits : ℕ) (c : Counts) → IsBytes bytes
    → length bytes ≤ header_bytes bytes → ws ≡ words_of bytes → magic_is_bad bytes ≡ false
    → header_at ws ≡ Ok (c, rest)
    → digits_in (digits_at ws) ≡ digits → digits ≤ 4 → counts_are_bad c ≡ false
    → GoesOn bytes digits (nothing_in c) []
header_whole bytes ws rest digits c fit short same good is told few counts =
    let size = header_size (words_of bytes) (c, rest) (ap header_at (sym same) ∙ is) in
    let len : length bytes ≡ 4 * length (words_of bytes) =
    omega (arith, size, size_is bytes, length-words_of bytes, short) in
    let left : rest ≡ [] = nil_from_length rest (omega (arith, size, size_is bytes, len, short)) in
    let here : header_at (words_of bytes) ≡ Ok (c, []) =
    ap header_at (sym same) ∙ is ∙ ap (λ (l : List ℕ). Ok (c, l)) left in
    let apart = λ (more : List ℕ). words_apart bytes more (length (words_of bytes)) len in
    let on = λ (more : List ℕ).
    ap header_at (apart more)
    ∙ subst (λ r. Extends (words_of more) r (header_at (words_of bytes ++ words_of more))) here
    (header_on (words_of bytes) (words_of more)) in
    record {
      fit = fit;
      few = few;
      told = λ more. ap (λ (l : List ℕ). digits_in (digits_at l)) (apart more)
          ∙ sym (header_digits (words_of bytes) (words_of more) (c, []) here)
          ∙ ap (λ (l : List ℕ). digits_in (digits_at l)) (sym same) ∙ told;
      good = magic_on bytes (omega (arith, header_long bytes ws rest c same is, (within bytes).0))
          good;
      reads = λ more. forest_is (words_of (bytes ++ more)) c (words_of more) (on more) counts
          ∙ sym (from_start c (words_of more));
      fours = record { fours = length (words_of bytes); is = omega (arith, len) };
      waits = tt;
    }

pub room_at_first : (c : Counts) → counts_are_bad c ≡ false
    → 28 + bytes_to_come (nothing_in c) ≤ 2 ^ 28
room_at_first c good = let f = counts_fit c good in omega (arith, f)

pub stopped_header : (bytes ws : List ℕ) (stop : Stop) → ws ≡ words_of bytes
    → magic_is_bad bytes ≡ false → header_at ws ≡ Err stop → JudgesHeader bytes (stage_of stop)
stopped_header bytes ws stops.End same good is = header_begins bytes ws same good is
stopped_header bytes ws (stops.Version v) same good is =
    header_refused bytes ws (stops.Version v) same good is (λ e. absurd cc)
stopped_header bytes ws (stops.Digits d) same good is =
    header_refused bytes ws (stops.Digits d) same good is (λ e. absurd cc)
stopped_header bytes ws (stops.Fault f) same good is =
    header_refused bytes ws (stops.Fault f) same good is (λ e. absurd cc)

pub units_header : (bytes ws rest : List ℕ) (digits : ℕ) (c : Counts) (s : Shaping) → IsBytes bytes
    → length bytes ≤ header_bytes bytes → ws ≡ words_of bytes → magic_is_bad bytes ≡ false
    → header_at ws ≡ Ok (c, rest)
    → digits_in (digits_at ws) ≡ digits → digits ≤ 4 → (counts_are_bad c ≡ false)
    × (s ≡ nothing_in c) → JudgesHeader bytes (stages.Units s digits)
units_header bytes ws rest digits c s fit short same good is told few begun =
    let w = header_whole bytes ws rest digits c fit short same good is told few begun.0 in
    subst (λ t. JudgesHeader bytes (stages.Units t digits)) (sym begun.1)
    (w, tt, omega (arith, short, (within bytes).1), room_at_first c begun.0)

-- The header is whole, and units follow.
pub header_goes_on : (bytes held piece kept rest none left : List ℕ) (n m digits : ℕ) (s : Shaping)
    (stage : Stage) → BeginsHeader bytes held → kept ≡ held ++ take n piece → none ≡ []
    → rest ≡ drop n piece
    → JudgesHeader kept (stages.Units s digits)
    → ((taken : List ℕ) → GoesOn taken digits s none
    → StandsAfter (taken ++ take m rest) stage left)
    → StandsAfter (bytes ++ take (n + m) piece) stage left
header_goes_on bytes held piece kept rest none left n m digits s stage b is empty after judged
    stands =
    grind (arith, common_steps, append_assoc, take-add)

pub header_sound : (held piece kept none left : List ℕ) (n m digits : ℕ) (s : Shaping)
    (stage : Stage) → kept ≡ held ++ take n piece → n ≤ length piece → none ≡ []
    → JudgesHeader kept (stages.Units s digits)
    → ((taken : ℕ) → taken + bytes_to_come s ≤ 2 ^ 28 + length none
    → IsSoundDecoding stage left (taken + m))
    → IsSoundDecoding stage left (length held + (n + m))
header_sound held piece kept none left n m digits s stage is within empty judged sound =
    let len : length kept ≡ length held + n =
    ap (λ (l : List ℕ). length l) is
    ∙ omega (arith, length-append held (take n piece), length-take-le n piece within) in
    subst (λ (k : ℕ). IsSoundDecoding stage left k) (omega (arith, len))
    (sound (length kept)
    (omega (arith, judged.2, judged.3, ap (λ (l : List ℕ). length l) empty)))

-- The header isn't whole, or is refused.
pub header_stays : (bytes held piece kept : List ℕ) (n : ℕ) (stage : Stage)
    → BeginsHeader bytes held → kept ≡ held ++ take n piece
    → ((s : Shaping) (d : ℕ) → stage ≡ stages.Units s d → ⊥) → JudgesHeader kept stage
    → StandsAfter (bytes ++ take n piece) stage kept
header_stays bytes held piece kept n stage b is other judged =
    let all : kept ≡ bytes ++ take n piece =
    is ∙ ap (λ (l : List ℕ). l ++ take n piece) (sym b.same) in
    go stage other judged all
  where
    go : (stage : Stage) → ((s : Shaping) (d : ℕ) → stage ≡ stages.Units s d → ⊥)
        → JudgesHeader kept stage → kept ≡ bytes ++ take n piece
        → StandsAfter (bytes ++ take n piece) stage kept
    go stages.Header other j all = record {
      same = sym all;
      good = ap magic_is_bad (sym all) ∙ j.good;
      ends =
          ap (λ (l : List ℕ). header_at (words_of l)) (sym all) ∙ j.ends;
    }
    go (stages.Units s d) other j all = absurd (other s d refl)
    go (stages.Whole h d) other j all = absurd j
    go (stages.Refused e) other j all = subst (λ (l : List ℕ). HasFaultAlready l e) all j

pub header_all : (kept : List ℕ) (piece n : ℕ) (stage : Stage)
    → (n ≡ piece) ⊎ (length kept ≡ header_bytes kept)
    → ((s : Shaping) (d : ℕ) → stage ≡ stages.Units s d → ⊥) → JudgesHeader kept stage
    → takes_more stage ≡ true → n ≡ piece
header_all kept piece n stage (inl all) other j is = all
header_all kept piece n stages.Header (inr len) other j is = absurd (not_begun kept len j.ends)
header_all kept piece n (stages.Units s d) (inr len) other j is = absurd (other s d refl)
header_all kept piece n (stages.Whole h d) (inr len) other j is = absurd j
header_all kept piece n (stages.Refused e) (inr len) other j is = absurd cc

pub header_short : (held piece kept : List ℕ) (n : ℕ) (stage : Stage) → kept ≡ held ++ take n piece
    → n ≤ length piece → length kept ≤ header_bytes kept
    → ((s : Shaping) (d : ℕ) → stage ≡ stages.Units s d → ⊥) → JudgesHeader kept stage
    → IsSoundDecoding stage kept (length held + n)
header_short held piece kept n stages.Header is within_piece short other j =
    grind (arith, common_steps, length-append, length-take-le, not_begun, within)
header_short held piece kept n (stages.Units s d) is within short other j = absurd (other s d refl)
header_short held piece kept n (stages.Whole h d) is within short other j = absurd j
header_short held piece kept n (stages.Refused e) is within short other j = tt
