-- What a decoder answers.
use Rattle.std.proofs.Common.{◌≡◌, ◌⊎◌, ℕ, zero, suc, ◌+◌, ◌*◌, ◌<◌, ◌≤◌, true}
use Rattle.std.proofs.lemmas.Grind.{common_steps}
use Rattle.std.proofs.Common.{List, [], ◌∷◌, ◌++◌, Some, IfOk, IfErr, Result}
use Rattle.std.proofs.Common.{Ok, Err, length, take, drop, inl, inr, refl, sym, ◌∙◌, ap, subst}
use Rattle.std.proofs.Common.{arith, append_assoc}
use Rattle.std.proofs.lemmas.List.{append-nil, take_all}
use Rattle.std.proofs.lemmas.List.{length-take-le, take-append-drop}
use Rattle.pm_forest.specs.declared.parts.UnitKind.{UnitKind}
use Rattle.pm_forest.specs.declared.parts.UnitKind.TheVariants as kinds
use Rattle.pm_forest.specs.Forest.{Hierarchy}
use Rattle.pm_forest.specs.Shaping.{Shaping, expects}
use Rattle.pm_format.specs.declared.fault.FormatError.{FormatError}
use Rattle.pm_format.specs.declared.fault.FormatError.TheVariants as faults
use Rattle.pm_format.specs.declared.stop.Stop.{Stop}
use Rattle.pm_format.specs.declared.taken.Taken.{Taken}
use Rattle.pm_format.specs.declared.stage.Stage.{Stage}
use Rattle.pm_format.specs.declared.stage.Stage.TheVariants as stages
use Rattle.pm_format.specs.Words.{IsBytes}
use Rattle.pm_format.specs.Reading.{digits_at, header_at}
use Rattle.pm_format.specs.Faults.{magic_is_bad, named, stream_fault}
use Rattle.pm_format.specs.Decoding.{unit_words, IsWaiting, ReadsOn}
use Rattle.pm_format.specs.Decoding.{ReadingStopsAt, Fours}
use Rattle.pm_format.specs.Standing.{GoesOn, BeginsHeader, IsText, HasFaultAlready, StandsAfter}
use Rattle.pm_format.specs.Standing.{IsSoundDecoding, Settles, takes_more, digits_of, DecoderTells}
use Rattle.pm_format.specs.Standing.{bytes_of, Finishes, Decoding, IsDecoderAfter, Says}
use Rattle.pm_format.proofs.StandLaws.{goes_on, unit_refused, last_refused, last_whole, header_cut}
use Rattle.pm_format.proofs.StandLaws.{unit_cut}

pub bytes_take : (n : ℕ) (l : List ℕ) → IsBytes l → IsBytes (take n l)
bytes_take zero l fit zero = omega arith
bytes_take zero l fit (suc i) = omega arith
bytes_take (suc n) [] fit i = fit i
bytes_take (suc n) (x ∷ l) fit zero = fit 0
bytes_take (suc n) (x ∷ l) fit (suc i) = bytes_take n l (λ j. fit (suc j)) i

-- Units were taken, and the shaper settles.
pub settled_stands : (bytes held piece kept : List ℕ) (n digits : ℕ) (s t : Shaping) (stage : Stage)
    → GoesOn bytes digits s held → IsBytes piece → n ≤ length piece
    → ReadsOn s held (take n piece) t kept → IsWaiting t
    → Fours (length held + n) (length kept) → (length kept < 4 * unit_words (expects t))
    ⊎ (kept ≡ []) → Settles digits t stage → StandsAfter (bytes ++ take n piece) stage kept
settled_stands bytes held piece kept n digits s t stage stands fit within on waits fours short
    settles =
    let len : length (take n piece) ≡ n = length-take-le n piece within in
    let g = goes_on bytes held (take n piece) kept digits s t stands (bytes_take n piece fit) on
    waits (subst (λ (k : ℕ). Fours (length held + k) (length kept)) (sym len) fours) in
    go stage g settles
  where
    none : (k : UnitKind) → k ≡ kinds.Nothing → (length kept < 4 * unit_words k) ⊎ (kept ≡ [])
        → kept ≡ []
    none k is (inl l) = absurd (omega (arith, l, ap unit_words is))
    none k is (inr e) = e

    go : (stage : Stage) → GoesOn (bytes ++ take n piece) digits t kept → Settles digits t stage
        → StandsAfter (bytes ++ take n piece) stage kept
    go stages.Header g so = absurd so
    go (stages.Units u d) g so = subst (λ v. GoesOn (bytes ++ take n piece) d v kept) (sym so.0)
        (subst (λ (e : ℕ). GoesOn (bytes ++ take n piece) e t kept) (sym so.1) g)
    go (stages.Whole h d) g so = subst (λ q. IsText (bytes ++ take n piece) d q) (sym so.2)
        (subst (λ (e : ℕ). IsText (bytes ++ take n piece) e t.h) (sym so.3)
        (last_whole (bytes ++ take n piece) kept digits t g (none (expects t) so.0 short) so.0
        so.1))
    go (stages.Refused e) g so = subst (λ q. HasFaultAlready (bytes ++ take n piece) q) (sym so.3)
        (last_refused (bytes ++ take n piece) kept digits t so.0 g (none (expects t) so.1 short)
        so.1 so.2)

pub refused_stands : (bytes held piece : List ℕ) (digits : ℕ) (s : Shaping) (e : Stop)
    (f : FormatError) → f ≡ named 0 e → GoesOn bytes digits s held
    → ((more : List ℕ) → ReadingStopsAt s (held ++ (piece ++ more)) e)
    → HasFaultAlready (bytes ++ take (length piece) piece) f
refused_stands bytes held piece digits s e f is stands stops =
    subst (λ q. HasFaultAlready (bytes ++ take (length piece) piece) q) (sym is)
    (subst (λ (l : List ℕ). HasFaultAlready (bytes ++ l) (named 0 e))
    (sym (take_all (length piece) piece (omega arith)))
    (unit_refused bytes held piece 0 digits s e stands stops))

-- Bytes of a decoder that takes no more

pub refused_more : (bytes piece : List ℕ) (e : FormatError) → HasFaultAlready bytes e
    → HasFaultAlready (bytes ++ piece) e
refused_more bytes piece e (inl memory) = inl memory
refused_more bytes piece e (inr is) =
    inr (λ more. ap stream_fault (append_assoc bytes piece more) ∙ is (piece ++ more))

-- An open decoder has bytes of a text that is cut off.
pub open_cut : (bytes held : List ℕ) (stage : Stage) (taken : ℕ) → StandsAfter bytes stage held
    → IsSoundDecoding stage held taken → takes_more stage ≡ true
    → stream_fault bytes ≡ Some (faults.Truncated (length bytes))
open_cut bytes held stages.Header taken stands sound is = header_cut bytes held stands
open_cut bytes held (stages.Units s d) taken stands sound is =
    unit_cut bytes held d s stands sound.0 sound.2
open_cut bytes held (stages.Whole h d) taken stands sound is = absurd cc
open_cut bytes held (stages.Refused e) taken stands sound is = absurd cc

pub feed_refused : (bytes piece held : List ℕ) (n taken : ℕ) (stage : Stage)
    (r : Result Taken FormatError) → ((t : Taken) → r ≡ Ok t → ⊥) → DecoderTells stage r
    → StandsAfter (bytes ++ take n piece) stage held
    → StandsAfter (bytes ++ bytes_of r piece) stage held
    × (takes_more stage ≡ true → taken ≡ length (bytes ++ bytes_of r piece))
feed_refused bytes piece held n taken stage (Ok t) other tells stands = absurd (other t refl)
feed_refused bytes piece held n taken stages.Header (Err e) other tells stands = absurd tells
feed_refused bytes piece held n taken (stages.Units s d) (Err e) other tells stands = absurd tells
feed_refused bytes piece held n taken (stages.Whole h d) (Err e) other tells stands = absurd tells
feed_refused bytes piece held n taken (stages.Refused f) (Err e) other tells stands = (
  subst (λ (l : List ℕ). HasFaultAlready l f) (append_assoc bytes (take n piece) (drop n piece)
      ∙ ap (λ (l : List ℕ). bytes ++ l) (take-append-drop n piece))
      (refused_more (bytes ++ take n piece) (drop n piece) f stands),
  λ is. absurd cc,
)

pub refused_now : (bytes : List ℕ) (e : FormatError) → HasFaultAlready bytes e
    → (e ≡ faults.OutOfMemory) ⊎ (stream_fault bytes ≡ Some e)
refused_now bytes e (inl memory) = inl memory
refused_now bytes e (inr is) = inr (ap stream_fault (sym (append-nil bytes)) ∙ is [])

pub begins_empty : (held : List ℕ) → held ≡ [] → BeginsHeader [] held
unfolding magic_is_bad digits_at header_at
begins_empty held is = record { same = sym is; good = refl; ends = refl }

pub finish_ok : (stage : Stage) (held : List ℕ) (taken : ℕ) (d : Decoding)
    (r : Result Hierarchy FormatError) → record { stage = stage; held = held; taken = taken } ≡ d
    → Finishes stage taken r
    → IfOk r (λ h. (bytes : List ℕ) → IsDecoderAfter bytes d → IsText bytes (digits_of d.stage) h)
finish_ok stage held taken d r is finishes =
    subst (λ (e : Decoding). IfOk r (λ h. (bytes : List ℕ) → IsDecoderAfter bytes e
    → IsText bytes (digits_of e.stage) h)) is (go stage r finishes)
  where
    go : (stage : Stage) (r : Result Hierarchy FormatError) → Finishes stage taken r
        → IfOk r (λ h. (bytes : List ℕ) → StandsAfter bytes stage held
        × (takes_more stage ≡ true → taken ≡ length bytes) → IsText bytes (digits_of stage) h)
    go stage (Err e) f = tt
    go stages.Header (Ok h) f = absurd f
    go (stages.Units s d) (Ok h) f = absurd f
    go (stages.Whole g d) (Ok h) f = λ bytes after. subst (λ q. IsText bytes d q) (sym f) after.0
    go (stages.Refused e) (Ok h) f = absurd f

pub finish_err : (stage : Stage) (held : List ℕ) (taken : ℕ) (d : Decoding)
    (r : Result Hierarchy FormatError) → record { stage = stage; held = held; taken = taken } ≡ d
    → IsSoundDecoding stage held taken → Finishes stage taken r
    → IfErr r (λ e. (bytes : List ℕ) → IsDecoderAfter bytes d → (e ≡ faults.OutOfMemory)
    ⊎ (stream_fault bytes ≡ Some e))
finish_err stage held taken d r is sound finishes =
    subst (λ (q : Decoding). IfErr r (λ e. (bytes : List ℕ) → IsDecoderAfter bytes q
    → (e ≡ faults.OutOfMemory) ⊎ (stream_fault bytes ≡ Some e))) is (go stage r sound finishes)
  where
    cut : (stage : Stage) (e : FormatError) → IsSoundDecoding stage held taken
        → takes_more stage ≡ true → e ≡ faults.Truncated taken
        → (bytes : List ℕ) → StandsAfter bytes stage held
        × (takes_more stage ≡ true → taken ≡ length bytes) → (e ≡ faults.OutOfMemory)
        ⊎ (stream_fault bytes ≡ Some e)
    cut stage e sound opens f bytes after =
        inr (open_cut bytes held stage taken after.0 sound opens
        ∙ ap (λ (n : ℕ). Some (faults.Truncated n)) (sym (after.1 opens))
        ∙ ap (λ v. Some v) (sym f))

    go : (stage : Stage) (r : Result Hierarchy FormatError) → IsSoundDecoding stage held taken
        → Finishes stage taken r
        → IfErr r (λ e. (bytes : List ℕ) → StandsAfter bytes stage held
        × (takes_more stage ≡ true → taken ≡ length bytes) → (e ≡ faults.OutOfMemory)
        ⊎ (stream_fault bytes ≡ Some e))
    go stage (Ok h) sound f = tt
    go stages.Header (Err e) sound f = cut stages.Header e sound refl f
    go (stages.Units s d) (Err e) sound f = cut (stages.Units s d) e sound refl f
    go (stages.Whole g d) (Err e) sound f = absurd f
    go (stages.Refused g) (Err e) sound f =
        λ bytes after. subst (λ q. (q ≡ faults.OutOfMemory) ⊎ (stream_fault bytes ≡ Some q)) (sym f)
        (refused_now bytes g after.0)

pub says_so : (bytes piece held : List ℕ) (stage : Stage) (taken : ℕ) (r : Result Taken FormatError)
    → StandsAfter (bytes ++ bytes_of r piece) stage held → IsSoundDecoding stage held taken
    → DecoderTells stage r → Says bytes piece r
says_so bytes piece held stages.Header taken (Ok t) stands sound tells = (
  λ cut. open_cut (bytes ++ take t.used piece) held stages.Header taken stands sound refl,
  λ whole. absurd (cc (whole, tells)),
)
says_so bytes piece held (stages.Units s d) taken (Ok t) stands sound tells = (
  λ cut. open_cut (bytes ++ take t.used piece) held (stages.Units s d) taken stands sound refl,
  λ whole. absurd (cc (whole, tells)),
)
says_so bytes piece held (stages.Whole h d) taken (Ok t) stands sound tells =
    (λ cut. absurd (cc (cut, tells)), λ whole. (d, h, stands))
says_so bytes piece held (stages.Refused e) taken (Ok t) stands sound tells = absurd tells
says_so bytes piece held stages.Header taken (Err e) stands sound tells = absurd tells
says_so bytes piece held (stages.Units s d) taken (Err e) stands sound tells = absurd tells
says_so bytes piece held (stages.Whole h d) taken (Err e) stands sound tells = absurd tells
says_so bytes piece held (stages.Refused f) taken (Err e) stands sound tells =
    subst (λ q. HasFaultAlready (bytes ++ piece) q) (sym tells) stands

pub says_fed : (bytes piece held : List ℕ) (n taken : ℕ) (stage : Stage)
    (r : Result Taken FormatError) → StandsAfter (bytes ++ take n piece) stage held
    → IsSoundDecoding stage held taken → DecoderTells stage r → IfOk r (λ t. t.used ≡ n)
    → Says bytes piece r
says_fed bytes piece held n taken stage (Ok t) stands sound tells used =
    grind (arith, common_steps, says_so bytes piece held stage taken (Ok t))
says_fed bytes piece held n taken stage (Err e) stands sound tells used =
    says_so bytes piece held stage taken (Err e)
    (feed_refused bytes piece held n taken stage (Err e) (λ t is. absurd cc) tells stands).0
    sound tells
