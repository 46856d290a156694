-- Which bytes are packed, and what packed texts are.
use Rattle.std.proofs.Common.{◌≡◌, ◌≢◌, ℕ, ◌<◌, ◌≤◌, inl, inr, List, [], ◌++◌}
use Rattle.std.proofs.Common.{length, take, drop, Some, None, refl, sym, ◌∙◌, ap, arith}
use Rattle.std.proofs.Common.{false, Result, Ok, Err, IfErr, OnOk}
use Rattle.std.proofs.lemmas.List.{append-nil, take_all, take-append-drop, length-drop}
use Rattle.pm_forest.specs.Forest.{Hierarchy}
use Rattle.pm_format.specs.declared.fault.FormatError.{FormatError}
use Rattle.pm_format.specs.declared.fault.FormatError.TheVariants as faults
use Rattle.pm_format.specs.Faults.{stream_fault}
use Rattle.pm_format.specs.declared.taken.Taken.{Taken}
use Rattle.pm_format.specs.Standing as standing
use Rattle.pm_format.specs.Standing.{IsText, HasFaultAlready}
use Rattle.pm_format.proofs.WholeLaws.{no_longer}
use Rattle.pm_pack.specs.declared.writing.PackFail.{PackFail}
use Rattle.pm_pack.specs.declared.writing.PackFail.TheVariants as fails
use Rattle.pm_pack.specs.declared.reading.UnpackFail.{UnpackFail}
use Rattle.pm_pack.specs.declared.reading.UnpackFail.TheVariants as unpack
use Rattle.pm_pack.specs.Packing.{IsFollowed, IsPackFail, Judged, IsSaid, refused}
use Rattle.pm_pack.specs.Packed.{head, slots, at_first, IsStream, IsPacked, PackedTextsAreOfOne}
use Rattle.pm_pack.specs.Unpacking.{IsFail}
use Rattle.pm_pack.proofs.UnpackLaws.{stream-fine, said-one, fail-unsaid}

-- A fault that the bytes have already.
already : (text : List ℕ) (e : FormatError) → HasFaultAlready text e → e ≢ faults.OutOfMemory
    → stream_fault text ≡ Some e
already text e has other =
    elim has [
      | inl memory ↦ absurd (other memory)
      | inr faulty ↦ rw (append-nil text) at (faulty [])
    ]

pub refused-fails : (text : List ℕ) (e : FormatError) → HasFaultAlready text e
    → IsPackFail text (refused e)
refused-fails text faults.BadMagic has = already text _ has (λ e. cc)
refused-fails text (faults.BadVersion v) has = already text _ has (λ e. cc)
refused-fails text (faults.BadDigits d) has = already text _ has (λ e. cc)
refused-fails text (faults.Truncated n) has = already text _ has (λ e. cc)
refused-fails text faults.BadCount has = already text _ has (λ e. cc)
refused-fails text (faults.BadRoot i) has = already text _ has (λ e. cc)
refused-fails text (faults.BadFace i) has = already text _ has (λ e. cc)
refused-fails text (faults.BadRecord k) has = already text _ has (λ e. cc)
refused-fails text (faults.BadInput i) has = already text _ has (λ e. cc)
refused-fails text faults.OutOfMemory has = tt

-- A text that is whole after some bytes.
pub whole-stream : (text : List ℕ) (used digits : ℕ) (h : Hierarchy) → length text ≤ used
    → IsText (take used text) digits h → IsStream text
whole-stream text used digits h all t =
    record { digits = digits; h = h; is = rw (take_all used text all) at t }

pub whole-followed : (text : List ℕ) (used digits : ℕ) (h : Hierarchy) → used < length text
    → IsText (take used text) digits h → IsFollowed text
whole-followed text used digits h some t = record {
  text = take used text;
  rest = drop used text;
  stream = record { digits = digits; h = h; is = t };
  all = sym (take-append-drop used text);
  some = omega (arith, length-drop used text);
}

-- Bytes that were refused are no stream text.
pub fail-no_stream : (bytes : List ℕ) (e : PackFail) → IsPackFail bytes e
    → e ≢ fails.OutOfMemory → ¬ IsStream bytes
fail-no_stream bytes (fails.Stream fault) f other s =
    let fine : stream_fault bytes ≡ None = rw (append-nil bytes) at (stream-fine bytes [] s) in
    let both : None ≡ Some fault = sym fine ∙ f in
    absurd cc
fail-no_stream bytes fails.Trailing f other s =
    let part = f.stream in
    let none : f.rest ≡ [] =
    no_longer part.digits s.digits part.h s.h f.rest part.is.few s.is.few part.is.shape s.is.shape
    (ap (λ (l : List ℕ). l ++ f.rest) (sym part.is.text) ∙ (sym f.all ∙ s.is.text)) in
    let length_none : length f.rest ≡ 0 = ap length none in
    absurd (omega (arith, length_none, f.some))
fail-no_stream bytes fails.OutOfMemory f other s = other refl

-- What follows the head.
head-one : (packed c d : List ℕ) → packed ≡ head ++ c → packed ≡ head ++ d → c ≡ d
head-one packed c d ec ed = ap (drop 5) (sym ec ∙ ed)

pub packed-of_one : PackedTextsAreOfOne
packed-of_one packed s t ps pt =
    let code = head-one packed ps.code pt.code ps.head pt.head in
    said-one slots at_first ps.code s t ps.stream pt.stream ps.says (rw code pt.says)

-- A packed text that was refused is that of no text.
pub fail-no_packed : (packed text : List ℕ) (e : UnpackFail) → IsFail packed e
    → e ≢ unpack.OutOfMemory → ¬ IsPacked packed text
fail-no_packed packed text e f other p =
    elim f [
      | inl begins ↦ begins.1 p.code p.head
      | inr (code, is, why) ↦
          fail-unsaid slots at_first code text e other why p.stream
          (rw (head-one packed code p.code is p.head) p.says)
    ]

-- What was judged of bytes of which a decoder took a part.
pub judged-ok : (text : List ℕ) (t : Taken) (r : Result (Unit {0}) PackFail)
    → standing.Says [] text (Ok t) → Judged t (length text) r → OnOk r (IsStream text)
judged-ok text t (Ok x) says j =
    let (digits, h, is) = says.1 j.0 in whole-stream text t.used digits h j.1 is
judged-ok text t (Err e) says j = tt

pub judged-fail : (text : List ℕ) (t : Taken) (r : Result (Unit {0}) PackFail)
    → standing.Says [] text (Ok t) → (t.whole ≡ false → t.used ≡ length text)
    → Judged t (length text) r → IfErr r (λ e. IsPackFail text e)
judged-fail text t (Ok x) says all j = tt
judged-fail text t (Err (fails.Stream fault)) says all j =
    let used = all j.0 in
    let same : take t.used text ≡ text = take_all t.used text (omega arith) in
    let cut : stream_fault text ≡ Some (faults.Truncated (length text)) =
    rw same at (says.0 j.0) in
    cut ∙ (ap (λ (n : ℕ). Some (faults.Truncated n)) (sym used)
    ∙ ap (λ (f : FormatError). Some f) (sym j.1))
judged-fail text t (Err fails.Trailing) says all j =
    let (digits, h, is) = says.1 j.0 in whole-followed text t.used digits h j.1 is
judged-fail text t (Err fails.OutOfMemory) says all j = tt

-- A stream text whose words are said is packed.
pub said-packed : (packed text : List ℕ) → IsSaid packed text → IsStream text
    → IsPacked packed text
said-packed packed text said stream =
    record { code = said.code; head = said.head; stream = stream; says = said.says }
