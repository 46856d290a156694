-- Why no stream text is read, and what follows one.
use Rattle.std.proofs.Common.{◌≡◌, ◌≢◌, ◌⊎◌, inl, inr, ℕ, List, [], ◌++◌, take, drop, length, Ok}
use Rattle.std.proofs.Common.{Some, None, Bool, true, false, refl, sym, ap, ◌∙◌, arith}
use Rattle.std.proofs.lemmas.List.{append-nil, append_cancel_left, take_all, take-append-drop}
use Rattle.pm_forest.specs.Forest.{Hierarchy}
use Rattle.pm_format.specs.declared.fault.FormatError.{FormatError}
use Rattle.pm_format.specs.declared.fault.FormatError.TheVariants as format
use Rattle.pm_format.specs.declared.taken.Taken.{Taken}
use Rattle.pm_format.specs.Faults.{stream_fault}
use Rattle.pm_format.specs.Stream.{stream}
use Rattle.pm_format.specs.Standing as standing
use Rattle.pm_format.specs.Standing.{IsText, HasFaultAlready}
use Rattle.pm_format.proofs.WholeLaws.{one_text, whole_text}
use Rattle.paint.specs.Streams.{BeginsWith, IsUnread, stream_fail}

-- A fault, or want of memory.
abbrev pub HasFault : List ℕ → FormatError → Type 0
HasFault bytes e = (e ≡ format.OutOfMemory) ⊎ (stream_fault bytes ≡ Some e)

fault_of : (bytes : List ℕ) (e : FormatError) → HasFault bytes e → e ≢ format.OutOfMemory
    → stream_fault bytes ≡ Some e
fault_of bytes e has other =
    elim has [ inl memory ↦ absurd (other memory) | inr faulty ↦ faulty ]

pub unread_of : (bytes : List ℕ) (e : FormatError) → HasFault bytes e
    → IsUnread bytes (stream_fail e)
unread_of bytes format.BadMagic has = fault_of bytes _ has (λ e. cc)
unread_of bytes (format.BadVersion v) has = fault_of bytes _ has (λ e. cc)
unread_of bytes (format.BadDigits d) has = fault_of bytes _ has (λ e. cc)
unread_of bytes (format.Truncated n) has = fault_of bytes _ has (λ e. cc)
unread_of bytes format.BadCount has = fault_of bytes _ has (λ e. cc)
unread_of bytes (format.BadRoot i) has = fault_of bytes _ has (λ e. cc)
unread_of bytes (format.BadFace i) has = fault_of bytes _ has (λ e. cc)
unread_of bytes (format.BadRecord k) has = fault_of bytes _ has (λ e. cc)
unread_of bytes (format.BadInput i) has = fault_of bytes _ has (λ e. cc)
unread_of bytes format.OutOfMemory has = tt

-- Where a decoder refused bytes,
pub already : (bytes : List ℕ) (e : FormatError) → HasFaultAlready bytes e
    → IsUnread bytes (stream_fail e)
already bytes e has =
    unread_of bytes e (elim has [
      | inl memory ↦ inl memory
      | inr faulty ↦ inr (rw (append-nil bytes) at (faulty []))
    ])

-- and where it has no text after the bytes that it took.
after_all : (bytes : List ℕ) (used : ℕ) (e : FormatError) → used ≡ length bytes
    → HasFault (take used bytes) e → HasFault bytes e
after_all bytes used e all has =
    let same : take used bytes ≡ bytes = take_all used bytes (omega (arith, all)) in
    rw same at has

after_text : (text : List ℕ) (digits : ℕ) (h : Hierarchy) (e : FormatError) → IsText text digits h
    → HasFault text e → e ≡ format.OutOfMemory
after_text text digits h e is has =
    elim has [
      | inl memory ↦ memory
      | inr faulty ↦
          let fine : stream_fault text ≡ None =
          rw (is.text, ← append-nil (stream digits h)) (whole_text digits h [] is.few is.shape) in
          absurd (let both : None ≡ Some e = sym fine ∙ faulty in cc)
    ]

finished_by : (bytes : List ℕ) (used : ℕ) (whole : Bool) (e : FormatError)
    → (whole ≡ false → used ≡ length bytes)
    → (whole ≡ true → (digits : ℕ) × (h : Hierarchy) × IsText (take used bytes) digits h)
    → HasFault (take used bytes) e → HasFault bytes e
finished_by bytes used false e all text has = after_all bytes used e (all refl) has
finished_by bytes used true e all text has =
    let (digits, h, is) = text refl in inl (after_text (take used bytes) digits h e is has)

pub finished : (bytes : List ℕ) (t : Taken) (e : FormatError) → standing.Says [] bytes (Ok t)
    → (t.whole ≡ false → t.used ≡ length bytes) → HasFault (take t.used bytes) e
    → IsUnread bytes (stream_fail e)
finished bytes t e says all has =
    unread_of bytes e (finished_by bytes t.used t.whole e all says.1 has)

-- A text that was read, and the bytes after it.
pub begun : (bytes : List ℕ) (used digits : ℕ) (h : Hierarchy)
    → IsText (take used bytes) digits h → BeginsWith bytes h (drop used bytes)
begun bytes used digits h is = record {
  digits = digits;
  text = take used bytes;
  is = is;
  all = sym (take-append-drop used bytes);
}

-- Bytes begin with one text.
pub one_beginning : (bytes : List ℕ) (h g : Hierarchy) (rest more : List ℕ)
    → BeginsWith bytes h rest → BeginsWith bytes g more → (h ≡ g) × (rest ≡ more)
one_beginning bytes h g rest more a b =
    let both : stream a.digits h ++ rest ≡ stream b.digits g ++ more =
    ap (λ (l : List ℕ). l ++ rest) (sym a.is.text)
    ∙ (sym a.all ∙ (b.all ∙ ap (λ (l : List ℕ). l ++ more) b.is.text)) in
    let (same, digits) =
    one_text a.digits b.digits h g rest more a.is.few b.is.few a.is.shape b.is.shape both in
    let like : stream a.digits h ++ rest ≡ stream a.digits h ++ more =
    both ∙ ap (λ (l : List ℕ). l ++ more) (rw (same, digits) refl) in
    (same, append_cancel_left (stream a.digits h) rest more like)

-- Bytes that begin with a text have no fault of streams.
pub begun_fine : (bytes : List ℕ) (h : Hierarchy) (rest : List ℕ) → BeginsWith bytes h rest
    → stream_fault bytes ≡ None
begun_fine bytes h rest b =
    rw (b.all, b.is.text) (whole_text b.digits h rest b.is.few b.is.shape)
