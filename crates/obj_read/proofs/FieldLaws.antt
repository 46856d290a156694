-- Laws of the fields of a line.
use Rattle.std.proofs.Common.{◌≡◌, ℕ, zero, suc, ◌<◌, true, false, List, [], ◌∷◌, length, get_or}
use Rattle.std.proofs.Common.{take, drop, refl, sym, ◌∙◌, ap, arith}
use Rattle.obj_read.specs.Fields.{is_blank, begins_blank, fields}
use Rattle.pm_io.specs.Bytes.{onto}

-- Blanks at the front make no field.
pub fields_skip : (bytes : List ℕ) (i : ℕ) → i < length bytes
    → ((k : ℕ) → k < i → is_blank (get_or bytes k 0) ≡ true) → fields (drop i bytes) ≡ fields bytes
fields_skip [] i lt blank = absurd (omega arith)
fields_skip (b ∷ bytes) zero lt blank = refl
fields_skip (b ∷ bytes) (suc i) lt blank =
    let first : is_blank b ≡ true = blank 0 (omega arith) in
    rw first (fields_skip bytes i (omega arith) (λ k below. blank (suc k) (omega arith)))

-- A line of blanks has no fields.
pub fields_blank : (bytes : List ℕ)
    → ((k : ℕ) → k < length bytes → is_blank (get_or bytes k 0) ≡ true) → fields bytes ≡ []
fields_blank [] blank = refl
fields_blank (b ∷ bytes) blank =
    let first : is_blank b ≡ true = blank 0 (omega arith) in
    rw first (fields_blank bytes (λ k below. blank (suc k) (omega arith)))

-- A field ends before the first blank.
pub fields_word : (bytes : List ℕ) (i : ℕ) → 0 < i → i < length bytes
    → ((k : ℕ) → k < i → is_blank (get_or bytes k 0) ≡ false) → is_blank (get_or bytes i 0) ≡ true
    → fields bytes ≡ take i bytes ∷ fields (drop i bytes)
fields_word [] i some lt word here = absurd (omega arith)
fields_word (b ∷ bytes) zero some lt word here = absurd (omega arith)
fields_word (b ∷ []) (suc i) some lt word here = absurd (omega arith)
fields_word (b ∷ c ∷ bytes) (suc zero) some lt word here = rw (word 0 (omega arith), here) refl
fields_word (b ∷ c ∷ bytes) (suc (suc i)) some lt word here =
    let first : is_blank b ≡ false = word 0 (omega arith) in
    let second : is_blank c ≡ false = word 1 (omega arith) in
    let more = fields_word (c ∷ bytes) (suc i) (omega arith) (omega arith)
    (λ k below. word (suc k) (omega arith)) here in
    rw first (rw second (ap (onto b) (rw second at more)))

-- A line without blanks is one field.
pub fields_all_word : (bytes : List ℕ) → 0 < length bytes
    → ((k : ℕ) → k < length bytes → is_blank (get_or bytes k 0) ≡ false) → fields bytes ≡ bytes ∷ []
fields_all_word [] some word = absurd (omega arith)
fields_all_word (b ∷ []) some word = rw (word 0 (omega arith)) refl
fields_all_word (b ∷ c ∷ bytes) some word =
    let first : is_blank b ≡ false = word 0 (omega arith) in
    let second : is_blank c ≡ false = word 1 (omega arith) in
    let more = fields_all_word (c ∷ bytes) (omega arith) (λ k below. word (suc k) (omega arith)) in
    rw first (rw second (ap (onto b) (rw second at more)))

-- The first field and what stands after it, cut at a blank.
pub fields_cut : (bytes : List ℕ) (i : ℕ) (rest : List ℕ) → begins_blank bytes ≡ false
    → i < length bytes → ((k : ℕ) → k < i → is_blank (get_or bytes k 0) ≡ false)
    → is_blank (get_or bytes i 0) ≡ true
    → rest ≡ drop i bytes → fields bytes ≡ take i bytes ∷ fields rest
fields_cut [] i rest first lt word here is = absurd (omega arith)
fields_cut (b ∷ bytes) zero rest first lt word here is = cc
fields_cut (b ∷ bytes) (suc i) rest first lt word here is =
    fields_word (b ∷ bytes) (suc i) (omega arith) lt word here
    ∙ ap (λ (l : List ℕ). take (suc i) (b ∷ bytes) ∷ fields l) (sym is)

-- The first field, where no blank follows.
pub fields_uncut : (bytes rest : List ℕ) → 0 < length bytes
    → ((k : ℕ) → k < length bytes → is_blank (get_or bytes k 0) ≡ false) → length rest ≡ 0
    → fields bytes ≡ bytes ∷ fields rest
fields_uncut bytes [] some word none = fields_all_word bytes some word
fields_uncut bytes (r ∷ rest) some word none = absurd (omega arith)
