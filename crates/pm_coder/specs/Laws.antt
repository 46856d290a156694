-- The laws of the range coder.
use Rattle.std.specs.Prelude.{◌≡◌, ℕ, suc, zero, ◌+◌, ◌-◌, ◌*◌, ◌<◌, ◌≤◌, Bool, true, nat_le}
use Rattle.std.specs.Prelude.{List, [], ◌∷◌, ◌++◌, length, take, Option, Some, None, if◌then◌else◌}
use Rattle.pm_coder.specs.declared.interval.Interval.{Interval}
use Rattle.pm_coder.specs.Intervals.{Choice, choice, whole, is_apart, choice_bytes, after}
use Rattle.pm_coder.specs.Coding.{Progress, code_of, chosen, next_choice, passed}

-- The share of the next choice, by the choices so far: what both sides know.
abbrev pub Shares : Type 0
Shares = List Bool → ℕ

-- Each share is below 65,536.
abbrev pub AreShares : Shares → Type 0
AreShares share = (past : List Bool) → share past < 65536

-- The choices of these bits, after those of the past.
unfoldable pub choices_after : Shares → List Bool → List Bool → List Choice
choices_after share past [] = []
choices_after share past (b ∷ bs) =
    choice b (share past) ∷ choices_after share (past ++ b ∷ []) bs

-- The code bytes of these bits.
abbrev pub code : Shares → List Bool → List ℕ
code share bits = code_of (choices_after share [] bits)

-- The bits that were read, and how many bytes weren't taken.
pub record Decoded : Type 0 where
  pub bits : List Bool
  pub left : ℕ

-- The bytes are enough for the choice that they say.
abbrev pub is_enough : Progress → ℕ → Bool
is_enough p share =
    nat_le (length (choice_bytes p.interval (next_choice p share)) + 4) (length p.bytes)

-- n more choices read, after those of the past; none where the bytes end before.
unfoldable pub decoded_after : Shares → ℕ → List Bool → Progress → Option Decoded
decoded_after share zero past p = Some (record { bits = past; left = length p.bytes - 4 })
decoded_after share (suc n) past p =
    if is_enough p (share past)
    then decoded_after share n (past ++ chosen p (share past) ∷ [])
    (passed p (next_choice p (share past)))
    else None

-- n choices read from these bytes: first there have to be four.
abbrev pub decoded : Shares → ℕ → List ℕ → Option Decoded
decoded share n bytes =
    if nat_le 4 (length bytes)
    then decoded_after share n [] (record { interval = whole; bytes = bytes })
    else None

-- What was written is read back, and exactly its bytes are taken, whatever follows them.
abbrev pub CodesAreReadBack : Type 0
CodesAreReadBack = (share : Shares) → AreShares share → (bits : List Bool) (more : List ℕ)
    → decoded share (length bits) (code share bits ++ more)
    ≡ Some (record { bits = bits; left = length more })

-- Where bytes lack at the end, the choices aren't read.
abbrev pub CutCodesAreRefused : Type 0
CutCodesAreRefused = (share : Shares) → AreShares share → (bits : List Bool) (k : ℕ)
    → k < length (code share bits)
    → decoded share (length bits) (take k (code share bits)) ≡ None

-- A choice gives four bytes at most, and the end four.
abbrev pub CodesAreShort : Type 0
CodesAreShort = (share : Shares) (bits : List Bool)
    → length (code share bits) ≤ 4 * length bits + 4

-- Four shifts are enough: after a choice the top bytes differ.
abbrev pub ChoicesAreSettled : Type 0
ChoicesAreSettled = (i : Interval) (c : Choice) → is_apart (after i c) ≡ true

-- A choice takes four bytes at most, whatever the bytes are.
abbrev pub ChoicesTakeFew : Type 0
ChoicesTakeFew = (i : Interval) (c : Choice) → length (choice_bytes i c) ≤ 4
