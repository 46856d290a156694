-- Choices as code bytes, and code bytes as choices.
use Rattle.std.specs.Prelude.{◌≡◌, ℕ, ◌+◌, ◌<◌, ◌≤◌, Bool, List, [], ◌∷◌, ◌++◌, length, drop}
use Rattle.std.specs.Prelude.{nat_le}
use Rattle.std.specs.Int.{w32, to_be_bytes, from_be_bytes}
use Rattle.pm_coder.specs.declared.interval.Interval.{Interval}
use Rattle.pm_coder.specs.Intervals.{Choice, choice, whole, mid, choice_bytes, after}

-- Each share is below 65,536.
abbrev pub AreFit : List Choice → Type 0
AreFit [] = Unit {0}
AreFit (c ∷ cs) = (c.share < 65536) × AreFit cs

-- The code bytes of choices from an interval on: the last four are those of `low`.
unfoldable pub code_from : Interval → List Choice → List ℕ
code_from i [] = to_be_bytes w32 i.low
code_from i (c ∷ cs) = choice_bytes i c ++ code_from (after i c) cs

-- The code bytes of choices.
abbrev pub code_of : List Choice → List ℕ
code_of cs = code_from whole cs

-- How far a coder is: its interval, and the bytes written, or those from the first on that counts.
pub record Progress : Type 0 where
  pub interval : Interval
  pub bytes : List ℕ

-- An encoder after one more choice.
abbrev pub written : Progress → Choice → Progress
written p c = record {
  interval = after p.interval c;
  bytes = p.bytes ++ choice_bytes p.interval c;
}

-- The code bytes of an encoder that ends.
abbrev pub ended : Progress → List ℕ
ended p = p.bytes ++ to_be_bytes w32 p.interval.low

-- The number that the first four bytes spell.
abbrev pub window : List ℕ → ℕ
window bytes = from_be_bytes w32 bytes

-- What the bytes say at a share.
abbrev pub chosen : Progress → ℕ → Bool
chosen p share = nat_le (window p.bytes) (mid p.interval share)

-- The choice that the bytes say at a share.
abbrev pub next_choice : Progress → ℕ → Choice
next_choice p share = choice (chosen p share) share

-- The bytes end before what this choice takes.
abbrev pub Lacks : Progress → Choice → Type 0
Lacks p c = length p.bytes < length (choice_bytes p.interval c) + 4

-- The choice is what the bytes say, and there are bytes enough for it.
pub record IsRead (p : Progress) (c : Choice) : Type 0 where
  pub said : c.bit ≡ chosen p c.share
  pub enough : length (choice_bytes p.interval c) + 4 ≤ length p.bytes

-- A decoder after one more choice.
abbrev pub passed : Progress → Choice → Progress
passed p c = record {
  interval = after p.interval c;
  bytes = drop (length (choice_bytes p.interval c)) p.bytes;
}
