-- The interval of a range coder (Martin 1979), carry-less as in lpaq and ZPAQ (Mahoney).
use Rattle.std.specs.Prelude.{ℕ, suc, zero, ◌+◌, ◌-◌, ◌*◌, ◌/◌, ◌%◌, ◌<◌, ◌==◌, Bool, not}
use Rattle.std.specs.Prelude.{List, [], ◌∷◌, if◌then◌else◌}
use Rattle.pm_coder.specs.declared.interval.Interval.{Interval}

-- What was chosen, and the share of `true` in 65,536ths.
pub record Choice : Type 0 where
  pub bit : Bool
  pub share : ℕ

-- This bit at this share.
abbrev pub choice : Bool → ℕ → Choice
choice bit share = record { bit = bit; share = share }

-- All numbers of 32 bits.
abbrev pub whole : Interval
whole = record { low = 0; high = 4294967295 }

-- The interval isn't one number.
abbrev pub IsOpen : Interval → Type 0
IsOpen i = i.low < i.high

-- The last number of the part for `true`.
abbrev pub mid : Interval → ℕ → ℕ
mid i share = i.low + (i.high - i.low) * share / 65536

-- The part for a choice.
abbrev pub narrowed : Interval → Choice → Interval
narrowed i c = record {
  low = (if c.bit then i.low else mid i c.share + 1);
  high = (if c.bit then mid i c.share else i.high);
}

-- The top byte.
abbrev pub top : ℕ → ℕ
top n = n / 16777216

-- Whether the ends have other top bytes.
abbrev pub is_apart : Interval → Bool
is_apart i = not (top i.low == top i.high)

-- The interval without its top byte.
abbrev pub shifted : Interval → Interval
shifted i = record {
  low = i.low % 16777216 * 256;
  high = i.high % 16777216 * 256 + 255;
}

-- The top bytes that both ends share, the first n of them at most.
unfoldable pub same_bytes : ℕ → Interval → List ℕ
same_bytes zero i = []
same_bytes (suc n) i = if is_apart i then [] else top i.high ∷ same_bytes n (shifted i)

-- The interval without the top bytes that both ends share, n of them at most.
unfoldable pub settled : ℕ → Interval → Interval
settled zero i = i
settled (suc n) i = if is_apart i then i else settled n (shifted i)

-- The bytes that a choice gives: four at most, since then the interval is whole.
abbrev pub choice_bytes : Interval → Choice → List ℕ
choice_bytes i c = same_bytes 4 (narrowed i c)

-- The interval after a choice.
abbrev pub after : Interval → Choice → Interval
after i c = settled 4 (narrowed i c)
