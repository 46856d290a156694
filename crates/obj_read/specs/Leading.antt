-- The digits at the front of a text.
use Rattle.std.specs.Prelude.{ℕ, List, [], ◌∷◌, Bool, true, ◌==◌, if◌then◌else◌}
use Rattle.pm_io.specs.Digits.{is_digit}

-- The digits before the first byte that is none.
abbrev pub leading : List ℕ → List ℕ
leading [] = []
leading (b ∷ bs) = if is_digit b then b ∷ leading bs else []

-- What stands after them.
abbrev pub after_digits : List ℕ → List ℕ
after_digits [] = []
after_digits (b ∷ bs) = if is_digit b then after_digits bs else b ∷ bs

-- Nothing stands there, or this byte first.
abbrev pub is_end : ℕ → List ℕ → Bool
is_end stop [] = true
is_end stop (b ∷ bs) = b == stop
