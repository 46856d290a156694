-- A number below a bound by halving.
use Rattle.std.specs.Prelude.{ℕ, zero, suc, ◌-◌, ◌*◌, ◌/◌, true, false, nat_le, List, [], ◌∷◌}
use Rattle.std.specs.Prelude.{if◌then◌else◌}
use Rattle.pm_coder.specs.Intervals.{Choice, choice}

-- The share of the upper half.
abbrev pub upper_share : ℕ → ℕ
upper_share bound = 65536 * (bound - bound / 2) / bound

-- Whether the number is in the upper half, and so on in that half; `turns` halvings at most.
unfoldable pub halvings : ℕ → ℕ → ℕ → List Choice
halvings zero bound n = []
halvings (suc turns) bound n =
    if nat_le bound 1 then [] else
    if nat_le (bound / 2) n
    then choice true (upper_share bound) ∷ halvings turns (bound - bound / 2) (n - bound / 2)
    else choice false (upper_share bound) ∷ halvings turns (bound / 2) n

-- The choices of a number below a bound.
unfoldable pub uniform_choices : ℕ → ℕ → List Choice
uniform_choices bound n = halvings bound bound n
