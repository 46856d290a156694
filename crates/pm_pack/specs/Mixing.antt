-- One share by two slots: each speaks for `true` or for `false` as strongly as the logarithm of its
-- odds tells, and weighs more the more it helped (as in PAQ, Mahoney).
use Rattle.std.specs.Prelude.{ℕ, ◌+◌, ◌-◌, ◌*◌, ◌/◌, ◌%◌, ◌^◌, min, max, Bool}
use Rattle.std.specs.Prelude.{if◌then◌else◌}
use Rattle.std.specs.Int.Count.{count_leading_zeros}
use Rattle.pm_pack.specs.declared.mixing.Weights.{Weights}

-- The place of the top bit.
abbrev pub top_place : ℕ → ℕ
top_place n = 31 - count_leading_zeros 32 n

-- The logarithm to base 2 in 1,024ths, straight between powers of 2.
unfoldable pub log : ℕ → ℕ
log n = 1024 * top_place n + n * 1024 / 2 ^ top_place n % 1024

-- How strongly a share speaks for `true`, and how strongly for `false`: one of them is 0.
unfoldable pub for_true : ℕ → ℕ
for_true share = log share - log (65536 - share)

unfoldable pub for_false : ℕ → ℕ
for_false share = log (65536 - share) - log share

-- 1,024 times the number with this logarithm.
unfoldable pub power : ℕ → ℕ
power n = (1024 + n % 1024) * 2 ^ (n / 1024)

-- Two weights, in 32,768ths: of the slot by the kind, and of that by the detail.
abbrev pub weights : ℕ → ℕ → Weights
weights kind detail = record { kind = kind; detail = detail }

abbrev pub weighed : Weights → ℕ → ℕ → ℕ
weighed w kind detail = w.kind * kind + w.detail * detail

-- How far one sum of weighed strengths is above another, below 16 powers of 2.
abbrev pub lead : ℕ → ℕ → ℕ
lead a b = min ((a - b) / 32768) 16383

-- The share of which the odds are those of two powers.
unfoldable pub share_by : ℕ → ℕ → ℕ
share_by a b = max (min (65536 * power a / (power a + power b + 1)) 65535) 1

-- The share of two shares together.
unfoldable pub mixed_share : Weights → ℕ → ℕ → ℕ
mixed_share w kind detail =
    share_by
    (lead (weighed w (for_true kind) (for_true detail))
    (weighed w (for_false kind) (for_false detail)))
    (lead (weighed w (for_false kind) (for_false detail))
    (weighed w (for_true kind) (for_true detail)))

-- A weight after a bit for which its slot spoke so strongly, or against which; the share of the
-- other bit was `missed`.
unfoldable pub weight_after : ℕ → ℕ → ℕ → ℕ → ℕ
weight_after weight right wrong missed =
    min (weight + right * missed / 524288) 65535 - wrong * missed / 524288

unfoldable pub weight_learned : ℕ → ℕ → ℕ → Bool → ℕ
weight_learned weight share missed bit =
    if bit then weight_after weight (for_true share) (for_false share) missed
    else weight_after weight (for_false share) (for_true share) missed

-- The weights after a bit: `share` is that of two shares together.
unfoldable pub weights_learned : Weights → ℕ → ℕ → ℕ → Bool → Weights
weights_learned w kind detail share bit =
    weights (weight_learned w.kind kind (if bit then 65536 - share else share) bit)
    (weight_learned w.detail detail (if bit then 65536 - share else share) bit)
