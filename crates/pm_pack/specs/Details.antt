-- What is known of the next word beside its kind: 0 for nothing, else a number from 2,048 on.
use Rattle.std.specs.Prelude.{ℕ, ◌+◌, ◌-◌, ◌*◌, ◌%◌, ◌==◌, ◌&&◌, nat_lt, min, max}
use Rattle.std.specs.Prelude.{if◌then◌else◌, length}
use Rattle.std.specs.Int.Count.{count_leading_zeros}
use Rattle.pm_pack.specs.Rings.{input_at}
use Rattle.pm_pack.specs.Pasts.{Seen, split_node, beyond, edge}
use Rattle.pm_pack.specs.Kinds.{corner_kind}

-- How many bits a number has.
abbrev pub bits : ℕ → ℕ
bits n = 32 - count_leading_zeros 32 n

-- How far two numbers are apart.
abbrev pub gap : ℕ → ℕ → ℕ
gap a b = max a b - min a b

-- How two input words stand to each other: which are odd, whether the first is less, and whether
-- they are next to each other.
unfoldable pub order_of : ℕ → ℕ → ℕ
order_of a b =
    a % 2 + 2 * (b % 2) + (if nat_lt a b then 4 else 0) + (if gap a b == 1 then 8 else 0)

-- The input words of the faces on the edge.
abbrev pub edge_input : Seen → ℕ
edge_input seen = input_at seen.faces (edge seen)

abbrev pub beyond_input : Seen → ℕ
beyond_input seen = input_at seen.faces (beyond seen (edge seen))

abbrev pub corner_detail : Seen → ℕ
corner_detail seen =
    1024 * (order_of (edge_input seen) (beyond_input seen) + 2) + corner_kind seen % 1024

-- Which of the two input words is less, and by how many bits.
unfoldable pub face_detail : Seen → ℕ
face_detail seen =
    2 * bits (gap (edge_input seen) (beyond_input seen))
    + (if nat_lt (edge_input seen) (beyond_input seen) then 2049 else 2048)

-- The detail of the next word.
unfoldable pub detail_of : Seen → ℕ
detail_of seen =
    if seen.spot.field == 17 then 2048 + min (split_node seen).width 255 else
    if seen.spot.field == 26 then 2048 + length seen.ring else
    if nat_lt 26 seen.spot.field && nat_lt seen.spot.field 30 then corner_detail seen else
    if seen.spot.field == 30 then face_detail seen else 0
