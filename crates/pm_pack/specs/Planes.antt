-- The plane through a node by the nodes round it. Numbers are modulo 2^64, as of two's complement.
use Rattle.std.specs.Prelude.{ℕ, ◌+◌, ◌-◌, ◌*◌, ◌/◌, ◌%◌, ◌==◌, ◌||◌, not, nat_lt, nat_le, min}
use Rattle.std.specs.Prelude.{Bool, if◌then◌else◌, List, [], ◌∷◌, get_or}
use Rattle.pm_pack.specs.declared.past.Node.{Node}
use Rattle.pm_pack.specs.declared.plane.Way.{Way}
use Rattle.pm_pack.specs.declared.ring.Spoke.{Spoke}
use Rattle.pm_pack.specs.Grids.{place_of, word_of}

abbrev pub plus : ℕ → ℕ → ℕ
plus a b = (a + b) % 18446744073709551616

abbrev pub minus : ℕ → ℕ → ℕ
minus a b = (a + (18446744073709551616 - b)) % 18446744073709551616

abbrev pub times : ℕ → ℕ → ℕ
times a b = a * b % 18446744073709551616

-- A way along the three axes.
abbrev pub way : ℕ → ℕ → ℕ → Way
way x y z = record { x = x; y = y; z = z }

abbrev pub no_way : Way
no_way = way 0 0 0

-- The way from one node to another, the sum of two, and their cross product.
unfoldable pub way_to : Node → Node → Way
way_to s n =
    way (minus (place_of n.x) (place_of s.x)) (minus (place_of n.y) (place_of s.y))
    (minus (place_of n.z) (place_of s.z))

unfoldable pub both : Way → Way → Way
both a b = way (plus a.x b.x) (plus a.y b.y) (plus a.z b.z)

unfoldable pub cross : Way → Way → Way
cross a b =
    way (minus (times a.y b.z) (times a.z b.y)) (minus (times a.z b.x) (times a.x b.z))
    (minus (times a.x b.y) (times a.y b.x))

-- A node at a place, with its first leaf, how many it has, and the input word of a leaf.
abbrev pub node : ℕ → ℕ → ℕ → ℕ → ℕ → ℕ → Node
node x y z first width input =
    record { x = x; y = y; z = z; first = first; width = width; input = input }

abbrev pub node_at : List Node → ℕ → Node
node_at nodes i = get_or nodes i (node 0 0 0 0 0 0)

-- The way from a node to that to which a side of its ring leads.
abbrev pub way_along : List Node → Node → Spoke → Way
way_along nodes s spoke = way_to s (node_at nodes spoke.node)

-- The sum of the cross products of the way along each side of a ring and that along the next.
unfoldable pub normal_from : List Node → Node → Way → Way → List Spoke → Way
normal_from nodes s sum before [] = sum
normal_from nodes s sum before (spoke ∷ ring) =
    normal_from nodes s (both sum (cross before (way_along nodes s spoke)))
    (way_along nodes s spoke) ring

abbrev pub normal : List Node → Node → List Spoke → Way
normal nodes s ring = normal_from nodes s no_way no_way ring

-- How far a number is from 0, and whether it is below.
abbrev pub size : ℕ → ℕ
size n = if nat_lt n 9223372036854775808 then n else 18446744073709551616 - n

abbrev pub is_below : ℕ → Bool
is_below n = nat_le 9223372036854775808 n

-- The plane with this normal rises by more than four times the way along x or y.
unfoldable pub is_steep : Way → Bool
is_steep n = n.z == 0 || nat_lt (size n.z) (size n.x / 4) || nat_lt (size n.z) (size n.y / 4)

-- How far the plane rises or falls on a way, 65,535 at most.
abbrev pub slope : Way → Way → ℕ
slope n w = plus (times n.x w.x) (times n.y w.y)

abbrev pub falls : Way → Way → Bool
falls n w = if is_below (slope n w) then is_below n.z else not (is_below n.z)

unfoldable pub rise : Way → Way → ℕ
rise n w = min (size (slope n w) / size n.z) 65535

-- The coordinate of the plane with this normal through `s` at the end of a way along x and y, and
-- another word where it is steep.
unfoldable pub level : Way → Node → Way → ℕ → ℕ
level n s w other =
    if is_steep n then other else
    if falls n w then word_of (place_of s.z - rise n w) else word_of (place_of s.z + rise n w)
