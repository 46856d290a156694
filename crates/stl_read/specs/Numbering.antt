-- The numbers of points: each in the slot of its place, or in a map where the slot has another's.
use Rattle.std.specs.Prelude.{◌≡◌, ℕ, ◌+◌, ◌*◌, ◌/◌, ◌%◌, ◌<◌, ℤ, Bool, ◌&&◌, List, nat_lt, length}
use Rattle.std.specs.Prelude.{Option, Some, None, IfSome, All, slice_index_or, if◌then◌else◌}
use Rattle.std.specs.Int.{w128, cast_unsigned}
use Rattle.std.specs.Ordering.{int_eq}
use Rattle.std.specs.HashMap.{HashMap, get}
use Rattle.pm_base.specs.Place.{Place}
use Rattle.stl_read.specs.declared.vertices.Vertices.{Vertices}
use Rattle.stl_read.specs.Vertices.{is_same, number_of}

abbrev pub Key : Type 0
Key = ℤ × ℤ × ℤ

abbrev pub key_of : Place → Key
key_of p = (p.x, p.y, p.z)

abbrev pub same_key : Key → Key → Bool
same_key k l = int_eq k.0 l.0 && int_eq k.1 l.1 && int_eq k.2 l.2

-- The number of a point, if it is there.
abbrev pub number_if : List Place → Place → Option ℕ
number_if points p =
    if nat_lt (number_of points p) (length points) then Some (number_of points p) else None

-- A hash with one more number in it.
unfoldable pub mixed : ℕ → ℕ → ℕ
mixed hash n =
    (hash + n) % 18446744073709551616 * 11400714819323198485 % 18446744073709551616

-- The least bits of a coordinate.
unfoldable pub low_bits : ℤ → ℕ
low_bits x = cast_unsigned w128 x % 18446744073709551616

-- The slot of a point, of so many.
unfoldable pub slot_of : ℕ → Place → ℕ
slot_of count p =
    mixed (mixed (mixed 0 (low_bits p.x)) (low_bits p.y)) (low_bits p.z) / 4294967296 % count

-- The number of a point by what its slot has, and else the map.
abbrev pub number_by : List Place → Option ℕ → Place → Option ℕ → Option ℕ
number_by points other p None = None
number_by points other p (Some v) = if is_same (slice_index_or points v p) p then Some v else other

-- The slots and the map have the number of each point.
pub record HaveNumbers {S : Type 0} (points : List Place) (slots : List (Option ℕ))
    (others : HashMap Key ℕ S) : Type 0 where
  pub some : 0 < length slots
  pub within : All (λ slot. IfSome slot (λ v. v < length points)) slots
  pub other : (p : Place) (v : ℕ) → get same_key others (key_of p) ≡ Some v
      → number_if points p ≡ Some v
  pub each : (p : Place) → number_by points (get same_key others (key_of p)) p
      (slice_index_or slots (slot_of (length slots) p) None) ≡ number_if points p

abbrev pub AreNumbered : Vertices → Type 0
AreNumbered v = HaveNumbers v.points.items v.slots.items v.others
