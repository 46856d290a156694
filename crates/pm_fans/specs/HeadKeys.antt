-- The order of new vertices by one number for each head.
use Rattle.std.specs.Prelude.{◌≡◌, ℕ, ◌+◌, ◌*◌, ◌%◌, ◌<◌, ◌≤◌, List, Option, Some, length}
use Rattle.std.specs.Prelude.{slice_index, slice_index_or, if◌then◌else◌}
use Rattle.std.specs.List.{Contains}
use Rattle.std.specs.Option.{is_some, unwrap_or}
use Rattle.pm_base.specs.declared.mesh.Corners.{Corners}
use Rattle.pm_base.specs.Sides.{Net, no_corners, beside_side}
use Rattle.pm_fans.specs.declared.numbers.TheConstants.{SIDES}

-- By the old vertex, then whether the chain is closed, then the side: 22 bits for the side, one for
-- a closed chain.
unfoldable pub order_key : Net → List (Option ℕ) → ℕ → ℕ
order_key m glued e = (m.from e * 2 + (if is_some (beside_side glued e) then 1 else 0)) * SIDES + e

abbrev pub side_of_key : ℕ → ℕ
side_of_key key = key % SIDES

pub record IsHeadKey (m : Net) (glued heads : List (Option ℕ)) (key : ℕ) : Type 0 where
  pub own : beside_side heads (side_of_key key) ≡ Some (side_of_key key)
  pub is : key ≡ order_key m glued (side_of_key key)

-- The keys of those heads that are among the first n sides, in the order of these.
pub record AreCollected (m : Net) (glued heads : List (Option ℕ)) (n : ℕ) (keys : List ℕ) : Type 0
  where
    pub few : length keys ≤ n
    pub each : (i : ℕ) → i < length keys → IsHeadKey m glued heads (slice_index keys i)
    pub low : (i : ℕ) → i < length keys → side_of_key (slice_index keys i) < n
    pub all : (e : ℕ) → e < n → beside_side heads e ≡ Some e → Contains keys (order_key m glued e)
    pub apart : (i j : ℕ) → i < j → j < length keys
        → side_of_key (slice_index keys i) < side_of_key (slice_index keys j)

-- The keys of all heads, in ascending order.
pub record AreHeadKeys (m : Net) (glued heads : List (Option ℕ)) (keys : List ℕ) : Type 0 where
  pub few : length keys ≤ length heads
  pub each : (i : ℕ) → i < length keys → IsHeadKey m glued heads (slice_index keys i)
  pub all : (e : ℕ) → beside_side heads e ≡ Some e → Contains keys (order_key m glued e)
  pub ascend : (i j : ℕ) → i < j → j < length keys → slice_index keys i < slice_index keys j

-- By side, the place of its key.
pub record AreKeyPlaces (keys places : List ℕ) (sides n : ℕ) : Type 0 where
  pub long : length places ≡ sides
  pub each : (i : ℕ) → i < n → slice_index places (side_of_key (slice_index keys i)) ≡ i

-- The new vertex of a side: the place of its head.
abbrev pub new_of : List (Option ℕ) → List ℕ → ℕ → ℕ
new_of heads places e = slice_index places (unwrap_or (beside_side heads e) 0)

-- So many faces with their new vertices.
pub record AreRenamed (heads : List (Option ℕ)) (places : List ℕ) (n : ℕ) (faces : List Corners) :
    Type 0 where
  pub long : length faces ≡ n
  pub a : (f : ℕ) → f < n → (slice_index_or faces f no_corners).a ≡ new_of heads places (3 * f)
  pub b : (f : ℕ) → f < n → (slice_index_or faces f no_corners).b ≡ new_of heads places (3 * f + 1)
  pub c : (f : ℕ) → f < n → (slice_index_or faces f no_corners).c ≡ new_of heads places (3 * f + 2)
