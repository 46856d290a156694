-- Records that a set needs, how often its records do, and what remains of a set once some
-- records are gone.
use Rattle.std.specs.Prelude.{◌≡◌, ℕ, zero, suc, ◌+◌, ◌<◌, Bool, cond, ◌&&◌, not, List, ◌∷◌, map}
use Rattle.std.specs.Prelude.{filter, length, Option, None, Some, [], IfSome, slice_index_or}
use Rattle.std.specs.List.{All}
use Rattle.pm_base.specs.declared.ids.Side.{Side}
use Rattle.pm_forest.specs.Forest.{Hierarchy, record_at, record_count, s_of, maker_of}
use Rattle.pm_forest.specs.Faces.{record_of}
use Rattle.pm_forest.specs.Moves.{neighbours_of}
use Rattle.pm_beyond.specs.Moves.{is_at, needs}
use Rattle.pm_beyond.specs.Targets.{any_below}

-- Some record of T needs record k.
abbrev pub is_needed : Hierarchy → (ℕ → Bool) → ℕ → Bool
is_needed h T k = any_below (λ j. T j && needs h j k) (record_count h)

-- Record k is split, and no split record needs it.
abbrev pub is_unneeded : Hierarchy → (ℕ → Bool) → ℕ → Bool
is_unneeded h T k = T k && not (is_needed h T k)

-- What record j needs, once for each reason: the record that made its node, and those that reveal
-- the faces of its recorded neighbours.
abbrev pub needed_by : Hierarchy → ℕ → List (Option ℕ)
needed_by h j = maker_of h (s_of h j) ∷ map (λ e. record_of h e) (neighbours_of (record_at h j))

-- The record that reveals the face of a recorded neighbour, if there is one.
abbrev pub revealer_of : Hierarchy → Option Side → Option ℕ
revealer_of h None = None
revealer_of h (Some side) = record_of h side.0

-- How often record k is among these needs.
abbrev pub times_in : ℕ → List (Option ℕ) → ℕ
times_in k needed = length (filter (is_at k) needed)

-- How often record j needs record k.
abbrev pub times_needed : Hierarchy → ℕ → ℕ → ℕ
times_needed h j k = times_in k (needed_by h j)

-- These are what record k needs, in some order, each below the number of records. None stands where
-- nothing is needed.
pub record AreNeedsOf (h : Hierarchy) (k : ℕ) (needed : List (Option ℕ)) : Type 0 where
  pub there : All (λ need. IfSome need (λ j. j < record_count h)) needed
  pub times : (j : ℕ) → times_in j needed ≡ times_needed h k j

-- A row for each record: what it needs.
pub record AreNeeds (h : Hierarchy) (rows : List (List (Option ℕ))) : Type 0 where
  pub len : length rows ≡ record_count h
  pub each : (k : ℕ) → k < record_count h → AreNeedsOf h k (slice_index_or rows k [])

-- How often those of the first n records that are in T need record k.
unfoldable pub needed_below : Hierarchy → (ℕ → Bool) → ℕ → ℕ → ℕ
needed_below h T k zero = 0
needed_below h T k (suc n) = cond (T n) (times_needed h n k) 0 + needed_below h T k n

-- How often the records of T need record k. It is zero exactly where none of them needs it.
abbrev pub need_count : Hierarchy → (ℕ → Bool) → ℕ → ℕ
need_count h T k = needed_below h T k (record_count h)

-- The counts of all records.
pub record AreNeedCounts (h : Hierarchy) (T : ℕ → Bool) (counts : List ℕ) : Type 0 where
  pub len : length counts ≡ record_count h
  pub each : (k : ℕ) → k < record_count h → slice_index_or counts k 0 ≡ need_count h T k

-- The count of each record goes up by how often it is among these needs.
pub record AreRaised (old new : List ℕ) (needed : List (Option ℕ)) : Type 0 where
  pub len : length new ≡ length old
  pub each : (k : ℕ) → k < length old
      → slice_index_or new k 0 ≡ slice_index_or old k 0 + times_in k needed

-- The records of S but those that are gone.
abbrev pub remaining : (ℕ → Bool) → (ℕ → Bool) → ℕ → Bool
remaining S gone k = S k && not (gone k)
