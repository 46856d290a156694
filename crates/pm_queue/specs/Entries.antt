-- What is seen of a queue.
use Rattle.std.specs.Prelude.{◌≡◌, ℕ, ◌+◌, ◌<◌, true, false, Option, Some, None, List, [], ◌∷◌}
use Rattle.std.specs.Prelude.{slice_index_or}
use Rattle.pm_queue.specs.declared.key.Key.{Key}
use Rattle.pm_queue.specs.Keys.{is_before}

-- an optional key for each item, in the order of the items
abbrev pub Entries : Type 0
Entries = List (Option Key)

-- the key of an item
abbrev pub key_at : Entries → ℕ → Option Key
key_at m item = slice_index_or m item None

-- how many items have a key
abbrev pub entry_count : Entries → ℕ
entry_count [] = 0
entry_count (None ∷ m) = entry_count m
entry_count (Some key ∷ m) = entry_count m + 1

-- no item has a key
abbrev pub IsEmpty : Entries → Type 0
IsEmpty m = (item : ℕ) → key_at m item ≡ None

-- the entry's item has the entry's key, no item has a lesser one, and no smaller item has one that
-- isn't greater
pub record IsLeast (m : Entries) (entry : ℕ × Key) : Type 0 where
  pub there : key_at m entry.0 ≡ Some entry.1
  pub least : (item : ℕ) (key : Key) → key_at m item ≡ Some key → is_before key entry.1 ≡ false
  pub smallest : (item : ℕ) (key : Key) → key_at m item ≡ Some key → item < entry.0 →
      is_before entry.1 key ≡ true
