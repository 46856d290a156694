-- Buffers of a renderer: an item in each slot, or none.
use Rattle.std.specs.Prelude.{◌≡◌, ◌≢◌, ℕ, ◌<◌, ◌≤◌, ◌==◌, Bool, not, List, length, replicate}
use Rattle.std.specs.Prelude.{slice_index_or}
use Rattle.std.specs.List.{count_by}
use Rattle.pm_buffers.specs.declared.tables.TheConstants.{EMPTY}

-- What a list has at a place, and EMPTY beyond its end.
abbrev pub at : List ℕ → ℕ → ℕ
at xs k = slice_index_or xs k EMPTY

-- The item in each slot, or EMPTY, for as many slots as there are items; the first `len` of them
-- are the buffer.
pub record Buffer : Type 0 where
  pub entries : List ℕ
  pub len : ℕ

-- The item stands in the slot.
pub record StandsIn (entries : List ℕ) (slot item : ℕ) : Type 0 where
  pub is_item : item ≢ EMPTY
  pub there : at entries slot ≡ item

-- The item stands in some slot.
abbrev pub Shows : List ℕ → ℕ → Type 0
Shows entries item = (slot : ℕ) × StandsIn entries slot item

abbrev pub is_item : ℕ → Bool
is_item x = not (x == EMPTY)

-- How many items are shown.
abbrev pub shown_count : List ℕ → ℕ
shown_count entries = count_by is_item entries

-- A buffer that shows none of these items.
abbrev pub empty_buffer : ℕ → Buffer
empty_buffer items = record { entries = replicate items EMPTY; len = 0 }

-- Each entry is an item or empty, no item stands twice, and from `len` on all is empty. EMPTY is
-- no item's number.
pub record IsBuffer (b : Buffer) : Type 0 where
  pub items : (s : ℕ) → at b.entries s ≢ EMPTY → at b.entries s < length b.entries
  pub once : (s t : ℕ) → at b.entries s ≢ EMPTY → at b.entries s ≡ at b.entries t → s ≡ t
  pub beyond : (s : ℕ) → b.len ≤ s → at b.entries s ≡ EMPTY
  pub shown : shown_count b.entries ≤ b.len
  pub len : b.len ≤ length b.entries
  pub few : length b.entries ≤ EMPTY
