-- How slots hold the items of vertices.
use Rattle.std.specs.Prelude.{◌≡◌, ◌≢◌, ℕ, true, List, slice_index_or, slice_set}
use Rattle.pm_runs.specs.Surfaces.{Surface, is_live}

-- By vertex number the slot, and by slot what stands there.
pub record Slotted (T : Type 0) : Type 0 where
  pub slots : List ℕ
  pub items : List T

-- The slot of a vertex.
abbrev pub slot_at : {T : Type 0} → Slotted T → ℕ → ℕ
slot_at t v = slice_index_or t.slots v 0

-- What a vertex has, or `none` where it has no slot.
abbrev pub item_at : {T : Type 0} → Slotted T → ℕ → T → T
item_at t v none = slice_index_or t.items (slot_at t v) none

-- No two live vertices have the same slot.
abbrev pub HaveOwnSlots : Surface → List ℕ → Type 0
HaveOwnSlots s slots =
    (v w : ℕ) → is_live s v ≡ true → is_live s w ≡ true →
    slice_index_or slots v 0 ≡ slice_index_or slots w 0 → v ≡ w

-- Vertex k has an item in the slot of a; what stood in another slot still does.
pub record IsPut {T : Type 0} (old : Slotted T) (a k : ℕ) (item : T) (new : Slotted T) : Type 0
  where
    pub slots : new.slots ≡ slice_set old.slots k (slot_at old a)
    pub made : (none : T) → item_at new k none ≡ item
    pub others : (v : ℕ) (none : T) → v ≢ k → slot_at old v ≢ slot_at old a →
        item_at new v none ≡ item_at old v none
