-- What crosses to C of a renderer's buffer.
use Rattle.std.specs.Prelude.{◌≡◌, ℕ, ◌<◌, ◌⊎◌, List, length, max, take, drop, Some, IsSome}
use Rattle.pm_buffers.specs.Buffers.{at, Buffer, IsBuffer, StandsIn, Shows, shown_count}
use Rattle.pm_buffers.specs.Changes.{IsChange, AreChanged, AreKept, AreInOrder, AreWritten}
use Rattle.pm_buffers.specs.Changes.{write_count}
use Rattle.vdpm_c.specs.declared.tables.BufferHandle.{BufferHandle}
use Rattle.vdpm_c.specs.declared.tables.SlotSizes.{SlotSizes}

-- A handle that is open has a buffer. C owes it, and each function leaves it so.
abbrev pub IsReady : BufferHandle → Type 0
IsReady handle = handle.open ≡ 1 → IsSome handle.slot.value

-- The handle is open, with this buffer.
abbrev pub HasBuffer : BufferHandle → Buffer → Type 0
HasBuffer handle b = (handle.open ≡ 1) × (handle.slot.value ≡ Some b)

-- What a change of a buffer came to: what is shown then, and in which slots; which slots are told,
-- in which order, and how many.
pub record AreSlotsChanged (old : Buffer) (gone put : List ℕ) (now : Buffer)
    (sizes : SlotSizes) (writes_old writes : List ℕ) : Type 0 where
  pub change : IsChange old.entries gone put
  pub buffer : IsBuffer now
  pub same_items : length now.entries ≡ length old.entries
  pub shown : AreChanged old.entries gone put now.entries
  pub kept : AreKept old.entries gone now.entries
  pub each : AreInOrder put now.entries writes sizes.written
  pub written : AreWritten old.entries put now.entries (take sizes.written writes)
  pub fewest : sizes.written ≡ write_count old.entries gone put
  pub behind : drop sizes.written writes ≡ drop sizes.written writes_old
  pub length_told : sizes.length ≡ now.len
  pub grows : now.len ≡ max old.len (shown_count now.entries)

-- What is told where there is too little room for a change.
abbrev pub sizes_wanted : Buffer → List ℕ → List ℕ → SlotSizes
sizes_wanted b gone put = record { written = write_count b.entries gone put; length = b.len }

-- The number told of an item is its slot, or 4,294,967,295 where it isn't shown.
abbrev pub IsSlotOf : List ℕ → ℕ → ℕ → Type 0
IsSlotOf entries item slot =
    StandsIn entries slot item ⊎ ((slot ≡ 4294967295) × ¬ Shows entries item)

-- The numbers in front are the slots of these items, and what stands behind them is as it was.
pub record AreSlotsOf (entries items old new : List ℕ) : Type 0 where
  pub each : (k : ℕ) → k < length items → IsSlotOf entries (at items k) (at new k)
  pub behind : drop (length items) new ≡ drop (length items) old
