-- The tables behind a buffer.
use Rattle.std.specs.Prelude.{◌≡◌, ◌≢◌, ℕ, ◌+◌, ◌<◌, ◌≤◌, List, length, Bool, false, slice_index_or}
use Rattle.pm_buffers.specs.Buffers.{at, shown_count}
use Rattle.pm_buffers.specs.declared.tables.TheConstants.{EMPTY}

-- Where one table leads to a number, the other leads back.
abbrev pub LeadsBack : List ℕ → List ℕ → Type 0
LeadsBack to from = (x s : ℕ) → x ≢ EMPTY → s ≢ EMPTY → at to x ≡ s → at from s ≡ x

-- The first numbers of the list are slots below `len` that are empty, each once.
pub record AreHoles (entries : List ℕ) (len : ℕ) (holes : List ℕ) (count : ℕ) : Type 0 where
  pub room : length holes ≡ length entries
  pub low : (k : ℕ) → k < count → at holes k < len
  pub empty : (k : ℕ) → k < count → at entries (at holes k) ≡ EMPTY
  pub once : (j k : ℕ) → j < k → k < count → at holes j ≢ at holes k

-- The slot of each item and the item of each slot, with the holes between them.
pub record AreTables (slots entries : List ℕ) (len : ℕ) (empty : List ℕ) (count : ℕ) : Type 0 where
  pub same : length slots ≡ length entries
  pub few : length entries ≤ EMPTY
  pub forth : LeadsBack slots entries
  pub back : LeadsBack entries slots
  pub counts : shown_count slots ≡ shown_count entries
  pub balance : count + shown_count entries ≡ len
  pub bound : len ≤ length entries
  pub beyond : (s : ℕ) → len ≤ s → at entries s ≡ EMPTY
  pub holes : AreHoles entries len empty count

-- No flag is set.
abbrev pub AreClear : List Bool → Type 0
AreClear marks = (x : ℕ) → slice_index_or marks x false ≡ false
