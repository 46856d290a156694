-- What a change makes of a buffer.
use Rattle.std.specs.Prelude.{◌≡◌, ◌≢◌, ℕ, ◌+◌, ◌<◌, ◌↔◌, ◌⊎◌, ◌==◌, ◌&&◌, Bool, max, List}
use Rattle.std.specs.Prelude.{length, filter}
use Rattle.std.specs.List.{list_any}
use Rattle.pm_buffers.specs.Buffers.{at, is_item, StandsIn, Shows}
use Rattle.pm_buffers.specs.declared.slots.ChangeFail.{ChangeFail}
use Rattle.pm_buffers.specs.declared.slots.ChangeFail.TheVariants as fails

-- The list has the number.
abbrev pub Has : List ℕ → ℕ → Type 0
Has xs x = (k : ℕ) × (k < length xs) × (at xs k ≡ x)

-- The list has no number twice.
abbrev pub IsOnce : List ℕ → Type 0
IsOnce xs = (j k : ℕ) → j < k → k < length xs → at xs j ≢ at xs k

-- Each item of the list is shown.
abbrev pub AreShown : List ℕ → List ℕ → Type 0
AreShown entries gone = (k : ℕ) → k < length gone → Shows entries (at gone k)

-- Each item of the list is one of those that the buffer is for.
abbrev pub AreWithin : List ℕ → List ℕ → Type 0
AreWithin entries put = (k : ℕ) → k < length put → at put k < length entries

-- No item stands twice in the two lists.
pub record AreApart (gone put : List ℕ) : Type 0 where
  pub gone_once : IsOnce gone
  pub put_once : IsOnce put
  pub apart : (j k : ℕ) → j < length gone → k < length put → at gone j ≢ at put k

-- Items that can leave, and items that can be put: shown ones, and any others.
pub record IsChange (entries gone put : List ℕ) : Type 0 where
  pub shown : AreShown entries gone
  pub within : AreWithin entries put
  pub lists : AreApart gone put

-- The items of the list that are shown already.
abbrev pub is_shown : List ℕ → ℕ → Bool
is_shown entries x = is_item x && list_any (λ e. e == x) entries

abbrev pub staying : List ℕ → List ℕ → List ℕ
staying entries put = filter (is_shown entries) put

-- How many slots a change writes: one for each item put, and, if those that leave are more than
-- those that come, one for each that leaves or stays.
abbrev pub write_count : List ℕ → List ℕ → List ℕ → ℕ
write_count entries gone put = max (length put) (length gone + length (staying entries put))

-- Why a change is refused, where there is room for so many writes.
abbrev pub IsRefused : List ℕ → List ℕ → List ℕ → ℕ → ChangeFail → Type 0
IsRefused entries gone put room fails.NotAChange = ¬ IsChange entries gone put
IsRefused entries gone put room (fails.NoRoom count) =
    IsChange entries gone put × (count ≡ write_count entries gone put) × (room < count)

-- What is shown then: the items put, and those that were shown and aren't gone.
abbrev pub AreChanged : List ℕ → List ℕ → List ℕ → List ℕ → Type 0
AreChanged old gone put now =
    (x : ℕ) → Shows now x ↔ (Has put x ⊎ (Shows old x × ¬ Has gone x))

-- Who was shown and isn't gone has the slot that it had.
abbrev pub AreKept : List ℕ → List ℕ → List ℕ → Type 0
AreKept old gone now = (s x : ℕ) → StandsIn old s x → ¬ Has gone x → StandsIn now s x

-- The slots whose entries differ, or that have an item that is put, each once.
pub record AreWritten (old put now slots : List ℕ) : Type 0 where
  pub once : IsOnce slots
  pub told : (s : ℕ) → Has slots s ↔ ((at old s ≢ at now s) ⊎ Has put (at now s))

-- The first slots are those of the items put, in their order, and the others are left empty.
abbrev pub AreInOrder : List ℕ → List ℕ → List ℕ → ℕ → Type 0
AreInOrder put now slots count = (k : ℕ) → k < count → at now (at slots k) ≡ at put k
