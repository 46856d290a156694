-- What callers see of a `Links`: how many items there are, and the list of each head.
use Rattle.std.specs.Prelude.{◌≡◌, ℕ, ◌<◌, ◌≤◌, Bool, true, false, not, ◌||◌, nat_eq, Option, Some}
use Rattle.std.specs.Prelude.{None, if◌then◌else◌, List, [], ◌∷◌, ◌++◌, length, filter, map}
use Rattle.std.specs.Prelude.{replicate, slice_index_or, slice_set, take, drop}
use Rattle.pm_links.specs.declared.links.TheConstants.{LIMIT}

pub record Lists : Type 0 where
  pub items : ℕ
  pub lists : List (List ℕ)

-- the list of head h, and no item past the last head
abbrev pub list_of : Lists → ℕ → List ℕ
list_of v h = slice_index_or v.lists h []

-- whether a list has the item
abbrev pub has : List ℕ → ℕ → Bool
has [] x = false
has (y ∷ ys) x = nat_eq y x || has ys x

-- no item stands twice
abbrev pub IsOnce : List ℕ → Type 0
IsOnce [] = Unit {0}
IsOnce (x ∷ xs) = (has xs x ≡ false) × IsOnce xs

-- the list with the item taken out
abbrev pub list_without : ℕ → List ℕ → List ℕ
list_without x xs = filter (λ y. not (nat_eq y x)) xs

-- the first item
abbrev pub first_of : List ℕ → Option ℕ
first_of [] = None
first_of (x ∷ xs) = Some x

-- the items that stand after the item
abbrev pub after : ℕ → List ℕ → List ℕ
after x [] = []
after x (y ∷ ys) = if nat_eq y x then ys else after x ys

-- what a walk that has come to this item still has to see
abbrev pub rest_of_walk : Option ℕ → List ℕ → List ℕ
rest_of_walk None xs = []
rest_of_walk (Some x) xs = x ∷ after x xs

-- what stands in a room in the places before `front` and in those from `back` on
abbrev pub gathered : List ℕ → ℕ → ℕ → List ℕ
gathered room front back = take front room ++ drop back room

-- the list begins with these
abbrev pub AreFirst : List ℕ → List ℕ → Type 0
AreFirst begin xs = begin ≡ take (length begin) xs

-- the table with v at each of the items xs
abbrev pub set_all : List ℕ → List ℕ → ℕ → List ℕ
set_all table [] v = table
set_all table (x ∷ xs) v = set_all (slice_set table x v) xs v

-- the item is in some list
abbrev pub IsHeld : Lists → ℕ → Type 0
IsHeld v x = (h : ℕ) × (has (list_of v h) x ≡ true)

-- the item is in no list
abbrev pub IsFree : Lists → ℕ → Type 0
IsFree v x = (h : ℕ) → has (list_of v h) x ≡ false

-- n items and m empty lists
abbrev pub empty_lists : ℕ → ℕ → Lists
empty_lists n m = record { items = n; lists = replicate m [] }

-- the lists with xs as the list of head h
abbrev pub with_list : Lists → ℕ → List ℕ → Lists
with_list v h xs = record { items = v.items; lists = slice_set v.lists h xs }

-- the lists with the item first in the list of head h
abbrev pub with_first : Lists → ℕ → ℕ → Lists
with_first v h x = with_list v h (x ∷ list_of v h)

-- the lists with the items of `from`, in order, before those of `to`
abbrev pub with_moved : Lists → ℕ → ℕ → Lists
with_moved v from to = with_list (with_list v to (list_of v from ++ list_of v to)) from []

-- the lists with the item in none of them
abbrev pub without_item : Lists → ℕ → Lists
without_item v x = record { items = v.items; lists = map (list_without x) v.lists }

-- what holds of the lists of every `Links`
pub record IsSound (v : Lists) : Type 0 where
  pub small : v.items ≤ LIMIT
  pub few_heads : length v.lists ≤ LIMIT
  pub few : (h : ℕ) → length (list_of v h) ≤ v.items
  pub in_range : (h x : ℕ) → has (list_of v h) x ≡ true → x < v.items
  pub once : (h : ℕ) → IsOnce (list_of v h)
  pub apart : (g h x : ℕ) → has (list_of v g) x ≡ true → has (list_of v h) x ≡ true → g ≡ h
