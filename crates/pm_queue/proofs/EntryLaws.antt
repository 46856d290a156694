-- Laws on the keys of a queue's items, and on how many have one, for those who hold a queue.
use Rattle.std.proofs.Common.{◌≡◌, ◌≢◌, ℕ, ◌+◌, ◌<◌, ◌≤◌, Option, Some, None, false, [], ◌∷◌}
use Rattle.std.proofs.lemmas.Grind.{common_steps}
use Rattle.std.proofs.Common.{length, set, replicate, sym, refl, ap, ◌∙◌, ⊎_elim, arith}
use Rattle.std.proofs.Common.{get_or-set_other, get_or-set_same, length-set, ◌⊎◌, zero}
use Rattle.std.proofs.Common.{suc}
use Rattle.std.specs.Option.{is_some}
use Rattle.std.proofs.lemmas.Bool.{cases_lt, false≢true}
use Rattle.std.proofs.lemmas.List.{get_or_past}
use Rattle.std.proofs.lemmas.Option.{none-some}
use Rattle.pm_queue.specs.declared.key.Key.{Key}
use Rattle.pm_queue.specs.Entries.{Entries, key_at, entry_count, IsLeast}

-- ---- the key of an item

pub key_at-set_same : (m : Entries) (i : ℕ) (o : Option Key) → i < length m →
    key_at (set m i o) i ≡ o
key_at-set_same m i o l = get_or-set_same m i o None l

pub key_at-set_other : (m : Entries) (i j : ℕ) (o : Option Key) → j ≢ i →
    key_at (set m i o) j ≡ key_at m j
key_at-set_other m i j o ne = get_or-set_other m i j o None ne

-- an item that has a key is one of the items
pub key_at_in : (m : Entries) (i : ℕ) (k : Key) → key_at m i ≡ Some k → i < length m
key_at_in m i k e =
    ⊎_elim (λ l. l) (λ g. absurd (none-some k (sym (get_or_past m i None g) ∙ e)))
    (cases_lt i (length m))

-- the key of an item, once one item's key is replaced
pub key_at-set : (m : Entries) (i : ℕ) (o : Option Key) (j : ℕ) (l : Key) →
    key_at (set m i o) j ≡ Some l →
    ((j ≡ i) × (o ≡ Some l)) ⊎ (key_at m j ≡ Some l)
key_at-set m i o j l e =
    grind (
      arith,
      common_steps,
      get_or_past,
      key_at-set_other,
      key_at-set_same,
      length-set,
      none-some,
      ⊎_elim,
    )

pub no_key : (o : Option Key) → is_some o ≡ false → o ≡ None
no_key None e = refl
no_key (Some k) e = absurd (false≢true (sym e))

-- taking a key away from an item that has none changes nothing
pub set-absent : (m : Entries) (i : ℕ) → key_at m i ≡ None → set m i None ≡ m
set-absent [] i e = refl
set-absent (o ∷ m) zero e = ap (λ k. k ∷ m) (sym e)
set-absent (o ∷ m) (suc i) e = ap (λ k. o ∷ k) (set-absent m i e)

-- ---- how many items have a key

pub entry_count-replicate : (n : ℕ) → entry_count (replicate n None) ≡ 0
entry_count-replicate zero = refl
entry_count-replicate (suc n) = entry_count-replicate n

pub entry_count_most : (m : Entries) → entry_count m ≤ length m
entry_count_most [] = omega arith
entry_count_most (None ∷ m) = omega (arith, entry_count_most m)
entry_count_most (Some k ∷ m) = omega (arith, entry_count_most m)

-- one more once an item that had no key gets one
pub entry_count-set_new : (m : Entries) (i : ℕ) (k : Key) → i < length m → key_at m i ≡ None →
    entry_count (set m i (Some k)) ≡ entry_count m + 1
entry_count-set_new [] i k l e = absurd (omega arith)
entry_count-set_new (None ∷ m) zero k l e = refl
entry_count-set_new (Some j ∷ m) zero k l e = absurd (none-some j (sym e))
entry_count-set_new (None ∷ m) (suc i) k l e = entry_count-set_new m i k (omega arith) e
entry_count-set_new (Some j ∷ m) (suc i) k l e =
    omega (arith, entry_count-set_new m i k (omega arith) e)

-- as many once an item's key is replaced
pub entry_count-set_again : (m : Entries) (i : ℕ) (k l : Key) → key_at m i ≡ Some l →
    entry_count (set m i (Some k)) ≡ entry_count m
entry_count-set_again [] i k l e = absurd (none-some l e)
entry_count-set_again (None ∷ m) zero k l e = absurd (none-some l e)
entry_count-set_again (Some j ∷ m) zero k l e = refl
entry_count-set_again (None ∷ m) (suc i) k l e = entry_count-set_again m i k l e
entry_count-set_again (Some j ∷ m) (suc i) k l e = omega (arith, entry_count-set_again m i k l e)

-- one fewer once an item that has a key loses it
pub entry_count-set_none : (m : Entries) (i : ℕ) (k : Key) → key_at m i ≡ Some k →
    entry_count (set m i None) + 1 ≡ entry_count m
entry_count-set_none [] i k e = absurd (none-some k e)
entry_count-set_none (None ∷ m) zero k e = absurd (none-some k e)
entry_count-set_none (Some l ∷ m) zero k e = refl
entry_count-set_none (None ∷ m) (suc i) k e = entry_count-set_none m i k e
entry_count-set_none (Some l ∷ m) (suc i) k e = omega (arith, entry_count-set_none m i k e)

-- a loop that takes a least entry at each turn comes to its end
pub entry_count_falls : (m : Entries) (entry : ℕ × Key) → IsLeast m entry →
    entry_count (set m entry.0 None) < entry_count m
entry_count_falls m entry least = omega (arith, entry_count-set_none m entry.0 entry.1 least.there)
