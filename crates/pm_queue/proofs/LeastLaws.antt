-- Laws on the least entry, for those who hold a queue.
use Rattle.std.proofs.Common.{◌≡◌, ◌≢◌, ℕ, ◌<◌, ◌≤◌, Some, None, true, false, [], ◌∷◌}
use Rattle.std.proofs.lemmas.Grind.{common_steps}
use Rattle.std.proofs.Common.{length, set, replicate, sym, refl, ap, ◌∙◌, subst, ⊎_elim, arith}
use Rattle.std.proofs.Common.{zero, suc}
use Rattle.std.proofs.lemmas.Bool.{cases_Bool, cases_order, false≢true}
use Rattle.std.proofs.lemmas.List.{get_or_past, get_or-replicate, length-replicate}
use Rattle.std.proofs.lemmas.Option.{none-some, same_Some}
use Rattle.pm_queue.specs.declared.key.Key.{Key}
use Rattle.pm_queue.specs.Keys.{is_before}
use Rattle.pm_queue.specs.Entries.{Entries, key_at, entry_count, IsEmpty, IsLeast}
use Rattle.pm_queue.proofs.EntryLaws.{key_at_in, key_at-set, key_at-set_same, key_at-set_other}
use Rattle.pm_queue.proofs.KeyOrder.{before_asym, before_trans, before_irrefl}

-- ---- the empty map

pub empty_new : (n : ℕ) → IsEmpty (replicate n None)
empty_new n i = grind (arith, common_steps, get_or-replicate, get_or_past, length-replicate, ⊎_elim)

pub empty_at_no_entries : (m : Entries) → entry_count m ≡ 0 → IsEmpty m
empty_at_no_entries [] e i = refl
empty_at_no_entries (None ∷ m) e zero = refl
empty_at_no_entries (None ∷ m) e (suc i) = empty_at_no_entries m e i
empty_at_no_entries (Some k ∷ m) e i = absurd (omega arith)

pub entry_count-empty : (m : Entries) → IsEmpty m → entry_count m ≡ 0
entry_count-empty [] none = refl
entry_count-empty (None ∷ m) none = entry_count-empty m (λ i. none (suc i))
entry_count-empty (Some k ∷ m) none = absurd (none-some k (sym (none 0)))

-- ---- the least entry

-- a map that has a least entry isn't empty
pub least_not_empty : (m : Entries) (d : ℕ × Key) → IsLeast m d → IsEmpty m → ⊥
least_not_empty m d f none = none-some d.1 (sym (none d.0) ∙ f.there)

same_entry : (d e : ℕ × Key) → d.0 ≡ e.0 → d.1 ≡ e.1 → d ≡ e
same_entry (i, k) (j, l) p q = cc

-- there is one at most
pub least_unique : (m : Entries) (d e : ℕ × Key) → IsLeast m d → IsLeast m e → d ≡ e
least_unique m d e f g =
    ⊎_elim
    (λ (same : d.0 ≡ e.0). same_entry d e same (key_same m d.0 e.0 d.1 e.1 same f.there g.there))
    (λ other. ⊎_elim
    (λ l. absurd (false≢true (sym (f.least e.0 e.1 g.there) ∙ g.smallest d.0 d.1 f.there l)))
    (λ l. absurd (false≢true (sym (g.least d.0 d.1 f.there) ∙ f.smallest e.0 e.1 g.there l)))
    other)
    (cases_order d.0 e.0)
  where
    key_same : (m : Entries) (i j : ℕ) (k l : Key) → i ≡ j → key_at m i ≡ Some k →
        key_at m j ≡ Some l → k ≡ l
    key_same m i j k l e p q = let at_j = ap (λ x. key_at m x) e in cc

not_before : (k l : Key) → Some k ≡ Some l → is_before l k ≡ false
not_before k l e = let same = same_Some k l e in
    subst (λ (x : Key). is_before x k ≡ false) same (before_irrefl k)

-- the first key of an empty map
pub least_set_first : (m : Entries) (i : ℕ) (k : Key) → i < length m → IsEmpty m →
    IsLeast (set m i (Some k)) (i, k)
least_set_first m i k lt none = record {
  there = key_at-set_same m i (Some k) lt;
  least = λ j l e. grind (arith, key_at-set m i (Some k) j l e, not_before k l, none j);
  smallest = λ j l e less. grind (arith, key_at-set m i (Some k) j l e, none j);
}

-- an item gets a lesser key than the least
pub least_set_less : (m : Entries) (d : ℕ × Key) (i : ℕ) (k : Key) → IsLeast m d → i < length m →
    is_before k d.1 ≡ true →
    IsLeast (set m i (Some k)) (i, k)
least_set_less m d i k f lt less = record {
  there = key_at-set_same m i (Some k) lt;
  least = λ j l e. grind (
    arith,
    key_at-set m i (Some k) j l e,
    not_before k l,
    before_trans k d.1 l,
    before_asym k d.1,
    f.least j l,
  );
  smallest = λ j l e lower. grind (
    arith,
    key_at-set m i (Some k) j l e,
    before_trans d.1 l k,
    cases_Bool (is_before k l),
    f.least j l,
  );
}

-- an item other than the least's gets a key that isn't less, and is greater if the item is smaller
pub least_set_more : (m : Entries) (d : ℕ × Key) (i : ℕ) (k : Key) → IsLeast m d → i ≢ d.0 →
    is_before k d.1 ≡ false →
    (i < d.0 → is_before d.1 k ≡ true) → IsLeast (set m i (Some k)) d
least_set_more m d i k f ne stays smaller = record {
  there = key_at-set_other m i d.0 (Some k) (λ e. ne (sym e)) ∙ f.there;
  least = λ j l e. grind (arith, key_at-set m i (Some k) j l e, f.least j l);
  smallest = λ j l e lower. grind (arith, key_at-set m i (Some k) j l e, f.smallest j l);
}

-- a smaller item than the least's, or the same, gets the least key
pub least_set_same : (m : Entries) (d : ℕ × Key) (i : ℕ) → IsLeast m d → i ≤ d.0 →
    IsLeast (set m i (Some d.1)) (i, d.1)
least_set_same m d i f le = record {
  there = key_at-set_same m i (Some d.1) (omega (arith, key_at_in m d.0 d.1 f.there));
  least = λ j l e. grind (arith, key_at-set m i (Some d.1) j l e, not_before d.1 l, f.least j l);
  smallest = λ j l e lower. grind (arith, key_at-set m i (Some d.1) j l e, f.smallest j l);
}

-- an item other than the least's loses its key
pub least_set_none : (m : Entries) (d : ℕ × Key) (i : ℕ) → IsLeast m d → i ≢ d.0 →
    IsLeast (set m i None) d
least_set_none m d i f ne = record {
  there = key_at-set_other m i d.0 None (λ e. ne (sym e)) ∙ f.there;
  least = λ j l e. grind (arith, key_at-set m i None j l e, f.least j l);
  smallest = λ j l e lower. grind (arith, key_at-set m i None j l e, f.smallest j l);
}
