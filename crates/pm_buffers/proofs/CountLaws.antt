-- The items that leave or stay, as one list of items that are shown, each once.
use Rattle.std.proofs.Common.{◌≡◌, ◌≢◌, ℕ, ◌+◌, ◌-◌, ◌<◌, ◌≤◌, ◌==◌, ◌⊎◌, ◌++◌, List, length, take}
use Rattle.std.proofs.Common.{Bool, true, false, inl, inr, refl, sym, ap, subst, ◌∙◌, arith}
use Rattle.std.proofs.Common.{length-append}
use Rattle.std.specs.List.{AllPairs, list_any}
use Rattle.std.proofs.lemmas.Bool.{cases_lt}
use Rattle.std.proofs.lemmas.Bool.Decides.{nat_tests}
use Rattle.std.proofs.lemmas.Bool.{and_parts}
use Rattle.std.proofs.lemmas.List.{get_or_default, get_or_append_left, get_or-append_right}
use Rattle.std.proofs.lemmas.List.{take_all}
use Rattle.std.proofs.lemmas.List.Elements.{All-filter, filter_passes}
use Rattle.std.proofs.lemmas.List.Filters.{length-filter_more}
use Rattle.std.proofs.lemmas.List.Folds.{list_any_at, Any-from_list_any}
use Rattle.std.proofs.lemmas.List.Kept.{AllPairs-filter}
use Rattle.pm_buffers.specs.Buffers.{at, is_item, Shows}
use Rattle.pm_buffers.specs.Changes.{Has, IsOnce, IsChange, is_shown, staying, write_count}
use Rattle.pm_buffers.specs.declared.tables.TheConstants.{EMPTY}
use Rattle.pm_buffers.proofs.TableLaws.{within_of}

same_yes : (a b : ℕ) → a ≡ b → (a == b) ≡ true
same_yes a b is = grind (arith, nat_tests)

yes_same : (a b : ℕ) → (a == b) ≡ true → a ≡ b
yes_same a b same = grind (arith, nat_tests)

not_true : (b : Bool) → ¬ (b ≡ true) → b ≡ false
not_true true not = absurd (not refl)
not_true false not = refl

-- ---- the test of what is shown
item_yes : (x : ℕ) → x ≢ EMPTY → is_item x ≡ true
item_yes x item = grind (arith, nat_tests)

yes_item : (x : ℕ) → is_item x ≡ true → x ≢ EMPTY
yes_item x is_one is = grind (arith, nat_tests)

pub shown_yes : (entries : List ℕ) (x : ℕ) → Shows entries x → is_shown entries x ≡ true
shown_yes entries x shown =
    rw (item_yes x shown.1.is_item)
    (list_any_at (λ e. e == x) entries shown.0 EMPTY
    (within_of entries shown.0 (λ no. shown.1.is_item (sym shown.1.there ∙ no)))
    (same_yes (at entries shown.0) x shown.1.there))

pub yes_shown : (entries : List ℕ) (x : ℕ) → is_shown entries x ≡ true → Shows entries x
yes_shown entries x is_one =
    let parts = and_parts (is_item x) (list_any (λ e. e == x) entries) is_one in
    let any = Any-from_list_any (λ e. e == x) entries parts.1 in (
      any.0,
      record {
        is_item = yes_item x parts.0;
        there = get_or_default entries any.0 EMPTY any.1 any.2
            ∙ (any.3 ∙ yes_same any.1 x any.4);
      },
    )

pub hidden_no : (entries : List ℕ) (x : ℕ) → ¬ Shows entries x → is_shown entries x ≡ false
hidden_no entries x hidden =
    not_true (is_shown entries x) (λ e. hidden (yes_shown entries x e))

-- ---- how many of the first items are shown
pub more_staying : (entries put : List ℕ) (k : ℕ) → k < length put
    → is_shown entries (at put k) ≡ true
    → length (staying entries (take (k + 1) put)) ≡ length (staying entries (take k put)) + 1
more_staying entries put k low is =
    rw (length-filter_more (is_shown entries) put k EMPTY low, is) refl

pub same_staying : (entries put : List ℕ) (k : ℕ) → k < length put
    → is_shown entries (at put k) ≡ false
    → length (staying entries (take (k + 1) put)) ≡ length (staying entries (take k put))
same_staying entries put k low is =
    rw (length-filter_more (is_shown entries) put k EMPTY low, is) (omega arith)

pub all_staying : (entries put : List ℕ) (k : ℕ) → length put ≤ k
    → length (staying entries (take k put)) ≡ length (staying entries put)
all_staying entries put k past = ap (λ l. length (staying entries l)) (take_all k put past)

-- while slots are written, an item is to leave or to be put
pub cases_either : (old gone put : List ℕ) (place next count : ℕ)
    → next + length (staying old (take place put)) ≡ place → count ≡ write_count old gone put
    → place < count → (next < length gone) ⊎ (place < length put)
cases_either old gone put place next count stays is low =
    elim (cases_lt place (length put)) [
      | inl in_put ↦ inr in_put
      | inr past ↦ inl (omega (arith, stays, is, low, past, all_staying old put place past))
    ]

-- ---- none twice
pairs_of : (xs : List ℕ) → IsOnce xs → AllPairs (λ x y. x ≢ y) xs
pairs_of xs once i j d before low e =
    once i j before low
    (get_or_default xs i EMPTY d (omega (arith, before, low))
    ∙ (e ∙ get_or_default xs j d EMPTY low))

staying_once : (entries put : List ℕ) → IsOnce put → IsOnce (staying entries put)
staying_once entries put once j k before low =
    AllPairs-filter (λ x y. x ≢ y) (is_shown entries) put (pairs_of put once) j k EMPTY before low

staying_in : (entries put : List ℕ) (k : ℕ) → k < length (staying entries put)
    → Has put (at (staying entries put) k)
staying_in entries put k low =
    All-filter (is_shown entries) (Has put) put
    (λ i d within. (i, within, get_or_default put i EMPTY d within)) k EMPTY low

staying_yes : (entries put : List ℕ) (k : ℕ) → k < length (staying entries put)
    → is_shown entries (at (staying entries put) k) ≡ true
staying_yes entries put k low = filter_passes (is_shown entries) put k EMPTY low

abbrev pub leaving : List ℕ → List ℕ → List ℕ → List ℕ
leaving old gone put = gone ++ staying old put

module _ (old gone put : List ℕ) (change : IsChange old gone put) where
  abbrev all : List ℕ
  all = leaving old gone put

  pub many : length all ≡ length gone + length (staying old put)
  many = length-append gone (staying old put)

  first : (k : ℕ) → k < length gone → at all k ≡ at gone k
  first k low = get_or_append_left gone (staying old put) EMPTY k low

  second : (k : ℕ) → length gone ≤ k → at all k ≡ at (staying old put) (k - length gone)
  second k past = get_or-append_right gone (staying old put) (length gone) k EMPTY refl past

  stays : (k : ℕ) → length gone ≤ k → k < length all
      → Has put (at (staying old put) (k - length gone))
  stays k past low = staying_in old put (k - length gone) (omega (arith, past, low, many))

  pub all_shown : (k : ℕ) → k < length all → Shows old (at all k)
  all_shown k low =
      elim (cases_lt k (length gone)) [
        | inl in_gone ↦ subst (Shows old) (sym (first k in_gone)) (change.shown k in_gone)
        | inr past ↦
            subst (Shows old) (sym (second k past))
            (yes_shown old (at (staying old put) (k - length gone))
            (staying_yes old put (k - length gone) (omega (arith, past, low, many))))
      ]

  pub all_once : IsOnce all
  all_once j k before low e =
      elim (cases_lt k (length gone)) [
        | inl in_gone ↦ change.lists.gone_once j k before in_gone
            (sym (first j (omega (arith, before, in_gone))) ∙ (e ∙ first k in_gone))
        | inr past ↦
            let has = stays k past low in
            elim (cases_lt j (length gone)) [
              | inl in_gone ↦ change.lists.apart j has.0 in_gone has.1
                  (sym (first j in_gone) ∙ (e ∙ (second k past ∙ sym has.2)))
              | inr other ↦
                  staying_once old put change.lists.put_once (j - length gone) (k - length gone)
                  (omega (arith, before, past, other)) (omega (arith, past, low, many))
                  (sym (second j other) ∙ (e ∙ second k past))
            ]
      ]

  pub gone_or_put : (k : ℕ) → k < length all
      → Has gone (at all k) ⊎ Has put (at all k)
  gone_or_put k low =
      elim (cases_lt k (length gone)) [
        | inl in_gone ↦ inl (k, in_gone, sym (first k in_gone))
        | inr past ↦
            let has = stays k past low in
            inr (has.0, has.1, has.2 ∙ sym (second k past))
      ]
