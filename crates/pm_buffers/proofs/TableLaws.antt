-- The tables of a buffer after an item has left a slot, or come into one.
use Rattle.std.proofs.Common.{◌≡◌, ◌≢◌, ℕ, ◌+◌, ◌<◌, ◌≤◌, List, length, set, cond}
use Rattle.std.proofs.Common.{inl, inr, refl, sym, ap, subst, ◌∙◌, arith, length-set}
use Rattle.std.proofs.lemmas.Bool.{cases_eq, cases_lt}
use Rattle.std.proofs.lemmas.List.{get_or_past, get_or-set_other, set-set}
use Rattle.std.proofs.lemmas.List.Sums.{sum_by-set, count_by-le-length}
use Rattle.std.proofs.lemmas.Grind.{get_or-set_at}
use Rattle.std.proofs.lemmas.Bool.Decides.{nat_tests}
use Rattle.pm_buffers.specs.Buffers.{at, is_item, shown_count, StandsIn, Shows, IsBuffer}
use Rattle.pm_buffers.specs.Tables.{LeadsBack, AreHoles, AreTables}
use Rattle.pm_buffers.specs.declared.tables.TheConstants.{EMPTY}

pub at_set : (l : List ℕ) (i v j : ℕ) → j ≡ i → i < length l → at (set l i v) j ≡ v
at_set l i v j is within = get_or-set_at l i j v EMPTY is within

pub at_set_other : (l : List ℕ) (i v j : ℕ) → j ≢ i → at (set l i v) j ≡ at l j
at_set_other l i v j other = get_or-set_other l i j v EMPTY other

pub at_past : (l : List ℕ) (j : ℕ) → length l ≤ j → at l j ≡ EMPTY
at_past l j past = grind (arith, get_or_past)

-- what stands somewhere is within
pub within_of : (l : List ℕ) (j : ℕ) → at l j ≢ EMPTY → j < length l
within_of l j some =
    elim (cases_lt j (length l)) [
      | inl low ↦ low
      | inr past ↦ absurd (some (at_past l j past))
    ]

-- ---- how many are shown
abbrev weight : ℕ → ℕ
weight x = cond (is_item x) 1 0

weight_item : (x : ℕ) → x ≢ EMPTY → weight x ≡ 1
weight_item x is = grind (arith, nat_tests)

weight_empty : (x : ℕ) → x ≡ EMPTY → weight x ≡ 0
weight_empty x is = grind (arith, nat_tests)

pub count_came : (l : List ℕ) (i v : ℕ) → i < length l → at l i ≡ EMPTY → v ≢ EMPTY
    → shown_count (set l i v) ≡ shown_count l + 1
count_came l i v within was new =
    omega (
      arith,
      sum_by-set weight l i v EMPTY within,
      weight_empty (at l i) was,
      weight_item v new,
    )

pub count_left : (l : List ℕ) (i : ℕ) → i < length l → at l i ≢ EMPTY
    → shown_count (set l i EMPTY) + 1 ≡ shown_count l
count_left l i within was =
    omega (
      arith,
      sum_by-set weight l i EMPTY EMPTY within,
      weight_empty EMPTY refl,
      weight_item (at l i) was,
    )

pub count_same : (l : List ℕ) (i v : ℕ) → i < length l → at l i ≢ EMPTY → v ≢ EMPTY
    → shown_count (set l i v) ≡ shown_count l
count_same l i v within was new =
    omega (
      arith,
      sum_by-set weight l i v EMPTY within,
      weight_item v new,
      weight_item (at l i) was,
    )

-- ---- where one table leads
left_leads : (to from : List ℕ) (x s : ℕ) → LeadsBack to from → x < length to → at to x ≡ s
    → x ≢ EMPTY → s ≢ EMPTY → LeadsBack (set to x EMPTY) (set from s EMPTY)
left_leads to from x s forth low there is_x is_s y t is_y is_t leads =
    elim (cases_eq y x) [
      | inl same ↦ absurd (is_t (sym leads ∙ at_set to x EMPTY y same low))
      | inr other ↦
          let was : at from t ≡ y =
          forth y t is_y is_t (sym (at_set_other to x EMPTY y other) ∙ leads) in
          let apart : t ≢ s =
          λ e. other (sym was ∙ (ap (at from) e ∙ forth x s is_x is_s there)) in
          at_set_other from s EMPTY t apart ∙ was
    ]

came_leads : (to from : List ℕ) (x s : ℕ) → LeadsBack to from → x < length to → s < length from
    → at from s ≡ EMPTY → LeadsBack (set to x s) (set from s x)
came_leads to from x s forth low_x low_s no_s y t is_y is_t leads =
    elim (cases_eq y x) [
      | inl same ↦
          at_set from s x t (sym leads ∙ at_set to x s y same low_x) low_s ∙ sym same
      | inr other ↦
          let was : at from t ≡ y =
          forth y t is_y is_t (sym (at_set_other to x s y other) ∙ leads) in
          let apart : t ≢ s = λ e. is_y (sym was ∙ (ap (at from) e ∙ no_s)) in
          at_set_other from s x t apart ∙ was
    ]

module _ (slots entries : List ℕ) (len : ℕ) (holes : List ℕ) (count : ℕ)
    (are : AreTables slots entries len holes count) where
  pub item_real : (x : ℕ) → x < length entries → x ≢ EMPTY
  item_real x low = omega (arith, are.few)

  slot_real : (s : ℕ) → at entries s ≢ EMPTY → s ≢ EMPTY
  slot_real s some = item_real s (within_of entries s some)

  slot_is : (x : ℕ) (shown : Shows entries x) → at slots x ≡ shown.0
  slot_is x shown =
      let some : at entries shown.0 ≢ EMPTY =
      λ e. shown.1.is_item (sym shown.1.there ∙ e) in
      are.back shown.0 x (slot_real shown.0 some) shown.1.is_item shown.1.there

  pub slot_there : (x : ℕ) → Shows entries x → at entries (at slots x) ≡ x
  slot_there x shown = ap (at entries) (slot_is x shown) ∙ shown.1.there

  slot_some : (x : ℕ) → Shows entries x → at entries (at slots x) ≢ EMPTY
  slot_some x shown e = shown.1.is_item (sym (slot_there x shown) ∙ e)

  pub slot_low : (x : ℕ) → Shows entries x → at slots x < length entries
  slot_low x shown = within_of entries (at slots x) (slot_some x shown)

  pub shown_low : (x : ℕ) → Shows entries x → x < length slots
  shown_low x shown =
      within_of slots x (item_real (at slots x) (slot_low x shown))

  pub slot_shows : (x : ℕ) → x ≢ EMPTY → at slots x ≢ EMPTY → StandsIn entries (at slots x) x
  slot_shows x is_x is_s = record {
    is_item = is_x;
    there = are.forth x (at slots x) is_x is_s refl;
  }

  pub hidden_empty : (x : ℕ) → x < length entries → ¬ Shows entries x → at slots x ≡ EMPTY
  hidden_empty x low hidden =
      elim (cases_eq (at slots x) EMPTY) [
        | inl is ↦ is
        | inr some ↦ absurd (hidden (at slots x, slot_shows x (item_real x low) some))
      ]

  pub shown_empty : (x : ℕ) → at slots x ≡ EMPTY → ¬ Shows entries x
  shown_empty x is shown = item_real (at slots x) (slot_low x shown) is

  shows_entry : (s : ℕ) → at entries s ≢ EMPTY → Shows entries (at entries s)
  shows_entry s some = (s, record { is_item = some; there = refl })

  pub slot_taken : (s : ℕ) → at entries s ≢ EMPTY → s < len
  slot_taken s some =
      elim (cases_lt s len) [
        | inl low ↦ low
        | inr past ↦ absurd (some (are.beyond s past))
      ]

  pub is_buffer : IsBuffer (record { entries = entries; len = len })
  unfolding shows_entry
  is_buffer = record {
    items = λ s some. omega (arith, shown_low (at entries s) (shows_entry s some), are.same);
    once = λ s t some same.
        sym (slot_is (at entries s) (shows_entry s some))
        ∙ slot_is (at entries s) (t, record { is_item = some; there = sym same });
    beyond = are.beyond;
    shown = omega (arith, are.balance);
    len = are.bound;
    few = are.few;
  }

  -- ---- an item leaves its slot
  module _ (x : ℕ) (shown : Shows entries x) where
    abbrev slot : ℕ
    slot = at slots x

    pub room_left : count < length holes
    room_left =
        omega (
          arith,
          are.balance,
          are.bound,
          are.holes.room,
          count_left entries slot (slot_low x shown) (slot_some x shown),
        )

    abbrev left_slots : List ℕ
    left_slots = set slots x EMPTY

    abbrev left_entries : List ℕ
    left_entries = set entries slot EMPTY

    left_stays : (t : ℕ) → at entries t ≡ EMPTY → at left_entries t ≡ EMPTY
    left_stays t was =
        at_set_other entries slot EMPTY t (λ e. slot_some x shown (ap (at entries) (sym e) ∙ was))
        ∙ was

    slot_item : slot ≢ EMPTY
    slot_item = item_real slot (slot_low x shown)

    left_forth : LeadsBack left_slots left_entries
    left_forth =
        left_leads slots entries x slot are.forth (shown_low x shown) refl shown.1.is_item slot_item

    left_back : LeadsBack left_entries left_slots
    left_back =
        left_leads entries slots slot x are.back (slot_low x shown) (slot_there x shown) slot_item
        shown.1.is_item

    holes_left : AreHoles left_entries len (set holes count slot) (count + 1)
    holes_left = record {
      room = omega (
        arith,
        length-set holes count slot,
        length-set entries slot EMPTY,
        are.holes.room,
      );
      low = λ k low.
          elim (cases_eq k count) [
            | inl is ↦ rw (at_set holes count slot k is room_left)
                (slot_taken slot (slot_some x shown))
            | inr other ↦ rw (at_set_other holes count slot k other)
                (are.holes.low k (omega (arith, low, other)))
          ];
      empty = λ k low.
          elim (cases_eq k count) [
            | inl is ↦ rw (at_set holes count slot k is room_left)
                (at_set entries slot EMPTY slot refl (slot_low x shown))
            | inr other ↦ rw (at_set_other holes count slot k other)
                (left_stays (at holes k) (are.holes.empty k (omega (arith, low, other))))
          ];
      once = λ j k before low.
          let below : at (set holes count slot) j ≡ at holes j =
          at_set_other holes count slot j (omega (arith, before, low)) in
          elim (cases_eq k count) [
            | inl is ↦ λ e.
                slot_some x shown
                (ap (at entries) (sym (sym below ∙ (e ∙ at_set holes count slot k is room_left)))
                ∙ are.holes.empty j (omega (arith, before, is)))
            | inr other ↦ λ e.
                are.holes.once j k before (omega (arith, low, other))
                (sym below ∙ (e ∙ at_set_other holes count slot k other))
          ];
    }

    pub counts_left : shown_count left_entries + 1 ≡ shown_count entries
    counts_left = count_left entries slot (slot_low x shown) (slot_some x shown)

    pub slots_left : shown_count left_slots + 1 ≡ shown_count slots
    slots_left = count_left slots x (shown_low x shown) slot_item

    pub tables_left : AreTables left_slots left_entries len (set holes count slot) (count + 1)
    tables_left = record {
      same = omega (arith, length-set slots x EMPTY, length-set entries slot EMPTY, are.same);
      few = omega (arith, length-set entries slot EMPTY, are.few);
      forth = left_forth;
      back = left_back;
      counts = omega (arith, counts_left, slots_left, are.counts);
      balance = omega (arith, counts_left, are.balance);
      bound = omega (arith, length-set entries slot EMPTY, are.bound);
      beyond = λ s past. left_stays s (are.beyond s past);
      holes = holes_left;
    }

    -- and another one comes into it
    module _ (y : ℕ) (y_low : y < length entries) (hidden : ¬ Shows entries y) where
      abbrev new_slots : List ℕ
      new_slots = set left_slots y slot

      abbrev new_entries : List ℕ
      new_entries = set entries slot y

      y_in : y < length left_slots
      y_in = omega (arith, length-set slots x EMPTY, are.same)

      slot_in : slot < length left_entries
      slot_in = omega (arith, length-set entries slot EMPTY, slot_low x shown)

      y_apart : y ≢ x
      y_apart e = hidden (subst (Shows entries) (sym e) shown)

      y_empty : at left_slots y ≡ EMPTY
      y_empty = at_set_other slots x EMPTY y y_apart ∙ hidden_empty y y_low hidden

      slot_empty : at left_entries slot ≡ EMPTY
      slot_empty = at_set entries slot EMPTY slot refl (slot_low x shown)

      twice : set left_entries slot y ≡ new_entries
      twice = set-set entries slot EMPTY y

      new_forth : LeadsBack new_slots new_entries
      new_forth =
          subst (LeadsBack new_slots) twice
          (came_leads left_slots left_entries y slot left_forth y_in slot_in slot_empty)

      new_back : LeadsBack new_entries new_slots
      new_back =
          subst (λ l. LeadsBack l new_slots) twice
          (came_leads left_entries left_slots slot y left_back slot_in y_in y_empty)

      pub counts_replaced : shown_count new_entries ≡ shown_count entries
      counts_replaced =
          count_same entries slot y (slot_low x shown) (slot_some x shown) (item_real y y_low)

      pub tables_replaced : AreTables new_slots new_entries len holes count
      tables_replaced = record {
        same = omega (
          arith,
          length-set slots x EMPTY,
          length-set left_slots y slot,
          length-set entries slot y,
          are.same,
        );
        few = omega (arith, length-set entries slot y, are.few);
        forth = new_forth;
        back = new_back;
        counts = omega (
          arith,
          counts_replaced,
          slots_left,
          are.counts,
          count_came left_slots y slot y_in y_empty slot_item,
        );
        balance = omega (arith, counts_replaced, are.balance);
        bound = omega (arith, length-set entries slot y, are.bound);
        beyond = λ s past. at_set_other entries slot y s
            (λ e. slot_some x shown (ap (at entries) (sym e) ∙ are.beyond s past))
            ∙ are.beyond s past;
        holes = record {
          room = omega (arith, length-set entries slot y, are.holes.room);
          low = are.holes.low;
          empty = λ k low. at_set_other entries slot y (at holes k)
              (λ e. slot_some x shown (ap (at entries) (sym e) ∙ are.holes.empty k low))
              ∙ are.holes.empty k low;
          once = are.holes.once;
        };
      }

  -- ---- an item comes into an empty slot
  module _ (x : ℕ) (x_low : x < length entries) (hidden : ¬ Shows entries x) where
    x_in : x < length slots
    x_in = omega (arith, are.same)

    pub room_for : shown_count entries < length entries
    room_for =
        omega (
          arith,
          are.same,
          are.counts,
          count_by-le-length is_item (set slots x 0),
          count_came slots x 0 x_in (hidden_empty x x_low hidden) (omega arith),
          length-set slots x 0,
        )

    module _ (s : ℕ) (s_in : s < length entries) (empty : at entries s ≡ EMPTY) where
      abbrev came_slots : List ℕ
      came_slots = set slots x s

      abbrev came_entries : List ℕ
      came_entries = set entries s x

      pub counts_came : shown_count came_entries ≡ shown_count entries + 1
      counts_came = count_came entries s x s_in empty (item_real x x_low)

      tables_came : (taken : ℕ) (left : ℕ) → taken ≤ length entries
          → left + (shown_count entries + 1) ≡ taken
          → ((t : ℕ) → taken ≤ t → (t ≢ s) × (at entries t ≡ EMPTY))
          → AreHoles came_entries taken holes left
          → AreTables came_slots came_entries taken holes left
      tables_came taken left bound balance beyond are_holes = record {
        same = omega (arith, length-set slots x s, length-set entries s x, are.same);
        few = omega (arith, length-set entries s x, are.few);
        forth = came_leads slots entries x s are.forth x_in s_in empty;
        back = came_leads entries slots s x are.back s_in x_in (hidden_empty x x_low hidden);
        counts = omega (
          arith,
          counts_came,
          are.counts,
          count_came slots x s x_in (hidden_empty x x_low hidden) (item_real s s_in),
        );
        balance = omega (arith, counts_came, balance);
        bound = omega (arith, length-set entries s x, bound);
        beyond = λ t past. at_set_other entries s x t (beyond t past).0 ∙ (beyond t past).1;
        holes = are_holes;
      }

      -- a slot that was left
      pub tables_filled : (left : ℕ) → left + 1 ≡ count → s ≡ at holes left
          → AreTables came_slots came_entries len holes left
      tables_filled left one is =
          let apart : (k : ℕ) → k < left → at holes k ≢ s =
          λ k low e. are.holes.once k left low (omega (arith, one)) (e ∙ is) in
          let taken : s < len = rw is (are.holes.low left (omega (arith, one))) in
          tables_came len left are.bound (omega (arith, are.balance, one))
          (λ t past. (omega (arith, past, taken), are.beyond t past)) (record {
            room = omega (arith, length-set entries s x, are.holes.room);
            low = λ k low. are.holes.low k (omega (arith, low, one));
            empty = λ k low. at_set_other entries s x (at holes k) (apart k low)
                ∙ are.holes.empty k (omega (arith, low, one));
            once = λ j k before low. are.holes.once j k before (omega (arith, low, one));
          })

      -- a slot at the end
      pub tables_longer : count ≡ 0 → s ≡ len
          → AreTables came_slots came_entries (len + 1) holes 0
      tables_longer none is =
          tables_came (len + 1) 0 (omega (arith, s_in, is)) (omega (arith, are.balance, none))
          (λ t past. (omega (arith, past, is), are.beyond t (omega (arith, past)))) (record {
            room = omega (arith, length-set entries s x, are.holes.room);
            low = λ k low. absurd (omega (arith, low));
            empty = λ k low. absurd (omega (arith, low));
            once = λ j k before low. absurd (omega (arith, low));
          })
