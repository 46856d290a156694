-- What a change makes of a buffer, from what each of its writes does.
use Rattle.std.proofs.Common.{◌≡◌, ◌≢◌, ℕ, suc, zero, ◌+◌, ◌<◌, ◌≤◌, ◌⊎◌, List, length, set}
use Rattle.std.proofs.Common.{take, inl, inr, refl, sym, ap, subst, ◌∙◌, arith}
use Rattle.std.proofs.lemmas.Bool.{cases_eq, cases_lt}
use Rattle.std.proofs.lemmas.List.{get_or-take, length-take}
use Rattle.pm_buffers.specs.Buffers.{at, StandsIn, Shows, Buffer, IsBuffer}
use Rattle.pm_buffers.specs.Changes.{Has, IsOnce, IsChange, AreChanged, AreKept, AreWritten}
use Rattle.pm_buffers.specs.Changes.{AreShown}
use Rattle.pm_buffers.specs.Steps.{AreWrittenSoFar}
use Rattle.pm_buffers.specs.declared.tables.TheConstants.{EMPTY}
use Rattle.pm_buffers.proofs.TableLaws.{at_set, at_set_other, at_past, within_of}

-- whether one of the first numbers is this one
find : (xs : List ℕ) (x n : ℕ) → ((k : ℕ) × (k < n) × (at xs k ≡ x))
    ⊎ ((k : ℕ) → k < n → at xs k ≢ x)
find xs x zero = inr (λ k low. absurd (omega (arith, low)))
find xs x (suc n) =
    elim (cases_eq (at xs n) x) [
      | inl is ↦ inl (n, omega arith, is)
      | inr other ↦ elim (find xs x n) [
        | inl found ↦ inl (found.0, omega (arith, found.1), found.2)
        | inr none ↦ inr (λ k low.
            elim (cases_eq k n) [
              | inl last ↦ λ e. other (ap (at xs) (sym last) ∙ e)
              | inr before ↦ none k (omega (arith, low, before))
            ])
      ]
    ]

pub once_same : (xs : List ℕ) → IsOnce xs → (j k : ℕ) → at xs j ≢ EMPTY → at xs j ≡ at xs k → j ≡ k
once_same xs once j k some same =
    let j_low = within_of xs j some in
    let k_low = within_of xs k (λ e. some (same ∙ e)) in
    elim (cases_lt j k) [
      | inl before ↦ absurd (once j k before k_low same)
      | inr past ↦ elim (cases_lt k j) [
        | inl before ↦ absurd (once k j before j_low (sym same))
        | inr other ↦ omega (arith, past, other)
      ]
    ]

module _ (old gone put : List ℕ) (change : IsChange old gone put) (few : length old ≤ EMPTY) where
  gone_item : (k : ℕ) → k < length gone → at gone k ≢ EMPTY
  gone_item k low = (change.shown k low).1.is_item

  put_item : (k : ℕ) → k < length put → at put k ≢ EMPTY
  put_item k low = omega (arith, change.within k low, few)

  -- no item that leaves is put
  never_put : (i k : ℕ) → i < length gone → at gone i ≢ at put k
  never_put i k low e =
      let k_low : k < length put = within_of put k (λ no. gone_item i low (e ∙ no)) in
      change.lists.apart i k low k_low e

  module _ (now slots : List ℕ) (count left : ℕ)
      (done : AreWrittenSoFar old gone put now slots count left) where
    -- ---- who is put later is shown where it was
    pub shown_before : count < length put → Shows now (at put count) → Shows old (at put count)
    shown_before low shown =
        elim (find slots shown.0 count) [
          | inl found ↦
              let same : at put found.0 ≡ at put count =
              sym (done.each found.0 found.1) ∙ (ap (at now) found.2 ∙ shown.1.there) in
              absurd (change.lists.put_once found.0 count found.1 low same)
          | inr none ↦ (
            shown.0,
            record {
              is_item = shown.1.is_item;
              there = sym (done.others shown.0 none) ∙ shown.1.there;
            },
          )
        ]

    pub shown_still : count < length put → Shows old (at put count) → Shows now (at put count)
    shown_still low shown = (
      shown.0,
      done.kept shown.0 (at put count) shown.1
          (λ has. never_put has.0 count has.1 has.2),
    )

    -- ---- a slot that isn't written yet
    abbrev IsFresh : ℕ → Type 0
    IsFresh r = (k : ℕ) → k < count → at slots k ≢ r

    pub fresh_of_put : (r : ℕ) → count < length put → at now r ≡ at put count → IsFresh r
    fresh_of_put r low was k before e =
        change.lists.put_once k count before low
        (sym (done.each k before) ∙ (ap (at now) e ∙ was))

    pub fresh_of_gone : (r : ℕ) → (left < length gone) ⊎ (count < length put)
        → at now r ≡ at gone left → IsFresh r
    fresh_of_gone r either was k before e =
        let same : at put k ≡ at gone left =
        sym (done.each k before) ∙ (ap (at now) e ∙ was) in
        elim (cases_lt left (length gone)) [
          | inl low ↦ never_put left k low (sym same)
          | inr past ↦ elim either [
            | inl low ↦ absurd (omega (arith, low, past))
            | inr low ↦ put_item k (omega (arith, before, low)) (same ∙ at_past gone left past)
          ]
        ]

    -- ---- one slot more
    module _ (r left_then : ℕ) (then : List ℕ) (room : count < length slots) (fresh : IsFresh r)
        (here : at then r ≡ at put count) (away : (s : ℕ) → s ≢ r → at then s ≡ at now s)
        (goes : ((at now r ≡ at put count) × (left_then ≡ left))
        ⊎ ((at now r ≡ at gone left) × (left_then ≡ left + 1)))
        (some : length put ≤ count → at now r ≢ EMPTY)
        (apart : (s t : ℕ) → at now s ≢ EMPTY → at now s ≡ at now t → s ≡ t) where
      abbrev longer : List ℕ
      longer = set slots count r

      below : (k : ℕ) → k < count → at longer k ≡ at slots k
      below k low = at_set_other slots count r k (omega (arith, low))

      last : (k : ℕ) → k ≡ count → at longer k ≡ r
      last k is = at_set slots count r k is room

      kept_then : AreKept old gone then
      kept_then s x stands stays =
          let so = done.kept s x stands stays in
          elim (cases_eq s r) [
            | inl is ↦
                let was : at now r ≡ x = ap (at now) (sym is) ∙ so.there in
                elim goes [
                  | inl put_there ↦ record {
                    is_item = stands.is_item;
                    there = ap (at then) is ∙ (here ∙ (sym put_there.0 ∙ was));
                  }
                  | inr gone_there ↦
                      let same : at gone left ≡ x = sym gone_there.0 ∙ was in
                      absurd (stays (
                        left,
                        within_of gone left
                            (λ no. stands.is_item (sym same ∙ no)),
                        same,
                      ))
                ]
            | inr other ↦ record { is_item = stands.is_item; there = away s other ∙ so.there }
          ]

      gone_then : (i : ℕ) → i < left_then → i < length gone → ¬ Shows then (at gone i)
      gone_then i low in_gone shown =
          elim (cases_eq shown.0 r) [
            | inl is ↦ never_put i count in_gone
                (sym shown.1.there ∙ (ap (at then) is ∙ here))
            | inr other ↦
                let was : at now shown.0 ≡ at gone i =
                sym (away shown.0 other) ∙ shown.1.there in
                elim (cases_lt i left) [
                  | inl before ↦ done.hidden i before in_gone
                      (shown.0, record { is_item = shown.1.is_item; there = was })
                  | inr past ↦ elim goes [
                    | inl put_there ↦ absurd (omega (arith, low, past, put_there.1))
                    | inr gone_there ↦
                        let is : i ≡ left = omega (arith, low, past, gone_there.1) in
                        other (apart shown.0 r (λ no. shown.1.is_item (sym was ∙ no))
                        (was ∙ (ap (at gone) is ∙ sym gone_there.0)))
                  ]
                ]
          ]

      still_then : (i : ℕ) → left_then ≤ i → i < length gone → Shows then (at gone i)
      still_then i past in_gone =
          let later : left ≤ i =
          elim goes [
            | inl put_there ↦ omega (arith, past, put_there.1)
            | inr gone_there ↦ omega (arith, past, gone_there.1)
          ] in
          let shown = done.still i later in_gone in
          let other : shown.0 ≢ r =
          λ e.
          let was : at now r ≡ at gone i = ap (at now) (sym e) ∙ shown.1.there in
          elim goes [
            | inl put_there ↦ never_put i count in_gone (sym was ∙ put_there.0)
            | inr gone_there ↦ change.lists.gone_once left i
                (omega (arith, past, gone_there.1)) in_gone (sym gone_there.0 ∙ was)
          ] in (
            shown.0,
            record {
              is_item = shown.1.is_item;
              there = away shown.0 other ∙ shown.1.there;
            },
          )

      pub one_more : AreWrittenSoFar old gone put then longer (count + 1) left_then
      one_more = record {
        once = λ j k before low.
            elim (cases_eq k count) [
              | inl is ↦ λ e. fresh j (omega (arith, before, is))
                  (sym (below j (omega (arith, before, is))) ∙ (e ∙ last k is))
              | inr other ↦ λ e. done.once j k before (omega (arith, low, other))
                  (sym (below j (omega (arith, before, low)))
                  ∙ (e ∙ below k (omega (arith, low, other))))
            ];
        each = λ k low.
            elim (cases_eq k count) [
              | inl is ↦ ap (at then) (last k is) ∙ (here ∙ ap (at put) (sym is))
              | inr other ↦
                  let before : k < count = omega (arith, low, other) in
                  ap (at then) (below k before)
                  ∙ (away (at slots k) (fresh k before) ∙ done.each k before)
            ];
        others = λ s unwritten.
            away s (λ e. unwritten count (omega arith) (last count refl ∙ sym e))
            ∙ done.others s (λ k low e. unwritten k (omega (arith, low)) (below k low ∙ e));
        kept = kept_then;
        hidden = gone_then;
        still = still_then;
        emptied = λ k past low.
            elim (cases_eq k count) [
              | inl is ↦ λ e.
                  some (omega (arith, past, is))
                  (done.others r fresh ∙ (ap (at old) (sym (last k is)) ∙ e))
              | inr other ↦
                  let before : k < count = omega (arith, low, other) in
                  λ e. done.emptied k past before (ap (at old) (sym (below k before)) ∙ e)
            ];
      }

    -- the slot of an item that stays
    pub stay_step : (r : ℕ) → StandsIn now r (at put count) → count < length slots
        → ((s t : ℕ) → at now s ≢ EMPTY → at now s ≡ at now t → s ≡ t)
        → AreWrittenSoFar old gone put now (set slots count r) (count + 1) left
    stay_step r stands room apart =
        let low : count < length put = within_of put count stands.is_item in
        one_more r left now room (fresh_of_put r low stands.there) stands.there (λ s other. refl)
        (inl (stands.there, refl)) (λ past. absurd (omega (arith, low, past))) apart

    -- the slot that an item leaves, or into which one comes
    pub come_step : (r : ℕ) → r < length now → at now r ≡ at gone left
        → (left < length gone) ⊎ (count < length put) → count < length slots
        → ((s t : ℕ) → at now s ≢ EMPTY → at now s ≡ at now t → s ≡ t)
        → AreWrittenSoFar old gone put (set now r (at put count)) (set slots count r) (count + 1)
        (left + 1)
    come_step r r_low was either room apart =
        let some : length put ≤ count → at now r ≢ EMPTY =
        λ past e.
        elim either [
          | inl low ↦ gone_item left low (sym was ∙ e)
          | inr low ↦ absurd (omega (arith, low, past))
        ] in
        one_more r (left + 1) (set now r (at put count)) room (fresh_of_gone r either was)
        (at_set now r (at put count) r refl r_low)
        (λ s other. at_set_other now r (at put count) s other) (inr (was, refl)) some apart

    -- ---- all slots
    module _ (all_put : length put ≤ count) (all_gone : length gone ≤ left) where
      come : (x : ℕ) → Has put x ⊎ (Shows old x × ¬ Has gone x) → Shows now x
      come x (inl has) = (
        at slots has.0,
        record {
          is_item = λ e. put_item has.0 has.1 (has.2 ∙ e);
          there = done.each has.0 (omega (arith, all_put, has.1)) ∙ has.2;
        },
      )
      come x (inr stays) = (stays.0.0, done.kept stays.0.0 x stays.0.1 stays.1)

      only : (x : ℕ) → Shows now x → Has put x ⊎ (Shows old x × ¬ Has gone x)
      only x shown =
          elim (find slots shown.0 count) [
            | inl found ↦
                let same : at put found.0 ≡ x =
                sym (done.each found.0 found.1) ∙ (ap (at now) found.2 ∙ shown.1.there) in
                inl (found.0, within_of put found.0 (λ no. shown.1.is_item (sym same ∙ no)), same)
            | inr none ↦ inr (
              (
                shown.0,
                record {
                  is_item = shown.1.is_item;
                  there = sym (done.others shown.0 none) ∙ shown.1.there;
                },
              ),
              λ has. done.hidden has.0 (omega (arith, all_gone, has.1)) has.1
                  (subst (Shows now) (sym has.2) shown),
            )
          ]

      pub changed : AreChanged old gone put now
      changed x = (only x, come x)

      module _ (room : count ≤ length slots)
          (apart : (s t : ℕ) → at now s ≢ EMPTY → at now s ≡ at now t → s ≡ t) where
        in_take : (k : ℕ) → k < count → at (take count slots) k ≡ at slots k
        in_take k low = get_or-take count slots k EMPTY low

        long : length (take count slots) ≡ count
        long = omega (arith, length-take count slots)

        told_of : (s k : ℕ) → k < count → at slots k ≡ s
            → (at old s ≢ at now s) ⊎ Has put (at now s)
        told_of s k low is =
            let entry : at now s ≡ at put k = ap (at now) (sym is) ∙ done.each k low in
            elim (cases_lt k (length put)) [
              | inl in_put ↦ inr (k, in_put, sym entry)
              | inr past ↦ inl (λ same.
                  done.emptied k past low
                  (ap (at old) is ∙ (same ∙ (entry ∙ at_past put k past))))
            ]

        has_told : (s : ℕ) → (at old s ≢ at now s) ⊎ Has put (at now s)
            → Has (take count slots) s
        has_told s (inl differs) =
            elim (find slots s count) [
              | inl found ↦ (
                found.0,
                omega (arith, long, found.1),
                in_take found.0 found.1 ∙ found.2,
              )
              | inr none ↦ absurd (differs (sym (done.others s none)))
            ]
        has_told s (inr has) =
            let low : has.0 < count = omega (arith, has.1, all_put) in
            let there : at now (at slots has.0) ≡ at now s = done.each has.0 low ∙ has.2 in
            let is : at slots has.0 ≡ s =
            apart (at slots has.0) s
            (λ no. put_item has.0 has.1 (sym (done.each has.0 low) ∙ no)) there in
            (has.0, omega (arith, long, low), in_take has.0 low ∙ is)

        pub written : AreWritten old put now (take count slots)
        written = record {
          once = λ j k before low e.
              let k_low : k < count = omega (arith, low, long) in
              let j_low : j < count = omega (arith, before, k_low) in
              done.once j k before k_low (sym (in_take j j_low) ∙ (e ∙ in_take k k_low));
          told = λ s. (
            λ has.
                let low : has.0 < count = omega (arith, has.1, long) in
                told_of s has.0 low (sym (in_take has.0 low) ∙ has.2),
            has_told s,
          );
        }

-- before the first slot
pub none_written : (old gone put slots : List ℕ) → AreShown old gone
    → AreWrittenSoFar old gone put old slots 0 0
none_written old gone put slots shown = record {
  once = λ j k before low. absurd (omega (arith, low));
  each = λ k low. absurd (omega (arith, low));
  others = λ s apart. refl;
  kept = λ s x stands stays. stands;
  hidden = λ i low. absurd (omega (arith, low));
  still = λ i past low. shown i low;
  emptied = λ k past low. absurd (omega (arith, low));
}

-- after the last one all have left
pub all_left : (old gone put now slots : List ℕ) (count left : ℕ)
    → AreWrittenSoFar old gone put now slots count left → length gone ≤ left
    → AreWrittenSoFar old gone put now slots count (length gone)
all_left old gone put now slots count left done all = record {
  once = done.once;
  each = done.each;
  others = done.others;
  kept = done.kept;
  hidden = λ i low in_gone. done.hidden i (omega (arith, all, in_gone)) in_gone;
  still = λ i past low. absurd (omega (arith, past, low));
  emptied = done.emptied;
}

-- the items of a list of shown ones are in range
pub shown_within : (b : Buffer) (gone : List ℕ) → IsBuffer b → AreShown b.entries gone → (k : ℕ)
    → k < length gone → at gone k < length b.entries
shown_within b gone is shown k low =
    let one = shown k low in
    let low = is.items one.0 (λ no. one.1.is_item (sym one.1.there ∙ no)) in
    omega (arith, low, one.1.there)
