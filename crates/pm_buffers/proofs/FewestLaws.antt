-- Each item that leaves or comes has a slot of its own that differs.
use Rattle.std.proofs.Common.{◌≡◌, ◌≢◌, ℕ, suc, zero, ◌+◌, ◌<◌, ◌≤◌, ◌⊎◌, List, length, inl, inr}
use Rattle.std.proofs.Common.{refl, sym, ap, subst, ◌∙◌, arith}
use Rattle.std.proofs.lemmas.Bool.{cases_eq, cases_lt}
use Rattle.pm_buffers.specs.Buffers.{at, Shows}
use Rattle.pm_buffers.specs.Changes.{Has, IsChange, AreChanged, AreWritten, staying, write_count}
use Rattle.pm_buffers.specs.declared.tables.TheConstants.{EMPTY}
use Rattle.pm_buffers.proofs.TableLaws.{within_of}
use Rattle.pm_buffers.proofs.ChangeLaws.{once_same}
use Rattle.pm_buffers.proofs.CountLaws.{leaving, many, all_shown, all_once, gone_or_put}

-- places of which each is the place of one number at most
abbrev AreApart : ℕ → (ℕ → ℕ → Type 0) → Type 0
AreApart n R = (j k p : ℕ) → j < n → k < n → R j p → R k p → j ≡ k

-- each of the first n numbers has a place below m
abbrev HavePlaces : ℕ → ℕ → (ℕ → ℕ → Type 0) → Type 0
HavePlaces n m R = (k : ℕ) → k < n → (p : ℕ) × (p < m) × R k p

-- the last place put in for the place q
abbrev Moved : (ℕ → ℕ → Type 0) → ℕ → ℕ → ℕ → ℕ → Type 0
Moved R q last k p = ((p ≡ q) × R k last) ⊎ ((p ≢ q) × R k p)

moved_apart : (n q last : ℕ) (R : ℕ → ℕ → Type 0) → AreApart (suc n) R
    → AreApart n (Moved R q last)
moved_apart n q last R apart j k p j_low k_low (inl a) (inl b) =
    apart j k last (omega (arith, j_low)) (omega (arith, k_low)) a.1 b.1
moved_apart n q last R apart j k p j_low k_low (inl a) (inr b) = absurd (b.0 a.0)
moved_apart n q last R apart j k p j_low k_low (inr a) (inl b) = absurd (a.0 b.0)
moved_apart n q last R apart j k p j_low k_low (inr a) (inr b) =
    apart j k p (omega (arith, j_low)) (omega (arith, k_low)) a.1 b.1

moved_places : (n m : ℕ) (R : ℕ → ℕ → Type 0) (apart : AreApart (suc n) R)
    (have : HavePlaces (suc n) (suc m) R) (q : ℕ) → q < suc m → R n q
    → HavePlaces n m (Moved R q m)
moved_places n m R apart have q q_low at_q k low =
    let place = have k (omega (arith, low)) in
    let other : place.0 ≢ q =
    λ e.
    let is = apart k n q (omega (arith, low)) (omega arith) (subst (R k) e place.2) at_q in
    omega (arith, is, low) in
    elim (cases_eq place.0 m) [
      | inl last ↦
          (q, omega (arith, q_low, other, last), inl (refl, subst (R k) last place.2))
      | inr before ↦ (place.0, omega (arith, place.1, before), inr (other, place.2))
    ]

pigeons : (n m : ℕ) (R : ℕ → ℕ → Type 0) → AreApart n R → HavePlaces n m R → n ≤ m
pigeons zero m R apart have = omega arith
pigeons (suc n) zero R apart have =
    let place = have n (omega arith) in
    absurd (omega (arith, place.1))
pigeons (suc n) (suc m) R apart have =
    let place = have n (omega arith) in
    let fewer = pigeons n m (Moved R place.0 m) (moved_apart n place.0 m R apart)
    (moved_places n m R apart have place.0 place.1 place.2) in
    omega (arith, fewer)

module _ (old gone put : List ℕ) (change : IsChange old gone put) where
  abbrev leaves : List ℕ
  leaves = leaving old gone put

  slot_of : (k : ℕ) → k < length leaves → Shows old (at leaves k)
  slot_of k low = all_shown old gone put change k low

  leaves_same : (j k : ℕ) → j < length leaves → at leaves j ≡ at leaves k → j ≡ k
  leaves_same j k low same =
      once_same leaves (all_once old gone put change) j k (slot_of j low).1.is_item same

  put_same : (j k : ℕ) → j < length put → k < length put → at put j ≡ at put k → j ≡ k
  put_same j k j_low k_low same =
      elim (cases_lt j k) [
        | inl before ↦ absurd (change.lists.put_once j k before k_low same)
        | inr past ↦ elim (cases_lt k j) [
          | inl before ↦ absurd (change.lists.put_once k j before j_low (sym same))
          | inr other ↦ omega (arith, past, other)
        ]
      ]

  -- ---- a change has no more items than a buffer
  abbrev HasSlot : ℕ → ℕ → Type 0
  HasSlot k s = at old s ≡ at leaves k

  slots_have : HavePlaces (length leaves) (length old) HasSlot
  slots_have k low =
      let shown = slot_of k low in (
        shown.0,
        within_of old shown.0 (λ no. shown.1.is_item (sym shown.1.there ∙ no)),
        shown.1.there,
      )

  abbrev IsPut : ℕ → ℕ → Type 0
  IsPut k x = at put k ≡ x

  pub leaves_low : length gone + length (staying old put) ≤ length old
  leaves_low =
      omega (
        arith,
        many old gone put change,
        pigeons (length leaves) (length old) HasSlot
            (λ j k s j_low k_low a b. leaves_same j k j_low (sym a ∙ b)) slots_have,
      )

  pub put_low : length put ≤ length old
  put_low =
      pigeons (length put) (length old) IsPut
      (λ j k x j_low k_low a b. put_same j k j_low k_low (a ∙ sym b))
      (λ k low. (at put k, change.within k low, refl))

  -- ---- each has a slot of its own among those written
  module _ (now slots : List ℕ) (changed : AreChanged old gone put now)
      (written : AreWritten old put now slots) where
    abbrev LeavesAt : ℕ → ℕ → Type 0
    LeavesAt k p = at old (at slots p) ≡ at leaves k

    abbrev ComesAt : ℕ → ℕ → Type 0
    ComesAt k p = at now (at slots p) ≡ at put k

    -- the slot that an item has that leaves or stays
    told : (k : ℕ) → k < length leaves → (s : ℕ) → at old s ≡ at leaves k
        → at leaves k ≢ EMPTY → (at old s ≢ at now s) ⊎ Has put (at now s)
    told k low s there item =
        elim (cases_eq (at old s) (at now s)) [
          | inl same ↦
              let is : at leaves k ≡ at now s = sym there ∙ same in
              elim (gone_or_put old gone put change k low) [
                | inl gone_has ↦ elim ((changed (at leaves k)).0
                    (s, record { is_item = item; there = sym is })) [
                      | inl has ↦ inr (has.0, has.1, has.2 ∙ is)
                      | inr stays ↦ absurd (stays.1 gone_has)
                    ]
                | inr put_has ↦ inr (put_has.0, put_has.1, put_has.2 ∙ is)
              ]
          | inr differs ↦ inl differs
        ]

    leaving_places : HavePlaces (length leaves) (length slots) LeavesAt
    leaving_places k low =
        let shown = slot_of k low in
        let has = (written.told shown.0).1
        (told k low shown.0 shown.1.there shown.1.is_item) in
        (has.0, has.1, ap (at old) has.2 ∙ shown.1.there)

    coming_places : HavePlaces (length put) (length slots) ComesAt
    coming_places k low =
        let shown = (changed (at put k)).1 (inl (k, low, refl)) in
        let has = (written.told shown.0).1 (inr (k, low, sym shown.1.there)) in
        (has.0, has.1, ap (at now) has.2 ∙ shown.1.there)

    pub fewest : write_count old gone put ≤ length slots
    fewest =
        omega (
          arith,
          many old gone put change,
          pigeons (length leaves) (length slots) LeavesAt
              (λ j k p j_low k_low a b. leaves_same j k j_low (sym a ∙ b)) leaving_places,
          pigeons (length put) (length slots) ComesAt
              (λ j k p j_low k_low a b. put_same j k j_low k_low (sym a ∙ b)) coming_places,
        )
