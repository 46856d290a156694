-- The items after a collapse: each live vertex has its own, in a slot of its own.
use Rattle.std.proofs.Common.{◌≡◌, ◌≢◌, ℕ, ◌<◌, true, false, List, length, get_or, inl, inr}
use Rattle.std.proofs.Common.{sym, ap, ◌∙◌, get_or-set_other, get_or-set_same}
use Rattle.std.specs.Prelude.{is_some}
use Rattle.std.proofs.lemmas.Bool.{cases_eq, both_ways}
use Rattle.pm_base.specs.Place.{Place}
use Rattle.pm_runs.specs.Surfaces.{Surface, next_vertex, is_live, collapsed}
use Rattle.pm_runs.proofs.Live.{old_live, gone_first, gone_second}
use Rattle.pm_slots.specs.Slots.{Slotted, slot_at, item_at, HaveOwnSlots, IsPut}

module _
    (s : Surface) (a b : ℕ) (place : Place) (live_a : is_live s a ≡ true) (la : a < next_vertex s)
    (lb : b < next_vertex s) where
  abbrev t : Surface
  t = collapsed s a b place

  dead-first : is_live t a ≡ false
  dead-first = ap is_some (gone_first s a b place la)

  dead-second : is_live t b ≡ false
  dead-second = ap is_some (gone_second s a b place lb)

  -- A live vertex, other than the new one, is neither of the two, and was live.
  not_first : (v : ℕ) → is_live t v ≡ true → v ≢ a
  not_first v live is = both_ways _ (ap (is_live t) is ∙ dead-first) live

  not_second : (v : ℕ) → is_live t v ≡ true → v ≢ b
  not_second v live is = both_ways _ (ap (is_live t) is ∙ dead-second) live

  pub was_live : (v : ℕ) → is_live t v ≡ true → v ≢ next_vertex s → is_live s v ≡ true
  was_live v live off =
      sym (old_live s a b place v off (not_first v live) (not_second v live)) ∙ live

  module _
      {T : Type 0} (old new : Slotted T) (item : T) (own : HaveOwnSlots s old.slots)
      (w : IsPut old a (next_vertex s) item new) where
    pub items-kept :
        (v : ℕ) (none : T) → is_live t v ≡ true → v ≢ next_vertex s →
        item_at new v none ≡ item_at old v none
    items-kept v none live off =
        w.others v none off (λ is. not_first v live (own v a (was_live v live off) live_a is))

    pub slots-own : next_vertex s < length old.slots → HaveOwnSlots t new.slots
    slots-own low v x live_v live_x same =
        let k : ℕ = next_vertex s in
        let slot : ℕ = slot_at old a in
        let made : get_or new.slots k 0 ≡ slot =
        ap (λ (l : List ℕ). get_or l k 0) w.slots ∙ get_or-set_same old.slots k slot 0 low in
        let was : (y : ℕ) → y ≢ k → get_or new.slots y 0 ≡ get_or old.slots y 0 = λ y off.
        ap (λ (l : List ℕ). get_or l y 0) w.slots
        ∙ get_or-set_other old.slots k y slot 0 off in
        let never :
        (y : ℕ) → is_live t y ≡ true → y ≢ k → get_or new.slots y 0 ≡ get_or new.slots k 0 → ⊥ =
        λ y live off is.
        not_first y live (own y a (was_live y live off) live_a (sym (was y off) ∙ is ∙ made)) in
        elim (cases_eq v k) [
          | inl v_new ↦
              elim (cases_eq x k) [
                | inl x_new ↦ v_new ∙ sym x_new
                | inr x_off ↦
                    absurd (never x live_x x_off
                    (sym same ∙ ap (λ (y : ℕ). get_or new.slots y 0) v_new))
              ]
          | inr v_off ↦
              elim (cases_eq x k) [
                | inl x_new ↦
                    absurd (never v live_v v_off
                    (same ∙ ap (λ (y : ℕ). get_or new.slots y 0) x_new))
                | inr x_off ↦
                    own v x (was_live v live_v v_off) (was_live x live_x x_off)
                    (sym (was v v_off) ∙ same ∙ was x x_off)
              ]
        ]
