-- Flags chosen by sums over patches.
use Rattle.std.proofs.Common.{◌≡◌, ◌≢◌, ℕ, ◌<◌, ◌≤◌, inl, inr, refl, sym, ap, ◌∙◌, subst, Bool}
use Rattle.std.proofs.Common.{true, false, not, List, Option, None, length, slice_index_or, arith}
use Rattle.std.proofs.lemmas.Grind.{common_steps}
use Rattle.std.specs.Prelude.{ℤ, pos, neg_ℤ, ◌≤ℤ◌, nat_lt}
use Rattle.std.proofs.lemmas.Bool.{cases_Bool, cond-true, cond-false, ltb-true, ltb-false}
use Rattle.std.proofs.Math.Bool.{not-not}
use Rattle.pm_base.specs.Place.{Place}
use Rattle.pm_base.specs.Sides.{Net, face_of, side_count, beside_side}
use Rattle.pm_turn.specs.declared.patches.Root.{Root}
use Rattle.pm_turn.specs.declared.choice.Sums.{Sums}
use Rattle.pm_turn.specs.Turning.{flag_of, clash, flipped_if, Way, stay, over, AgreeOnceTurned}
use Rattle.pm_turn.specs.Turning.{AreTraced}
use Rattle.pm_turn.specs.Unions.{AreMated}
use Rattle.pm_turn.specs.Choice.{AreLeast, IsOpen, IsClosed, Agrees, HasClash, area_at}
use Rattle.pm_turn.specs.Choice.{area_turned_in, area_staying_in, IsSmaller, volume_at, volume_in}
use Rattle.pm_turn.specs.Choice.{IsOutward, AreChosenTurns}
use Rattle.pm_turn.specs.Sums.{root_at, parity_at, is_bare, no_sums, AreSums, is_reversed}
use Rattle.pm_turn.specs.Sums.{chosen_flag}
use Rattle.pm_turn.proofs.Traced.{one_in, other_in, roots_same, root_in, root_root, odd_way}
use Rattle.pm_turn.proofs.Reversing.{flip_past, stays_without_odd, by_area, at_least_own}
use Rattle.pm_turn.proofs.Reversing.{by_volumes}
use Rattle.pm_turn.proofs.Totals.{patch_none, patch_some, patch_total, patch_opposite}
use Rattle.pm_turn.proofs.Totals.{determinant_turned}
use Rattle.pm_turn.proofs.Weights.{patch_weight, no_weight}
use Rattle.pm_turn.proofs.BareSides.{bare_side, side_bare, no_mate, none_beside}

-- A turned face's volume is the opposite.
pub volume_turned : (m : Net) (places : List Place) (b : Bool) (f : ℕ)
    → volume_at m places (not b) f ≡ neg_ℤ (volume_at m places b f)
volume_turned m places false f = determinant_turned _ _ _
volume_turned m places true f = determinant_turned _ _ _

module _ (m : Net) (places : List Place) (mates : List (Option ℕ)) (roots : List Root) (odd : ℕ
    → Bool) (sums : List Sums)
    (t : AreTraced m (root_at roots) (parity_at roots) odd) (am : AreMated m mates)
    (s : AreSums m places mates roots m.faces sums) where
  abbrev pub root : ℕ → ℕ
  root = root_at roots

  abbrev pub parity : ℕ → Bool
  parity = parity_at roots

  abbrev pub sum_of : ℕ → Sums
  sum_of r = slice_index_or sums r no_sums

  abbrev pub back : ℕ → Bool
  back r = is_reversed (sum_of r)

  pub patches : AreLeast m root
  patches = record {
    way = λ f l. (parity f, t.way f l);
    low = λ f g p l w. subst (λ i. i ≤ g) (sym (roots_same m root parity odd t f g p w))
        (t.below g);
  }

  -- Where neighbours agree all ways are even.
  pub even_way : (r f g : ℕ) (p : Bool) → Agrees m root r → root f ≡ r → Way m f g p → p ≡ false
  even_way r f g p all at stay = refl
  even_way r f g q all at (over {e} {k} {p} w a) =
      ap (λ (c : Bool). flipped_if c p)
      (all e k a (sym (roots_same m root parity odd t f (face_of e) p w) ∙ at))
      ∙ even_way r f (face_of e) p all at w

  pub all_even : (r : ℕ) → Agrees m root r → (f : ℕ) → f < m.faces → root f ≡ r → parity f ≡ false
  all_even r all f l at = even_way r f (root f) (parity f) all at (t.way f l)

  pub root_low : (f r : ℕ) → f < m.faces → root f ≡ r → r < m.faces
  root_low f r l at = subst (λ i. i < m.faces) at (root_in m root parity odd t f l)

  pub root_own : (f r : ℕ) → f < m.faces → root f ≡ r → root r ≡ r
  root_own f r l at = subst (λ i. root i ≡ i) at (root_root m root parity odd t f l)

  module _ (r : ℕ) (low : r < m.faces) (own : root r ≡ r) where
    own_even : parity r ≡ false
    own_even = ap parity (sym own) ∙ t.own r low

    pub some_bare : IsOpen m root r → (sum_of r).bare ≢ 0
    some_bare o zero =
        let fl : face_of o.side < m.faces = omega (arith, o.in_range) in
        let none : beside_side mates o.side ≡ None =
        none_beside m o.side (beside_side mates o.side) (am.each o.side o.in_range) o.none in
        let some = patch_some root r m.faces (is_bare mates) (face_of o.side) fl o.here
        (bare_side mates (face_of o.side) o.side refl none) in
        let bare = (s.each r low).bare in
        absurd (omega (arith, some, bare, zero))

    pub none_odd : Agrees m root r → (sum_of r).odd ≡ 0
    none_odd all =
        (s.each r low).odd ∙ patch_none root r m.faces parity (λ f l at. all_even r all f l at)

    no_area : Agrees m root r → (sum_of r).odd_area ≡ 0
    no_area all =
        (s.each r low).odd_area
        ∙ no_weight (area_at m places) root r m.faces parity (λ f l at. all_even r all f l at)

    pub none_bare : IsClosed m root r → (sum_of r).bare ≡ 0
    none_bare closed =
        (s.each r low).bare ∙ patch_none root r m.faces (is_bare mates) (λ f l at.
        elim (cases_Bool (is_bare mates f)) [
          | inr un ↦ un
          | inl b ↦
              let (e, ef, none) = side_bare mates f b in
              let el : e < side_count m = omega (arith, ef, l) in
              absurd (closed (record {
                side = e;
                in_range = el;
                here = ap root ef ∙ at;
                none = no_mate m e (beside_side mates e) none (am.each e el);
              }))
        ])

    some_odd : odd r ≡ false → HasClash m root r → (sum_of r).odd ≢ 0
    some_odd un h zero =
        let sum = (s.each r low).odd in
        let un' : odd (root (face_of h.side)) ≡ false = ap odd h.here ∙ un in
        let other : root (face_of h.mate) ≡ r = sym (t.same h.side h.mate h.mates) ∙ h.here in
        let step : parity (face_of h.mate) ≡ not (parity (face_of h.side)) =
        t.straight h.side h.mate h.mates un'
        ∙ ap (λ (c : Bool). flipped_if c (parity (face_of h.side))) h.clashes in
        elim (cases_Bool (parity (face_of h.side))) [
          | inl p ↦ let some =
              patch_some root r m.faces parity (face_of h.side) (one_in m h.side h.mate h.mates)
              h.here p in absurd (omega (arith, some, sum, zero))
          | inr p ↦ let some =
              patch_some root r m.faces parity (face_of h.mate) (other_in m h.side h.mate h.mates)
              other (step ∙ ap not p) in absurd (omega (arith, some, sum, zero))
        ]

  module _ (flags : List Bool) (long : length flags ≡ m.faces)
      (is : (f : ℕ) → f < m.faces
      → flag_of flags f
      ≡ chosen_flag (odd (root_at roots f))
      (is_reversed (slice_index_or sums (root_at roots f) no_sums)) (parity_at roots f)) where
    flag_straight : (f r : ℕ) → f < m.faces → root f ≡ r → odd r ≡ false
        → flag_of flags f ≡ flipped_if (back r) (parity f)
    flag_straight f r l at un =
        is f l ∙ ap (λ i. chosen_flag (odd i) (back i) (parity f)) at ∙ cond-false _ _ _ un

    flag_odd : (f : ℕ) → f < m.faces → odd (root f) ≡ true → flag_of flags f ≡ false
    flag_odd f l set = is f l ∙ cond-true _ _ _ set

    agreeing : AgreeOnceTurned m flags
    agreeing = record {
      long = long;
      twisted = λ f. odd (root f);
      odd = λ f l set. (odd_way m root parity odd t f l set, flag_odd f l set);
      agree = λ e k a un.
          let un_k : odd (root (face_of k)) ≡ false = ap odd (sym (t.same e k a)) ∙ un in (
            un_k,
            flag_straight (face_of k) (root (face_of e)) (other_in m e k a) (sym (t.same e k a)) un
                ∙ ap (flipped_if (back (root (face_of e)))) (t.straight e k a un)
                ∙ flip_past (back (root (face_of e))) (clash m e k) (parity (face_of e))
                ∙ ap (flipped_if (clash m e k))
                (sym (flag_straight (face_of e) (root (face_of e)) (one_in m e k a) refl un)),
          );
    }

    same : (f : ℕ) → f < m.faces → Agrees m root (root f) → flag_of flags f ≡ false
    same f l all =
        let low = root_in m root parity odd t f l in
        let own = root_root m root parity odd t f l in
        let stays = stays_without_odd (sum_of (root f)) (none_odd (root f) low own all)
        (no_area (root f) low own all) in
        let even = all_even (root f) all f l refl in
        grind (arith, flag_odd f l, flag_straight f (root f) l refl)

    module _ (r : ℕ) (low : r < m.faces) (own : root r ≡ r) where
      -- The flags of a patch that isn't twisted, and how much of it is turned.
      flag_on : odd r ≡ false → back r ≡ true → (f : ℕ) → f < m.faces → root f ≡ r
          → flag_of flags f ≡ not (parity f)
      flag_on un b f l at = grind (arith, flag_straight f r l at un)

      flag_off : odd r ≡ false → back r ≡ false → (f : ℕ) → f < m.faces → root f ≡ r
          → flag_of flags f ≡ parity f
      flag_off un b f l at = grind (arith, flag_straight f r l at un)

      areas_on : odd r ≡ false → back r ≡ true
          → (area_turned_in m places root (flag_of flags) r ≡ (sum_of r).even_area)
          × (area_staying_in m places root (flag_of flags) r ≡ (sum_of r).odd_area)
      areas_on un b = (
        patch_weight (area_at m places) root r m.faces (flag_of flags) (λ f. not (parity f))
            (flag_on un b) ∙ sym (s.each r low).even_area,
        patch_weight (area_at m places) root r m.faces (λ f. not (flag_of flags f)) parity
            (λ f l at. ap not (flag_on un b f l at) ∙ not-not (parity f))
            ∙ sym (s.each r low).odd_area,
      )

      areas_off : odd r ≡ false → back r ≡ false
          → (area_turned_in m places root (flag_of flags) r ≡ (sum_of r).odd_area)
          × (area_staying_in m places root (flag_of flags) r ≡ (sum_of r).even_area)
      areas_off un b = (
        patch_weight (area_at m places) root r m.faces (flag_of flags) parity (flag_off un b)
            ∙ sym (s.each r low).odd_area,
        patch_weight (area_at m places) root r m.faces (λ f. not (flag_of flags f))
            (λ f. not (parity f)) (λ f l at. ap not (flag_off un b f l at))
            ∙ sym (s.each r low).even_area,
      )

      small_straight : odd r ≡ false → back r ≡ nat_lt (sum_of r).even_area (sum_of r).odd_area
          → IsSmaller m places root (flag_of flags) r
      small_straight un told =
          grind (
            arith,
            common_steps,
            ltb-false,
            ltb-true,
            areas_off un,
            areas_on un,
            flag_straight r r low own un,
            own_even r low own,
          )

      small_twisted : odd r ≡ true → IsSmaller m places root (flag_of flags) r
      small_twisted set = grind (arith, common_steps, flag_odd, no_weight)

      smaller_here : IsOpen m root r → IsSmaller m places root (flag_of flags) r
      smaller_here o =
          grind (arith, common_steps, by_area, small_straight, small_twisted, some_bare)

      volume_off : odd r ≡ false → back r ≡ false → volume_in m places root (flag_of flags) r
          ≡ (sum_of r).volume
      volume_off un b =
          patch_total root r m.faces (λ f. volume_at m places (flag_of flags f) f)
          (λ f. volume_at m places (parity f) f)
          (λ f l at. ap (λ (x : Bool). volume_at m places x f) (flag_off un b f l at))
          ∙ sym (s.each r low).volume

      volume_on : odd r ≡ false → back r ≡ true → volume_in m places root (flag_of flags) r
          ≡ neg_ℤ (sum_of r).volume
      volume_on un b =
          patch_opposite root r m.faces (λ f. volume_at m places (parity f) f)
          (λ f. volume_at m places (flag_of flags f) f) (λ f l at.
          ap (λ (x : Bool). volume_at m places x f) (flag_on un b f l at)
          ∙ volume_turned m places (parity f) f)
          ∙ ap neg_ℤ (sym (s.each r low).volume)

      no_volume : odd r ≡ false → (sum_of r).volume ≡ pos 0
          → volume_in m places root (flag_of flags) r ≡ pos 0
      no_volume un zero = grind (arith, common_steps, volume_off, volume_on)

      outward_here : IsClosed m root r → HasClash m root r → odd r ≡ false
          → IsOutward m places root (flag_of flags) r
      outward_here closed h un =
          let v : ℤ = volume_in m places root (flag_of flags) r in
          elim (by_volumes (sum_of r) (none_bare r low own closed) (some_odd r low own un h)) [
            | inl (zero, told) ↦ record {
              volume = subst (λ (z : ℤ). pos 0 ≤ℤ z) (sym (no_volume un zero))
                  (at_least_own (pos 0));
              flat = λ _. small_straight un told;
            }
            | inr two ↦
                elim two [
                  | inl (above, ne, b) ↦ record {
                    volume = subst (λ (z : ℤ). pos 0 ≤ℤ z) (sym (volume_off un b)) above;
                    flat = λ e. absurd (ne (sym (volume_off un b) ∙ e));
                  }
                  | inr (above, ne, b) ↦ record {
                    volume = subst (λ (z : ℤ). pos 0 ≤ℤ z) (sym (volume_on un b)) above;
                    flat = λ e. absurd (ne (sym (volume_on un b) ∙ e));
                  }
                ]
          ]

    pub chosen : AreChosenTurns m places flags
    unfolding agreeing
    chosen = record {
      agreeing = agreeing;
      least = root;
      patches = patches;
      same = same;
      smaller = λ r o. let l : face_of o.side < m.faces =
          omega (arith, o.in_range) in
          smaller_here r (root_low (face_of o.side) r l o.here)
          (root_own (face_of o.side) r l o.here) o;
      outward = λ r closed h un.
          let l = one_in m h.side h.mate h.mates in
          let own = root_own (face_of h.side) r l h.here in
          outward_here r (root_low (face_of h.side) r l h.here) own closed h (ap odd (sym own)
          ∙ un);
    }
