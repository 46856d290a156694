-- One list of flags is chosen, and no other turns less area of an open patch.
use Rattle.std.proofs.Common.{◌≡◌, ℕ, ◌<◌, ◌≤◌, ◌⊎◌, inl, inr, refl, sym, ap, ◌∙◌, subst, Bool}
use Rattle.std.proofs.Common.{true, false, not, ◌&&◌, List, arith}
use Rattle.std.proofs.lemmas.Grind.{common_steps}
use Rattle.std.specs.Prelude.{ℤ, pos, neg_ℤ, ◌≤ℤ◌, ◌==◌}
use Rattle.std.proofs.lemmas.Bool.{cases_Bool}
use Rattle.std.proofs.Math.Bool.{not-not}
use borrow.Author.Differences.{ints}
use Rattle.pm_base.specs.Place.{Place}
use Rattle.pm_base.specs.Sides.{Net, face_of}
use Rattle.pm_turn.specs.Turning.{flag_of, clash, flipped_if, Way, stay, AgreeOnceTurned}
use Rattle.pm_turn.specs.Choice.{AreLeast, IsOpen, IsClosed, Agrees, HasClash, area_at, weight}
use Rattle.pm_turn.specs.Choice.{area_turned_in, area_staying_in, IsSmaller, volume_at, volume_in}
use Rattle.pm_turn.specs.Choice.{IsOutward, AreChosenTurns}
use Rattle.pm_turn.proofs.TurnedFaces.{along, not_both, same_flags, own_not}
use Rattle.pm_turn.proofs.Traced.{way_back, one_in}
use Rattle.pm_turn.proofs.Totals.{total_same, patch_opposite}
use Rattle.pm_turn.proofs.Weights.{weight_same, patch_weight, no_weight}
use Rattle.pm_turn.proofs.Choosing.{volume_turned}

-- The same by another table of least faces.
module _ (m : Net) (places : List Place) (a b : ℕ → ℕ)
    (same : (f : ℕ) → f < m.faces → a f ≡ b f) where
  pub open_by : (r : ℕ) → IsOpen m a r → IsOpen m b r
  open_by r o = grind (arith, common_steps, same)

  clash_by : (r : ℕ) → HasClash m a r → HasClash m b r
  clash_by r h =
      grind (
        arith,
        common_steps,
        one_in m h.side h.mate h.mates,
        same (face_of h.side) (one_in m h.side h.mate h.mates),
      )

  pub agrees_by : (r : ℕ) → Agrees m a r → Agrees m b r
  agrees_by r all e k w at = all e k w (same (face_of e) (one_in m e k w) ∙ at)

  area_by : (p : ℕ → Bool) (r : ℕ) → weight (area_at m places) (λ f. (a f == r) && p f) m.faces
      ≡ weight (area_at m places) (λ f. (b f == r) && p f) m.faces
  area_by p r =
      weight_same (area_at m places) (area_at m places) (λ f. (a f == r) && p f)
      (λ f. (b f == r) && p f) m.faces (λ f l. refl) (λ f l. ap (λ i. (i == r) && p f) (same f l))

  smaller_by : (turned : ℕ → Bool) (r : ℕ) → IsSmaller m places a turned r
      → IsSmaller m places b turned r
  smaller_by turned r h =
      let t = area_by turned r in
      let s = area_by (λ f. not (turned f)) r in
      let small = h.small in
      record { small = omega (arith, t, s, small); first = λ e. h.first (t ∙ e ∙ sym s) }

  pub volume_by : (turned : ℕ → Bool) (r : ℕ)
      → volume_in m places a turned r ≡ volume_in m places b turned r
  volume_by turned r = grind (arith, common_steps, same, total_same)

  outward_by : (turned : ℕ → Bool) (r : ℕ) → IsOutward m places a turned r
      → IsOutward m places b turned r
  outward_by turned r h = grind (arith, common_steps, smaller_by, volume_by)

same_or_not : (a b : Bool) → (a ≡ b) ⊎ (b ≡ not a)
same_or_not a b = grind (arith, common_steps)

flip_not : (p b : Bool) → flipped_if p (not b) ≡ not (flipped_if p b)
flip_not true b = refl
flip_not false b = refl

least_in : (m : Net) (least : ℕ → ℕ) → AreLeast m least → (f : ℕ) → f < m.faces → least f < m.faces
least_in m least h f l = let (p, w) = h.way f l in let b = h.low f f false l stay in
    omega (arith, b, l)

pub least_same : (m : Net) (a b : ℕ → ℕ) → AreLeast m a → AreLeast m b → (f : ℕ) → f < m.faces
    → a f ≡ b f
least_same m a b s t f l =
    let (p, v) = s.way f l in
    let (q, w) = t.way f l in
    let c = s.low f (b f) q l w in
    let d = t.low f (a f) p l v in
    omega (arith, c, d)

flat_volumes : (v w : ℤ) → w ≡ neg_ℤ v → pos 0 ≤ℤ v → pos 0 ≤ℤ w → (v ≡ pos 0) × (w ≡ pos 0)
flat_volumes v w e a b = (omega (arith, ints, e, a, b), omega (arith, ints, e, a, b))

-- Two lists of flags that make neighbours agree, in one patch that isn't twisted.
module _ (m : Net) (least : ℕ → ℕ) (one other : List Bool) (h : AreLeast m least)
    (s : AgreeOnceTurned m one) (t : AgreeOnceTurned m other) (r : ℕ) (us : s.twisted r ≡ false)
    (ut : t.twisted r ≡ false) where
  told : (g : ℕ) → g < m.faces → least g ≡ r
      → (p : Bool) × (flag_of one g ≡ flipped_if p (flag_of one r))
      × (flag_of other g ≡ flipped_if p (flag_of other r))
  told g l at =
      let (p, w) = h.way g l in
      let back = way_back m g r p (subst (λ i. Way m g i p) at w) in
      (p, (along m one s r g p back us).1, (along m other t r g p back ut).1)

  alike : flag_of one r ≡ flag_of other r → (g : ℕ) → g < m.faces → least g ≡ r
      → flag_of one g ≡ flag_of other g
  alike e g l at = let (p, a, b) = told g l at in a ∙ ap (flipped_if p) e ∙ sym b

  reversed : flag_of other r ≡ not (flag_of one r) → (g : ℕ) → g < m.faces → least g ≡ r
      → flag_of other g ≡ not (flag_of one g)
  reversed e g l at = let (p, a, b) = told g l at in
      b ∙ ap (flipped_if p) e ∙ flip_not p (flag_of one r) ∙ ap not (sym a)

  module _ (e : flag_of other r ≡ not (flag_of one r)) (places : List Place) where
    turned_other : area_turned_in m places least (flag_of other) r
        ≡ area_staying_in m places least (flag_of one) r
    turned_other =
        patch_weight (area_at m places) least r m.faces (flag_of other)
        (λ f. not (flag_of one f)) (reversed e)

    staying_other : area_staying_in m places least (flag_of other) r
        ≡ area_turned_in m places least (flag_of one) r
    staying_other =
        patch_weight (area_at m places) least r m.faces (λ f. not (flag_of other f)) (flag_of one)
        (λ f l at. ap not (reversed e f l at) ∙ not-not (flag_of one f))

    both_smaller : IsSmaller m places least (flag_of one) r
        → IsSmaller m places least (flag_of other) r → ⊥
    both_smaller a b = grind (arith, common_steps, own_not, staying_other, turned_other)

    volume_other : volume_in m places least (flag_of other) r
        ≡ neg_ℤ (volume_in m places least (flag_of one) r)
    volume_other =
        patch_opposite least r m.faces (λ f. volume_at m places (flag_of one f) f)
        (λ f. volume_at m places (flag_of other f) f)
        (λ f l at. ap (λ (b : Bool). volume_at m places b f) (reversed e f l at)
        ∙ volume_turned m places (flag_of one f) f)

    both_outward : IsOutward m places least (flag_of one) r
        → IsOutward m places least (flag_of other) r → ⊥
    both_outward a b = grind (arith, common_steps, both_smaller, flat_volumes, volume_other)

module _ (m : Net) (places : List Place) (one other : List Bool) (s : AreChosenTurns m places one)
    (t : AreChosenTurns m places other) where
  same : (f : ℕ) → f < m.faces → t.least f ≡ s.least f
  same f l = least_same m t.least s.least t.patches s.patches f l

  back : (f : ℕ) → f < m.faces → s.least f ≡ t.least f
  back f l = sym (same f l)

  module _ (f : ℕ) (l : f < m.faces) (us : s.agreeing.twisted f ≡ false)
      (ut : t.agreeing.twisted f ≡ false) where
    abbrev r : ℕ
    r = s.least f

    us_r : s.agreeing.twisted r ≡ false
    us_r = let (p, w) = s.patches.way f l in (along m one s.agreeing f r p w us).0

    ut_r : t.agreeing.twisted r ≡ false
    ut_r = let (p, w) = s.patches.way f l in (along m other t.agreeing f r p w ut).0

    never : flag_of other r ≡ not (flag_of one r) → ⊥
    never e =
        let closed : IsClosed m s.least r = λ o.
        both_smaller m s.least one other s.patches s.agreeing t.agreeing r us_r ut_r e places
        (s.smaller r o) (smaller_by m places t.least s.least same (flag_of other) r
        (t.smaller r (open_by m places s.least t.least back r o))) in
        let closed_t : IsClosed m t.least r =
        λ o. closed (open_by m places t.least s.least same r o) in
        let no_clash : HasClash m s.least r → ⊥ = λ h.
        both_outward m s.least one other s.patches s.agreeing t.agreeing r us_r ut_r e places
        (s.outward r closed h us_r)
        (outward_by m places t.least s.least same (flag_of other) r
        (t.outward r closed_t (clash_by m places s.least t.least back r h) ut_r)) in
        let agree : Agrees m s.least r = λ e k a at.
        elim (cases_Bool (clash m e k)) [
          | inr un ↦ un
          | inl c ↦ absurd (no_clash
              (record { side = e; mate = k; mates = a; here = at; clashes = c }))
        ] in
        let agree_t : Agrees m t.least (t.least f) =
        subst (Agrees m t.least) (back f l) (agrees_by m places s.least t.least back r agree) in
        own_not (flag_of one f) (s.same f l agree ∙ sym (t.same f l agree_t)
        ∙ reversed m s.least one other s.patches s.agreeing t.agreeing r us_r ut_r e f l refl)

    equal : flag_of one f ≡ flag_of other f
    equal =
        elim (same_or_not (flag_of one r) (flag_of other r)) [
          | inl e ↦ alike m s.least one other s.patches s.agreeing t.agreeing r us_r ut_r e f l refl
          | inr e ↦ absurd (never e)
        ]

  flag_same : (f : ℕ) → f < m.faces → flag_of one f ≡ flag_of other f
  flag_same f l =
      elim (cases_Bool (s.agreeing.twisted f)) [
        | inl a ↦
            elim (cases_Bool (t.agreeing.twisted f)) [
              | inl b ↦ (s.agreeing.odd f l a).1 ∙ sym (t.agreeing.odd f l b).1
              | inr b ↦ absurd (not_both m other t.agreeing f b (s.agreeing.odd f l a).0)
            ]
        | inr a ↦
            elim (cases_Bool (t.agreeing.twisted f)) [
              | inl b ↦ absurd (not_both m one s.agreeing f a (t.agreeing.odd f l b).0)
              | inr b ↦ equal f l a b
            ]
      ]

  pub chosen_turns_are_one : one ≡ other
  chosen_turns_are_one = same_flags one other (s.agreeing.long ∙ sym t.agreeing.long)
      (λ i l. flag_same i (subst (λ n. i < n) s.agreeing.long l))

-- Twisted is told by odd closed ways, so it is the same all over a patch.
patch_twisted : (m : Net) (flags : List Bool) (t : AgreeOnceTurned m flags) (f g : ℕ) (p : Bool)
    → Way m f g p → t.twisted g ≡ true → t.twisted f ≡ true
patch_twisted m flags t f g p w set = grind (arith, common_steps, along m flags t f g p w)

pub least_area_is_turned : (m : Net) (places : List Place) (flags other : List Bool)
    (t : AreChosenTurns m places flags) → AgreeOnceTurned m other → (r : ℕ) → IsOpen m t.least r
    → area_turned_in m places t.least (flag_of flags) r
    ≤ area_turned_in m places t.least (flag_of other) r
least_area_is_turned m places flags other t s r o =
    let fl : face_of o.side < m.faces = omega (arith, o.in_range) in
    let rl : r < m.faces = subst (λ i. i < m.faces) o.here
    (least_in m t.least t.patches (face_of o.side) fl) in
    elim (cases_Bool (t.agreeing.twisted r)) [
      | inl set ↦
          let none = no_weight (area_at m places) t.least r m.faces (flag_of flags) (λ f l at.
          let (p, w) = t.patches.way f l in
          (t.agreeing.odd f l (patch_twisted m flags t.agreeing f r p
          (subst (λ i. Way m f i p) at w) set)).1) in
          omega (arith, none)
      | inr un ↦
          elim (cases_Bool (s.twisted r)) [
            | inl set ↦ absurd (not_both m flags t.agreeing r un (s.odd r rl set).0)
            | inr us ↦
                elim (same_or_not (flag_of flags r) (flag_of other r)) [
                  | inl e ↦
                      let same =
                      patch_weight (area_at m places) t.least r m.faces (flag_of flags)
                      (flag_of other)
                      (alike m t.least flags other t.patches t.agreeing s r un us e) in
                      omega (arith, same)
                  | inr e ↦
                      let more = turned_other m t.least flags other t.patches t.agreeing s r un us e
                      places in
                      let small = (t.smaller r o).small in
                      omega (arith, more, small)
                ]
          ]
    ]
