-- Whether a pair may be collapsed can be decided.
use Rattle.std.proofs.Common.{◌≡◌, ◌≢◌, ℕ, pos, ◌⊎◌, inl, inr, refl, sym, subst, arith}
use Rattle.std.proofs.lemmas.Bool.{cases_eq}
use Rattle.std.proofs.lemmas.Int.{by_lt_z, ints}
use Rattle.pm_base.specs.Place.{Place}
use Rattle.pm_base.specs.Geometry.{cross_of, dot_of}
use Rattle.pm_base.specs.Sides.{Net, side_count, next, prev, to, third, Stands, NoSideTwice}
use Rattle.pm_base.specs.Sides.{HasNoTwin, IsBorder, twin_of}
use Rattle.pm_base.proofs.Search.{Decided, search_below, option_cases}
use Rattle.pm_base.proofs.TwinLaws.{stands?, twin-is, twin-none}
use Rattle.pm_runs.specs.Surfaces.{Surface, place_at, net_of_surface}
use Rattle.pm_runs.specs.Pairs.{Runs, HasSide, Joined, Links, IsThird, HasFace, StaysUpright}
use Rattle.pm_runs.specs.Pairs.{StayUpright, IsLegalPair}
use Rattle.pm_runs.specs.Merged.{IsLinkable}
use Rattle.pm_runs.proofs.Legal.{legal-linkable, linkable-legal, link_stands}
use Rattle.pm_runs.proofs.MergedRounds.{border?}
use Rattle.pm_simplify.proofs.Decisions.{both?, three?, four?, five?, either?, never?, at_side?}

module _ (m : Net) where
  runs? : (e p q : ℕ) → Decided (Runs m e p q)
  runs? e p q =
      elim (three? (stands? m e) (cases_eq (m.from e) p) (cases_eq (to m e) q)) [
        | inl h ↦ inl (record { stands = h.0; begins = h.1; ends = h.2 })
        | inr n ↦ inr (λ r. n (r.stands, r.begins, r.ends))
      ]

  has_side? : (p q : ℕ) → Decided (HasSide m p q)
  has_side? p q =
      at_side? (side_count m) (λ e. Runs m e p q) (λ e. runs? e p q) (λ e r. r.stands.is_side)

  joined? : (p q : ℕ) → Decided (Joined m p q)
  joined? p q = either? (has_side? p q) (has_side? q p)

  links? : (e p q : ℕ) → Decided (Links m e p q)
  links? e p q = either? (runs? e p q) (runs? e q p)

  is_third? : (p q w : ℕ) → Decided (IsThird m p q w)
  is_third? p q w =
      elim (at_side? (side_count m) (λ e. Links m e p q × (third m e ≡ w))
      (λ e. both? (links? e p q) (cases_eq (third m e) w))
      (λ e h. (link_stands m e p q h.0).is_side)) [
        | inl (e, h) ↦ inl (e, h.0, h.1)
        | inr never ↦ inr (λ h. never (h.0, (h.1, h.2)))
      ]

  has_face? : (a b c : ℕ) → Decided (HasFace m a b c)
  has_face? a b c =
      elim (at_side? (side_count m) (λ e. Stands m e × (m.from e ≡ a)
      × (((to m e ≡ b) × (third m e ≡ c)) ⊎ ((to m e ≡ c) × (third m e ≡ b))))
      (λ e. three? (stands? m e) (cases_eq (m.from e) a)
      (either? (both? (cases_eq (to m e) b) (cases_eq (third m e) c))
      (both? (cases_eq (to m e) c) (cases_eq (third m e) b))))
      (λ e h. h.0.is_side)) [
        | inl (e, h) ↦ inl (e, h.0, h.1, h.2)
        | inr never ↦ inr (λ h. never (h.0, (h.1, h.2, h.3)))
      ]

  no_twin? : (e : ℕ) → Decided (HasNoTwin m e)
  no_twin? e =
      elim (option_cases (twin_of m e)) [
        | inl none ↦ inl (twin-none m e none)
        | inr (g, is) ↦ inr (λ alone. alone g (twin-is m e g is))
      ]

  module _ (t u : ℕ) where
    -- A common neighbour that is no third corner.
    abbrev IsStray : ℕ → Type 0
    IsStray w = Joined m t w × Joined m u w × (IsThird m t u w → ⊥)

    stray? : (w : ℕ) → Decided (IsStray w)
    stray? w = three? (joined? t w) (joined? u w) (never? (is_third? t u w))

    common? : Decided ((w : ℕ) → Joined m t w → Joined m u w → IsThird m t u w)
    common? =
        elim (search_below (λ e. IsStray (m.from e) ⊎ IsStray (to m e))
        (λ e. either? (stray? (m.from e)) (stray? (to m e))) (side_count m)) [
          | inl (e, l, inl s) ↦ inr (λ all. s.2 (all (m.from e) s.0 s.1))
          | inl (e, l, inr s) ↦ inr (λ all. s.2 (all (to m e) s.0 s.1))
          | inr none ↦ inl (λ w x y.
              elim (is_third? t u w) [
                | inl is ↦ is
                | inr never ↦ elim x [
                  | inl (e, r) ↦
                      absurd (none e r.stands.is_side
                      (inr (subst IsStray (sym r.ends) (inl (e, r), y, never))))
                  | inr (e, r) ↦
                      absurd (none e r.stands.is_side
                      (inl (subst IsStray (sym r.begins) (inr (e, r), y, never))))
                ]
              ])
        ]

    abbrev AreMirrored : ℕ → ℕ → Type 0
    AreMirrored e g =
        Runs m e t u × Runs m g u t × HasFace m t (third m e) (third m g)
        × HasFace m u (third m e) (third m g)

    mirrored? : (e g : ℕ) → Decided (AreMirrored e g)
    mirrored? e g =
        four? (runs? e t u) (runs? g u t) (has_face? t (third m e) (third m g))
        (has_face? u (third m e) (third m g))

    thirds? : Decided ((e g : ℕ) → Runs m e t u → Runs m g u t → HasFace m t (third m e) (third m g)
        → HasFace m u (third m e) (third m g) → ⊥)
    thirds? =
        elim (at_side? (side_count m) (λ e. (g : ℕ) × AreMirrored e g)
        (λ e. at_side? (side_count m) (AreMirrored e) (mirrored? e) (λ g h. h.1.stands.is_side))
        (λ e h. h.1.0.stands.is_side)) [
          | inl (e, h) ↦ inr (λ all. all e h.0 h.1.0 h.1.1 h.1.2 h.1.3)
          | inr none ↦ inl (λ e g a b c d. none (e, (g, (a, b, c, d))))
        ]

    abbrev IsAlone : ℕ → Type 0
    IsAlone e = Links m e t u × HasNoTwin m e × HasNoTwin m (next e) × HasNoTwin m (prev e)

    single? : Decided ((e : ℕ) → Links m e t u → HasNoTwin m e → HasNoTwin m (next e)
        → HasNoTwin m (prev e) → ⊥)
    single? =
        elim (at_side? (side_count m) IsAlone
        (λ e. four? (links? e t u) (no_twin? e) (no_twin? (next e)) (no_twin? (prev e)))
        (λ e h. (link_stands m e t u h.0).is_side)) [
          | inl (e, h) ↦ inr (λ all. all e h.0 h.1 h.2 h.3)
          | inr none ↦ inl (λ e a b c d. none (e, (a, b, c, d)))
        ]

    borders? : Decided (IsBorder m t → IsBorder m u → HasSide m t u → HasSide m u t → ⊥)
    borders? =
        elim (four? (border? m t) (border? m u) (has_side? t u) (has_side? u t)) [
          | inl h ↦ inr (λ all. all h.0 h.1 h.2 h.3)
          | inr none ↦ inl (λ a b c d. none (a, b, c, d))
        ]

    linkable? : Decided (IsLinkable m t u)
    linkable? =
        elim (five? (joined? t u) common? thirds? borders? single?) [
          | inl h ↦ inl (record {
            joined = h.0;
            apart = record { common = h.1; thirds = h.2 };
            border = h.3;
            single = h.4;
          })
          | inr n ↦ inr (λ k. n (k.joined, k.apart.common, k.apart.thirds, k.border, k.single))
        ]

module _ (s : Surface) (a b : ℕ) (place : Place) where
  abbrev net : Net
  net = net_of_surface s

  -- The face of side e has p and not q as a corner, and turns over.
  abbrev TurnsOver : ℕ → ℕ → ℕ → Type 0
  TurnsOver p q e =
      Stands net e × (net.from e ≡ p) × (to net e ≢ q) × (third net e ≢ q)
      × (StaysUpright s place p (to net e) (third net e) → ⊥)

  upright? : (p v w : ℕ) → Decided (StaysUpright s place p v w)
  upright? p v w =
      let product =
      dot_of (cross_of place (place_at s v) (place_at s w))
      (cross_of (place_at s p) (place_at s v) (place_at s w)) in
      by_lt_z product (pos 0) (λ under. inr (λ up. omega (arith, ints, under, up))) (λ up. inl up)

  turns_over? : (p q e : ℕ) → Decided (TurnsOver p q e)
  turns_over? p q e =
      five? (stands? net e) (cases_eq (net.from e) p) (never? (cases_eq (to net e) q))
      (never? (cases_eq (third net e) q)) (never? (upright? p (to net e) (third net e)))

  stay_upright? : Decided (StayUpright s a b place)
  stay_upright? =
      elim (at_side? (side_count net) (λ e. TurnsOver a b e ⊎ TurnsOver b a e)
      (λ e. either? (turns_over? a b e) (turns_over? b a e))
      (λ e h. elim h [ inl k ↦ k.0.is_side | inr k ↦ k.0.is_side ])) [
        | inl (e, inl k) ↦ inr (λ all. k.4 (all e a b (inl (refl, refl)) k.0 k.1 k.2 k.3))
        | inl (e, inr k) ↦ inr (λ all. k.4 (all e b a (inr (refl, refl)) k.0 k.1 k.2 k.3))
        | inr none ↦ inl (λ e p q pair st at x y.
            elim (upright? p (to net e) (third net e)) [
              | inl up ↦ up
              | inr over ↦
                  elim pair [
                    | inl k ↦ absurd
                        (none (
                          e,
                          inl
                              (subst (λ i. TurnsOver a i e) k.1
                              (subst (λ i. TurnsOver i q e) k.0 (st, at, x, y, over))),
                        ))
                    | inr k ↦ absurd
                        (none (
                          e,
                          inr
                              (subst (λ i. TurnsOver b i e) k.1
                              (subst (λ i. TurnsOver i q e) k.0 (st, at, x, y, over))),
                        ))
                  ]
            ])
      ]

  pub legal? : NoSideTwice net → Decided (IsLegalPair s a b place)
  legal? once =
      elim (both? (linkable? net a b) stay_upright?) [
        | inl h ↦ inl (linkable-legal s once a b place h.0 h.1)
        | inr n ↦ inr (λ legal. n (legal-linkable s a b place legal, legal.upright))
      ]
