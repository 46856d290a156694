-- Border sides, and the pairs at a vertex to which none leads or from which none leads on.
use Rattle.std.proofs.Common.{◌≡◌, ℕ, ◌⊎◌, inl, inr, refl, sym, ap, ◌∙◌, subst, arith}
use Rattle.std.proofs.lemmas.Grind.{common_steps}
use Rattle.std.proofs.lemmas.Bool.{cases_eq}
use Rattle.pm_base.specs.Sides.{Net, next, prev, side_count, to, third, Stands, twin_of}
use Rattle.pm_base.specs.Sides.{IsBorderSide, IsBorder}
use Rattle.pm_base.specs.Fans.{IsPairAt}
use Rattle.pm_base.proofs.Search.{Decided, option_cases, search_below}
use Rattle.pm_base.proofs.Sides.{next-next-next, stands_next, turn}
use Rattle.pm_base.proofs.TwinLaws.{stands?, twin-is, twin-none}
use Rattle.pm_base.proofs.Rounds.{IsFirst, border_first, pair_out, pair_in}
use Rattle.pm_seams.specs.Joined.{HasSide, HasBorderSide}

-- The pair of a side whose two ends are known.
abbrev has :
    (m : Net) (x y e : ℕ) → Stands m e → m.from e ≡ x → to m e ≡ y → IsPairAt m x y (third m e)
has m x y e s begins ends = record { side = e; stands = s; at = begins; one = ends; two = refl }

-- A border side runs where the mesh has a side one way and none the other way.
pub side_alone : (m : Net) (x y : ℕ) → HasBorderSide m x y → HasSide m x y × (HasSide m y x → ⊥)
side_alone m x y b = (
  (third m b.side, has m x y b.side b.border.stands b.begins b.ends),
  λ (z, f).
      b.border.alone f.side
      (record { stands = f.stands; begins = f.at ∙ sym b.ends; ends = f.one ∙ sym b.begins }),
)

pub alone_side : (m : Net) (x y : ℕ) → HasSide m x y → (HasSide m y x → ⊥) → HasBorderSide m x y
alone_side m x y (z, f) none = record {
  side = f.side;
  border = record {
    stands = f.stands;
    alone = λ g t. none (third m g, has m y x g t.stands (t.begins ∙ f.one) (t.ends ∙ f.at));
  };
  begins = f.at;
  ends = f.one;
}

-- x is the first of a pair at v, or the second.
abbrev pub IsFirstIn : Net → ℕ → ℕ → Type 0
IsFirstIn m v x = (y : ℕ) × IsPairAt m v x y

abbrev pub IsSecondIn : Net → ℕ → ℕ → Type 0
IsSecondIn m v y = (x : ℕ) × IsPairAt m v x y

module _ (m : Net) (v : ℕ) where
  -- A pair leads to the first of each pair, or the side to it is on the border.
  pub led_to : (x y : ℕ) → IsPairAt m v x y → HasBorderSide m v x ⊎ IsSecondIn m v x
  led_to x y f =
      elim (option_cases (twin_of m f.side)) [
        | inl none ↦ inl (record {
          side = f.side;
          border = record { stands = f.stands; alone = twin-none m f.side none };
          begins = f.at;
          ends = f.one;
        })
        | inr (g, is) ↦
            let t = twin-is m f.side g is in
            let h = has m x v g t.stands (t.begins ∙ f.one) (t.ends ∙ f.at) in
            inr (third m g, turn m x v (third m g) h)
      ]

  -- A pair leads on from the second of each pair, or the side from it is on the border.
  pub leads_on : (x y : ℕ) → IsPairAt m v x y → HasBorderSide m y v ⊎ IsFirstIn m v y
  leads_on x y f =
      let e : ℕ = prev f.side in
      let begins : m.from e ≡ y = f.two in
      let ends : to m e ≡ v = ap m.from (next-next-next f.side) ∙ f.at in
      elim (option_cases (twin_of m e)) [
        | inl none ↦ inl (record {
          side = e;
          border = record {
            stands = stands_next m (next f.side) (stands_next m f.side f.stands);
            alone = twin-none m e none;
          };
          begins = begins;
          ends = ends;
        })
        | inr (g, is) ↦
            let t = twin-is m e g is in
            inr (third m g, has m v y g t.stands (t.begins ∙ ends) (t.ends ∙ begins))
      ]

  -- A border side that goes out begins a pair to which none leads,
  pub out_first : (x : ℕ) → HasBorderSide m v x → IsFirst m v x
  out_first x b z f =
      border_first m v b.side b.border b.begins z (subst (IsPairAt m v z) (sym b.ends) f)

  pub out_pair : (x : ℕ) → HasBorderSide m v x → IsFirstIn m v x
  out_pair x b =
      let z = third m b.side in
      (z, subst (λ i. IsPairAt m v i z) b.ends (pair_out m v b.side b.border b.begins))

  -- and one that comes in ends a pair.
  pub in_pair : (y : ℕ) → HasBorderSide m y v → IsSecondIn m v y
  in_pair y b =
      let z = third m b.side in
      (z, subst (IsPairAt m v z) b.begins (pair_in m v b.side b.border b.ends))

  border_side? : (e : ℕ) → Decided (IsBorderSide m e)
  border_side? e =
      elim (stands? m e) [
        | inr never ↦ inr (λ b. never b.stands)
        | inl t ↦
            elim (option_cases (twin_of m e)) [
              | inl none ↦ inl (record { stands = t; alone = twin-none m e none })
              | inr (g, is) ↦ inr (λ b. b.alone g (twin-is m e g is))
            ]
      ]

  abbrev IsEndAt : ℕ → Type 0
  IsEndAt e = IsBorderSide m e × ((m.from e ≡ v) ⊎ (to m e ≡ v))

  end? : (e : ℕ) → Decided (IsBorderSide m e × ((m.from e ≡ v) ⊎ (to m e ≡ v)))
  end? e =
      elim (border_side? e) [
        | inr never ↦ inr (λ h. never h.0)
        | inl b ↦
            elim (cases_eq (m.from e) v) [
              | inl is ↦ inl (b, inl is)
              | inr first ↦
                  elim (cases_eq (to m e) v) [
                    | inl is ↦ inl (b, inr is)
                    | inr second ↦ inr (λ h. elim h.1 [ inl is ↦ first is | inr is ↦ second is ])
                  ]
            ]
      ]

  pub border? : Decided (IsBorder m v)
  border? =
      elim (search_below IsEndAt end? (side_count m)) [
        | inl (e, l, (b, at)) ↦ inl (e, b, at)
        | inr none ↦ inr (λ h. none h.0 h.1.stands.is_side (h.1, h.2))
      ]

  pub second? : (y : ℕ) → Decided (IsSecondIn m v y)
  second? y =
      elim (search_below (λ e. Stands m e × (m.from e ≡ v) × (third m e ≡ y)) (λ e.
      elim (stands? m e) [
        | inr never ↦ inr (λ h. never h.0)
        | inl t ↦ grind (arith, common_steps)
      ]) (side_count m)) [
        | inl (e, l, (t, a, b)) ↦
            inl (to m e, record { side = e; stands = t; at = a; one = refl; two = b })
        | inr none ↦ inr (λ (x, f). none f.side f.stands.is_side (f.stands, f.at, f.two))
      ]
