-- What a fan is, by going round; where a fan is open and where closed; and the fans of an oriented
-- manifold.
use Rattle.std.proofs.Common.{◌≡◌, ℕ, zero, suc, ◌-◌, ◌<◌, ◌≤◌, ◌⊎◌, inl, inr, refl, sym, ap, ◌∙◌}
use Rattle.std.proofs.lemmas.Grind.{common_steps}
use Rattle.std.proofs.Common.{subst, arith}
use Rattle.std.proofs.lemmas.Bool.{cases_eq}
use Rattle.pm_base.specs.Sides.{Net, side_count, to, third, Stands, NoSideTwice, IsBorderSide}
use Rattle.pm_base.specs.Sides.{IsBorder}
use Rattle.pm_base.specs.Fans.{IsPairAt, IsUsed, IsChain, IsDistinctBelow, IsOpen, IsClosedChain}
use Rattle.pm_base.specs.Fans.{IsFan, IsOrientedManifold}
use Rattle.pm_base.specs.Rounds.{Goes, stay, on, IsRound, NoMirrorAt}
use Rattle.pm_base.proofs.Search.{Decided, search_below}
use Rattle.pm_base.proofs.Sides.{turn}
use Rattle.pm_base.proofs.TwinLaws.{stands?}
use Rattle.pm_base.proofs.Rounds.{uncons, pair_out, pair_in, border_first, border_last}
use Rattle.pm_base.proofs.FanWalks.{walk_ends, cover, trail_fan, three}

same_place : (w : ℕ → ℕ) (n i j : ℕ) → IsDistinctBelow w n → i < n → j < n → w i ≡ w j → i ≡ j
same_place w n i j d a b is = grind (arith, common_steps)

-- The place after place i in a closed chain.
after : (w : ℕ → ℕ) (n i : ℕ) → 3 ≤ n → w n ≡ w 0 → i < n → (r : ℕ) × (r < n) × (w (suc i) ≡ w r)
    × ((r ≡ suc i) ⊎ ((suc i ≡ n) × (r ≡ 0)))
after w n i big closed l =
    elim (cases_eq (suc i) n) [
      | inl is ↦ (0, omega arith, ap w is ∙ closed, inr (is, refl))
      | inr ne ↦ (suc i, omega arith, refl, inl refl)
    ]

-- A fan has no two faces with the same corners, and is gone round.
pub fan_no_mirror : (m : Net) (v : ℕ) → IsFan m v → NoMirrorAt m v
fan_no_mirror m v fan x y f g =
    let (i, i_lt, xi, yi) = fan.chain.all x y f in
    let (j, j_lt, yj, xj) = fan.chain.all y x g in
    elim fan.ends [
      | inl d ↦
          let a = same_place fan.w (suc fan.n) (suc i) j d (omega arith) (omega arith)
          (sym yi ∙ yj) in
          let b = same_place fan.w (suc fan.n) (suc j) i d (omega arith) (omega arith)
          (sym xj ∙ xi) in
          absurd (omega arith)
      | inr (big, closed, d) ↦
          let (r, r_lt, r_is, r_how) = after fan.w fan.n i big closed i_lt in
          let (q, q_lt, q_is, q_how) = after fan.w fan.n j big closed j_lt in
          let a = same_place fan.w fan.n r j d r_lt j_lt (sym r_is ∙ sym yi ∙ yj) in
          let b = same_place fan.w fan.n q i d q_lt i_lt (sym q_is ∙ sym xj ∙ xi) in
          absurd (omega arith)
    ]

chain_goes : (m : Net) (v : ℕ) (w : ℕ → ℕ) (n : ℕ) → IsChain m v w n → (i : ℕ) → i ≤ n
    → Goes m v (w 0) (w i)
chain_goes m v w n c zero l = stay
chain_goes m v w n c (suc i) l = on (chain_goes m v w n c i (omega arith)) (c.here i (omega arith))

pub fan_round : (m : Net) (v : ℕ) → IsFan m v → IsRound m v
fan_round m v fan = (
  fan.w 0,
  λ x y f. let (i, l, xi, yi) =
      fan.chain.all x y f in
      subst (λ z. Goes m v (fan.w 0) z) (sym xi)
      (chain_goes m v fan.w fan.n fan.chain i (omega arith)),
)

-- And the other way: where all pairs are met by going round, and no two faces have the same
-- corners, they are a fan.
pub used? : (m : Net) (v : ℕ) → Decided (IsUsed m v)
used? m v =
    elim (search_below (λ e. Stands m e × (m.from e ≡ v)) (λ e.
    elim (stands? m e) [
      | inr never ↦ inr (λ h. never h.0)
      | inl t ↦ elim (cases_eq (m.from e) v) [
        | inl a ↦ inl (t, a)
        | inr never ↦
            inr (λ h. never h.1)
      ]
    ]) (side_count m)) [
      | inl (e, l, (t, a)) ↦ inl (e, t, a)
      | inr none ↦ inr (λ h. none h.0 h.1.is_side (h.1, h.2))
    ]

pub unused_fan : (m : Net) (v : ℕ) → (IsUsed m v → ⊥) → IsFan m v
unused_fan m v unused = record {
  w = λ i. i;
  n = 0;
  chain = record {
    here = λ i l. absurd (omega arith);
    all = λ x y f. absurd (unused (f.side, f.stands, f.at));
  };
  ends = inl (λ i j l b. absurd (omega arith));
}

fan_from : (m : Net) (once : NoSideTwice m) (v : ℕ) → NoMirrorAt m v → (round : IsRound m v)
    → (a : ℕ) → Stands m a → m.from a ≡ v → round.0 ≡ to m a → IsFan m v
fan_from m once v plain (c, all) a t at_v is =
    let (k, trail, end) = walk_ends m once a t in
    trail_fan m once v a t at_v k trail
    (elim end [ inl o ↦ inl o | inr o ↦ inr (o, three m once v a t at_v k trail plain o) ])
    (λ x y f. cover m once v a t at_v k trail end (all x y f) is y f)

pub round_fan : (m : Net) (once : NoSideTwice m) (v : ℕ) → NoMirrorAt m v → IsRound m v → IsFan m v
round_fan m once v plain (c, all) =
    elim (used? m v) [
      | inr unused ↦ unused_fan m v unused
      | inl (e, t, a) ↦
          let f : IsPairAt m v (to m e) (third m e) = grind (arith, common_steps) in
          elim (uncons m once v (all (to m e) (third m e) f)) [
            | inl is ↦ fan_from m once v plain (c, all) e t a is
            | inr (b, g, w) ↦ fan_from m once v plain (c, all) g.side g.stands g.at (sym g.one)
          ]
    ]

-- In a closed fan a pair leads to each first and a pair leads on from each second, so no side at
-- the vertex is alone.
led_to : (m : Net) (v : ℕ) (fan : IsFan m v) → IsClosedChain fan.w fan.n → (i : ℕ) → i < fan.n
    → (z : ℕ) × IsPairAt m v z (fan.w i)
led_to m v fan (big, closed, d) zero l =
    let last : suc (fan.n - 1) ≡ fan.n = omega arith in (
      fan.w (fan.n - 1),
      subst (λ x. IsPairAt m v (fan.w (fan.n - 1)) x) (ap fan.w last ∙ closed)
          (fan.chain.here (fan.n - 1) (omega arith)),
    )
led_to m v fan (big, closed, d) (suc i) l = (fan.w i, fan.chain.here i (omega arith))

leads_on : (m : Net) (v : ℕ) (fan : IsFan m v) → IsClosedChain fan.w fan.n → (i : ℕ) → i < fan.n
    → (z : ℕ) × IsPairAt m v (fan.w (suc i)) z
leads_on m v fan (big, closed, d) i l =
    let (r, r_lt, r_is, r_how) = after fan.w fan.n i big closed l in
    (fan.w (suc r), subst (λ x. IsPairAt m v x (fan.w (suc r))) (sym r_is) (fan.chain.here r r_lt))

pub closed_inner : (m : Net) (v : ℕ) (fan : IsFan m v) → IsClosedChain fan.w fan.n → IsBorder m v
    → ⊥
closed_inner m v fan closed (e, b, at) =
    elim at [
      | inl is ↦
          let (i, l, xi, yi) = fan.chain.all (to m e) (third m e) (pair_out m v e b is) in
          let (z, f) = led_to m v fan closed i l in
          border_first m v e b is z (subst (λ x. IsPairAt m v z x) (sym xi) f)
      | inr is ↦
          let (i, l, xi, yi) = fan.chain.all (third m e) (m.from e) (pair_in m v e b is) in
          let (z, f) = leads_on m v fan closed i l in
          border_last m v e b is z (subst (λ x. IsPairAt m v x z) (sym yi) f)
    ]

-- In an open fan nothing leads to the first vertex, so the side to it is alone.
pub open_border : (m : Net) (v : ℕ) (fan : IsFan m v) → IsUsed m v → IsOpen fan.w fan.n
    → IsBorder m v
open_border m v fan (e, t, at) d =
    let (i, l, xi, yi) =
    fan.chain.all (to m e) (third m e) (record {
      side = e;
      stands = t;
      at = at;
      one = refl;
      two = refl;
    }) in
    let f = fan.chain.here 0 (omega arith) in
    let alone : IsBorderSide m f.side = record {
      stands = f.stands;
      alone = λ g w.
          let h : IsPairAt m v (third m g) (fan.w 0) =
          turn m (fan.w 0) v (third m g)
          (record {
            side = g;
            stands = w.stands;
            at = w.begins ∙ f.one;
            one = w.ends ∙ f.at;
            two = refl;
          }) in
          let (j, jl, xj, yj) = fan.chain.all (third m g) (fan.w 0) h in
          d 0 (suc j) (omega arith) (omega arith) yj;
    } in
    (f.side, alone, inl f.at)

module _ (m : Net) (manifold : IsOrientedManifold m) where
  pub every_fan : (v : ℕ) → IsFan m v
  every_fan v = elim (used? m v) [ inl u ↦ manifold.fans v u | inr unused ↦ unused_fan m v unused ]

  pub every_round : (v : ℕ) → IsRound m v
  every_round v = fan_round m v (every_fan v)

  pub no_mirror : (v : ℕ) → NoMirrorAt m v
  no_mirror v = fan_no_mirror m v (every_fan v)
