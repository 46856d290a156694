-- The three corners of a face, in one of its turns.
use Rattle.std.proofs.Common.{◌≡◌, ◌≢◌, ℕ, ◌/◌, ◌⊎◌, inl, inr, refl, sym, ◌∙◌, subst, List}
use Rattle.std.proofs.lemmas.Grind.{common_steps}
use Rattle.std.proofs.Common.{true, false, ◌||◌, arith}
use Rattle.std.specs.Prelude.{◌==◌}
use Rattle.std.proofs.lemmas.Bool.{or_cases, eqb-true, eq-eqb, eqb-false, and_from}
use Rattle.std.proofs.lemmas.Bool.{or_parts, or_left, or_right}
use Rattle.pm_base.specs.declared.mesh.Corners.{Corners}
use Rattle.pm_base.specs.Sides.{Net, next, prev, to, third, net_of}
use Rattle.pm_base.specs.Fans.{IsPairAt}
use Rattle.pm_base.proofs.Sides.{next_cases}
use Rattle.pm_base.proofs.NetLaws.{face_at, from-corner}
use Rattle.pm_fans.specs.Kept.{is_flat, is_corner, is_alike}

-- The corners of a side's face, from the side on: one of the three turns.
pub record AreTurned (k : Corners) (x y z : ℕ) : Type 0 where
  pub a : k.a ≡ x
  pub b : k.b ≡ y
  pub c : k.c ≡ z

abbrev pub Turned : Corners → ℕ → ℕ → ℕ → Type 0
Turned k x y z = AreTurned k x y z ⊎ (AreTurned k z x y ⊎ AreTurned k y z x)

pub side_turned : (fs : List Corners) (e f : ℕ) → e / 3 ≡ f → let m =
    net_of fs in Turned (face_at fs f) (m.from e) (to m e) (third m e)
side_turned fs e f at =
    grind (
      arith,
      common_steps,
      from-corner fs e f 0 at,
      from-corner fs (next e) f 1,
      from-corner fs (prev e) f 2,
      from-corner fs e f 1 at,
      from-corner fs (next e) f 2,
      from-corner fs (prev e) f 0,
      from-corner fs e f 2 at,
      from-corner fs (next e) f 0,
      from-corner fs (prev e) f 1,
      next_cases e,
      next_cases (next e),
    )

-- Three different corners.
pub record Differ (x y z : ℕ) : Type 0 where
  pub xy : x ≢ y
  pub yz : y ≢ z
  pub zx : z ≢ x

pub not_flat : (k : Corners) → is_flat k ≡ false → Differ k.a k.b k.c
not_flat k e = grind (arith, common_steps, eqb-false, or_parts)

pub turned_differ : (k : Corners) (x y z : ℕ) → Differ k.a k.b k.c → Turned k x y z → Differ x y z
turned_differ k x y z d (inl t) = grind (arith, common_steps)
turned_differ k x y z d (inr (inl t)) = grind (arith, common_steps)
turned_differ k x y z d (inr (inr t)) = grind (arith, common_steps)

-- What a face's corners are.
pub corner_a : (k : Corners) (x : ℕ) → k.a ≡ x → is_corner k x ≡ true
corner_a k x e =
    or_left (k.a == x || k.b == x) (k.c == x) (or_left (k.a == x) (k.b == x) (eq-eqb _ _ e))

pub corner_b : (k : Corners) (x : ℕ) → k.b ≡ x → is_corner k x ≡ true
corner_b k x e =
    or_left (k.a == x || k.b == x) (k.c == x) (or_right (k.a == x) (k.b == x) (eq-eqb _ _ e))

pub corner_c : (k : Corners) (x : ℕ) → k.c ≡ x → is_corner k x ≡ true
corner_c k x e = or_right (k.a == x || k.b == x) (k.c == x) (eq-eqb _ _ e)

pub record HasAll (k : Corners) (x y z : ℕ) : Type 0 where
  pub one : is_corner k x ≡ true
  pub two : is_corner k y ≡ true
  pub three : is_corner k z ≡ true

pub turned_has : (k : Corners) (x y z : ℕ) → Turned k x y z → HasAll k x y z
turned_has k x y z (inl t) = grind (arith, common_steps, corner_a, corner_b, corner_c)
turned_has k x y z (inr (inl t)) = grind (arith, common_steps, corner_a, corner_b, corner_c)
turned_has k x y z (inr (inr t)) = grind (arith, common_steps, corner_a, corner_b, corner_c)

all_alike : (k g : Corners) (a b c : ℕ) → HasAll k a b c → AreTurned g a b c → is_alike k g ≡ true
unfolding is_alike
all_alike k g a b c h t = grind (arith, common_steps, and_from)

pub turned_alike : (k g : Corners) (x y z : ℕ) → HasAll k x y z → Turned g x y z
    → is_alike k g ≡ true
turned_alike k g x y z h (inl t) = all_alike k g x y z h t
turned_alike k g x y z h (inr (inl t)) =
    all_alike k g z x y (record { one = h.three; two = h.one; three = h.two }) t
turned_alike k g x y z h (inr (inr t)) =
    all_alike k g y z x (record { one = h.two; two = h.three; three = h.one }) t

pair_turned : (fs : List Corners) (v x y : ℕ) (f : IsPairAt (net_of fs) v x y)
    → Turned (face_at fs (f.side / 3)) v x y
pair_turned fs v x y f =
    let m : Net = net_of fs in
    let k : Corners = face_at fs (f.side / 3) in
    let t = side_turned fs f.side (f.side / 3) refl in
    let t2 = subst (λ i. Turned k (m.from f.side) (to m f.side) i) f.two t in
    let t1 = subst (λ i. Turned k (m.from f.side) i y) f.one t2 in
    subst (λ i. Turned k i x y) f.at t1

-- Two faces with the same corners in opposite orders are alike, either to the other.
pub mirrors_alike : (fs : List Corners) (v x y : ℕ) (f : IsPairAt (net_of fs) v x y)
    (g : IsPairAt (net_of fs) v y x) → is_alike (face_at fs (g.side / 3)) (face_at fs (f.side / 3))
    ≡ true
mirrors_alike fs v x y f g =
    let h = turned_has _ _ _ _ (pair_turned fs v y x g) in
    turned_alike _ _ _ _ _ (record { one = h.one; two = h.three; three = h.two })
    (pair_turned fs v x y f)

-- A corner is one of the three.
module _ (k : Corners) (x p q r : ℕ) where
  at_a : Turned k p q r → k.a ≡ x → (p ≡ x) ⊎ ((q ≡ x) ⊎ (r ≡ x))
  at_a (inl t) w = inl (sym t.a ∙ w)
  at_a (inr (inl t)) w = inr (inr (sym t.a ∙ w))
  at_a (inr (inr t)) w = inr (inl (sym t.a ∙ w))

  at_b : Turned k p q r → k.b ≡ x → (p ≡ x) ⊎ ((q ≡ x) ⊎ (r ≡ x))
  at_b (inl t) w = inr (inl (sym t.b ∙ w))
  at_b (inr (inl t)) w = inl (sym t.b ∙ w)
  at_b (inr (inr t)) w = inr (inr (sym t.b ∙ w))

  at_c : Turned k p q r → k.c ≡ x → (p ≡ x) ⊎ ((q ≡ x) ⊎ (r ≡ x))
  at_c (inl t) w = inr (inr (sym t.c ∙ w))
  at_c (inr (inl t)) w = inr (inl (sym t.c ∙ w))
  at_c (inr (inr t)) w = inl (sym t.c ∙ w)

pub which : (k : Corners) (x p q r : ℕ) → Turned k p q r → is_corner k x ≡ true
    → (p ≡ x) ⊎ ((q ≡ x) ⊎ (r ≡ x))
which k x p q r t e =
    elim (or_cases (k.a == x || k.b == x) (k.c == x) e) [
      | inl u ↦
          elim (or_cases (k.a == x) (k.b == x) u) [
            | inl w ↦ at_a k x p q r t (eqb-true _ _ w)
            | inr w ↦ at_b k x p q r t (eqb-true _ _ w)
          ]
      | inr w ↦ at_c k x p q r t (eqb-true _ _ w)
    ]
