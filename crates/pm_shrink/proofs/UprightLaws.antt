-- That no face turns over: at each end, at every corner, and at a vertex that stays.
use Rattle.std.proofs.Common.{◌≡◌, ℕ, arith, true, ◌&&◌, List}
use Rattle.std.proofs.lemmas.Grind.{common_steps}
use Rattle.std.proofs.Common.{inl, inr, refl, sym, ◌∙◌, subst}
use Rattle.std.proofs.lemmas.Bool.{and_parts}
use Rattle.pm_base.specs.Sides.{Net, to, third}
use Rattle.pm_links.specs.Lists.{has}
use Rattle.pm_runs.specs.Pairs.{StaysUpright, StayUpright}
use Rattle.pm_base.specs.Place.{Place}
use Rattle.pm_base.specs.Geometry.{Direction, cross_of, dot_of}
use Rattle.std.specs.Prelude.{ℤ, pos, negsuc, ◌+ℤ◌, ◌*ℤ◌, ◌≤ℤ◌}
use borrow.Author.Differences.{ints}
use Rattle.std.specs.Ordering.{int_eq}
use Rattle.std.proofs.lemmas.Bool.Decides.{Decides-int_eq}
use Rattle.pm_runs.specs.Surfaces.{Surface, net_of_surface, place_at}
use Rattle.pm_shrink.specs.Shrinking.{AreCornersAt}
use Rattle.pm_shrink.specs.Walks.{KeepsUpright}
use Rattle.pm_shrink.specs.Walks.{StayUprightAt}

-- That no face turns over is told of each end in turn.
pub upright_from : (s : Surface) (a b : ℕ) (place : Place) → StayUprightAt s a b place
    → StayUprightAt s b a place → StayUpright s a b place
upright_from s a b place one other e p q pair st at x y =
    let m : Net = net_of_surface s in
    elim pair [
      | inl k ↦ subst (λ (v : ℕ). StaysUpright s place v (to m e) (third m e)) (sym k.0)
          (one e st (at ∙ k.0) (λ z. x (z ∙ sym k.1)) (λ z. y (z ∙ sym k.1)))
      | inr k ↦ subst (λ (v : ℕ). StaysUpright s place v (to m e) (third m e)) (sym k.0)
          (other e st (at ∙ k.0) (λ z. x (z ∙ sym k.1)) (λ z. y (z ∙ sym k.1)))
    ]

pub upright_at_first : (s : Surface) (a b : ℕ) (place : Place) → StayUpright s a b place
    → StayUprightAt s a b place
upright_at_first s a b place all e st at x y = all e a b (inl (refl, refl)) st at x y

pub upright_at_second : (s : Surface) (a b : ℕ) (place : Place) → StayUpright s a b place
    → StayUprightAt s b a place
upright_at_second s a b place all e st at x y = all e b a (inr (refl, refl)) st at x y

-- Where each corner at p keeps its face upright, no face at p turns over.
pub all_upright : (s : Surface) {p : ℕ} (q : ℕ) (place : Place) {xs : List ℕ}
    → AreCornersAt (net_of_surface s) p xs → ((e : ℕ) → has xs e ≡ true → KeepsUpright s q place e)
    → StayUprightAt s p q place
all_upright s {p} q place {xs} are all e st at x y =
    let m : Net = net_of_surface s in
    subst (λ (v : ℕ). StaysUpright s place v (to m e) (third m e)) at
    (all e ((are.each e).1 (st, at)) x y)

-- The product of a vector with itself is never below 0, so no face turns over at a vertex that
-- stays at its place.
own_square : (x : ℤ) → pos 0 ≤ℤ (x *ℤ x)
own_square (pos a) = omega (arith, ints)
own_square (negsuc a) = omega (arith, ints)

three_squares : (x y z : ℤ) → pos 0 ≤ℤ x → pos 0 ≤ℤ y → pos 0 ≤ℤ z → pos 0 ≤ℤ (x +ℤ y +ℤ z)
three_squares x y z p q r = omega (arith, ints)

own_product : (n : Direction) → pos 0 ≤ℤ dot_of n n
own_product n =
    three_squares (n.x *ℤ n.x) (n.y *ℤ n.y) (n.z *ℤ n.z) (own_square n.x) (own_square n.y)
    (own_square n.z)

pub own_upright : (s : Surface) (p q : ℕ) (place : Place) → place ≡ place_at s p
    → StayUprightAt s p q place
own_upright s p q place is e st at x y =
    let m : Net = net_of_surface s in
    subst (λ (k : Place). StaysUpright s k p (to m e) (third m e)) (sym is)
    (own_product (cross_of (place_at s p) (place_at s (to m e)) (place_at s (third m e))))

pub same_place : (p q : Place) → (int_eq p.x q.x && (int_eq p.y q.y && int_eq p.z q.z)) ≡ true
    → p ≡ q
same_place p q t = grind (arith, common_steps, Decides-int_eq, and_parts)
