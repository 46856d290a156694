-- The greatest product of a box is at least every product in it.
use Rattle.std.proofs.Common.{ℕ, ◌+◌, ◌≤◌, arith}
use Rattle.std.proofs.lemmas.Grind.{common_steps}
use Rattle.std.specs.Prelude.{ℤ, pos, ◌+ℤ◌, ◌-ℤ◌, ◌*ℤ◌, ◌≤ℤ◌, unsigned_abs}
use Rattle.std.specs.Int.{int_max}
use Rattle.std.proofs.lemmas.Int.{clamps}
use borrow.Author.Differences.{ints}
use Rattle.pm_base.specs.Place.{Place}
use Rattle.pm_base.specs.Geometry.{Direction, dot_of}
use Rattle.pm_bounds.proofs.ListLaws.{≤ℤ_by}
use Rattle.pm_deviation.proofs.Products.{greatest_one, greatest_turned, max_above, three_le}
use Rattle.pm_view.specs.Wanted.{Bounded, greatest_product, greatest_facing}
use Rattle.pm_view.specs.Laws.{way}
use Rattle.pm_view.proofs.Premises.{IsChild, IsCorner, greatest_on_axis}
use Rattle.pm_view.proofs.FacingLaws.{axes_near, lower, upper, middle, lower_end, upper_end}

max_both : (a b c d x y : ℤ) → x ≤ℤ int_max a c → y ≤ℤ int_max b d
    → int_max x y ≤ℤ int_max (int_max a b) (int_max c d)
max_both a b c d x y p q = omega (arith, ints, clamps)

pub greatest_product_ge : (a b c d x y : ℤ) → a ≤ℤ x → x ≤ℤ b → c ≤ℤ y → y ≤ℤ d
    → (x *ℤ y) ≤ℤ greatest_product a b c d
greatest_product_ge a b c d x y p q r s =
    ≤ℤ_by (x *ℤ y) (int_max (x *ℤ c) (x *ℤ d)) (greatest_product a b c d)
    (greatest_one x c d y r s)
    (max_both (a *ℤ c) (a *ℤ d) (b *ℤ c) (b *ℤ d) (x *ℤ c) (x *ℤ d) (greatest_turned c a b x p q)
    (greatest_turned d a b x p q))

-- a smaller box has no greater product
pub greatest_product_grows : (a b c d a' b' c' d' : ℤ) → a ≤ℤ a' → a' ≤ℤ b' → b' ≤ℤ b → c ≤ℤ c'
    → c' ≤ℤ d' → d' ≤ℤ d → greatest_product a' b' c' d' ≤ℤ greatest_product a b c d
greatest_product_grows a b c d a' b' c' d' p q r s t u =
    let bl = ≤ℤ_by a' b' b q r in
    let al = ≤ℤ_by a a' b' p q in
    let dl = ≤ℤ_by c' d' d t u in
    let cl = ≤ℤ_by c c' d' s t in
    let all = greatest_product a b c d in
    max_above all (int_max (a' *ℤ c') (a' *ℤ d')) (int_max (b' *ℤ c') (b' *ℤ d'))
    (max_above all (a' *ℤ c') (a' *ℤ d') (greatest_product_ge a b c d a' c' p bl s dl)
    (greatest_product_ge a b c d a' d' p bl cl u))
    (max_above all (b' *ℤ c') (b' *ℤ d') (greatest_product_ge a b c d b' c' al r s dl)
    (greatest_product_ge a b c d b' d' al r cl u))

axis_grows : (a b a' b' p q e : ℤ) (d s r : ℕ) → a ≤ℤ a' → a' ≤ℤ b' → b' ≤ℤ b
    → unsigned_abs (p -ℤ q) ≤ d → s + d ≤ r
    → greatest_on_axis a' b' q s e ≤ℤ greatest_on_axis a b p r e
axis_grows a b a' b' p q e d s r u v w h l =
    greatest_product_grows a b (p -ℤ pos r -ℤ e) (p +ℤ pos r -ℤ e) a' b' (q -ℤ pos s -ℤ e)
    (q +ℤ pos s -ℤ e) u v w (lower p q e d s r h l) (middle q e s) (upper p q e d s r h l)

pub turning_child : (child parent : Bounded) (eye : Place) → IsChild child parent
    → greatest_facing child eye ≤ℤ greatest_facing parent eye
unfolding greatest_facing
turning_child s b eye h = grind (arith, common_steps, axes_near, axis_grows, three_le)

axis_corner : (a b n p q e : ℤ) (r : ℕ) → a ≤ℤ n → n ≤ℤ b → unsigned_abs (p -ℤ q) ≤ r
    → (n *ℤ (q -ℤ e)) ≤ℤ greatest_on_axis a b p r e
axis_corner a b n p q e r u v h =
    greatest_product_ge a b (p -ℤ pos r -ℤ e) (p +ℤ pos r -ℤ e) n (q -ℤ e) u v (lower_end p q e r h)
    (upper_end p q e r h)

pub turning_corner : (b : Bounded) (n : Direction) (q eye : Place) → IsCorner b n q
    → dot_of n (way q eye) ≤ℤ greatest_facing b eye
unfolding greatest_facing
turning_corner b n q eye h = grind (arith, common_steps, axes_near, axis_corner, three_le)
