-- The least product of a box is at most every product in it.
use Rattle.std.proofs.Common.{ℕ, ◌+◌, ◌*◌, ◌≤◌, arith}
use Rattle.std.proofs.lemmas.Grind.{common_steps}
use Rattle.std.specs.Prelude.{ℤ, pos, ◌+ℤ◌, ◌-ℤ◌, ◌*ℤ◌, ◌≤ℤ◌, unsigned_abs}
use Rattle.std.specs.Int.{int_min}
use Rattle.std.proofs.lemmas.Int.{clamps}
use borrow.Author.Differences.{ints}
use Rattle.pm_base.specs.Place.{Place}
use Rattle.pm_base.specs.Geometry.{Direction, dot_of, dist2_of}
use Rattle.pm_base.proofs.Squares.{root_le}
use Rattle.pm_bounds.proofs.ListLaws.{≤ℤ_by}
use Rattle.pm_deviation.proofs.Products.{least_one, least_turned, min_below, three_le}
use Rattle.pm_view.specs.Wanted.{Bounded, least_product, least_facing}
use Rattle.pm_view.specs.Laws.{way}
use Rattle.pm_view.proofs.Premises.{IsChild, IsCorner, least_on_axis}

min_both : (a b c d x y : ℤ) → int_min a c ≤ℤ x → int_min b d ≤ℤ y
    → int_min (int_min a b) (int_min c d) ≤ℤ int_min x y
min_both a b c d x y p q = omega (arith, ints, clamps)

pub least_product_le : (a b c d x y : ℤ) → a ≤ℤ x → x ≤ℤ b → c ≤ℤ y → y ≤ℤ d
    → least_product a b c d ≤ℤ (x *ℤ y)
least_product_le a b c d x y p q r s =
    ≤ℤ_by (least_product a b c d) (int_min (x *ℤ c) (x *ℤ d)) (x *ℤ y)
    (min_both (a *ℤ c) (a *ℤ d) (b *ℤ c) (b *ℤ d) (x *ℤ c) (x *ℤ d) (least_turned c a b x p q)
    (least_turned d a b x p q))
    (least_one x c d y r s)

-- a smaller box has no smaller product
pub least_product_grows : (a b c d a' b' c' d' : ℤ) → a ≤ℤ a' → a' ≤ℤ b' → b' ≤ℤ b → c ≤ℤ c'
    → c' ≤ℤ d' → d' ≤ℤ d → least_product a b c d ≤ℤ least_product a' b' c' d'
least_product_grows a b c d a' b' c' d' p q r s t u =
    let bl = ≤ℤ_by a' b' b q r in
    let al = ≤ℤ_by a a' b' p q in
    let dl = ≤ℤ_by c' d' d t u in
    let cl = ≤ℤ_by c c' d' s t in
    let all = least_product a b c d in
    min_below all (int_min (a' *ℤ c') (a' *ℤ d')) (int_min (b' *ℤ c') (b' *ℤ d'))
    (min_below all (a' *ℤ c') (a' *ℤ d') (least_product_le a b c d a' c' p bl s dl)
    (least_product_le a b c d a' d' p bl cl u))
    (min_below all (b' *ℤ c') (b' *ℤ d') (least_product_le a b c d b' c' al r s dl)
    (least_product_le a b c d b' d' al r cl u))

-- each axis of a way is at most as long as the way
one_of_three : (x y z d : ℕ) → x * x + y * y + z * z ≤ d * d → (x ≤ d) × (y ≤ d) × (z ≤ d)
one_of_three x y z d h =
    (root_le x d (omega arith), root_le y d (omega arith), root_le z d (omega arith))

pub axes_near : (p q : Place) (d : ℕ) → dist2_of p q ≤ d * d → (unsigned_abs (p.x -ℤ q.x) ≤ d)
    × (unsigned_abs (p.y -ℤ q.y) ≤ d) × (unsigned_abs (p.z -ℤ q.z) ≤ d)
axes_near p q d h =
    one_of_three (unsigned_abs (p.x -ℤ q.x)) (unsigned_abs (p.y -ℤ q.y)) (unsigned_abs (p.z -ℤ q.z))
    d h

pub lower : (p q e : ℤ) (d s r : ℕ) → unsigned_abs (p -ℤ q) ≤ d → s + d ≤ r
    → (p -ℤ pos r -ℤ e) ≤ℤ (q -ℤ pos s -ℤ e)
lower p q e d s r h l = omega (arith, ints)

pub upper : (p q e : ℤ) (d s r : ℕ) → unsigned_abs (p -ℤ q) ≤ d → s + d ≤ r
    → (q +ℤ pos s -ℤ e) ≤ℤ (p +ℤ pos r -ℤ e)
upper p q e d s r h l = omega (arith, ints)

pub middle : (q e : ℤ) (s : ℕ) → (q -ℤ pos s -ℤ e) ≤ℤ (q +ℤ pos s -ℤ e)
middle q e s = omega (arith, ints)

axis_grows : (a b a' b' p q e : ℤ) (d s r : ℕ) → a ≤ℤ a' → a' ≤ℤ b' → b' ≤ℤ b
    → unsigned_abs (p -ℤ q) ≤ d → s + d ≤ r → least_on_axis a b p r e ≤ℤ least_on_axis a' b' q s e
axis_grows a b a' b' p q e d s r u v w h l =
    least_product_grows a b (p -ℤ pos r -ℤ e) (p +ℤ pos r -ℤ e) a' b' (q -ℤ pos s -ℤ e)
    (q +ℤ pos s -ℤ e) u v w (lower p q e d s r h l) (middle q e s) (upper p q e d s r h l)

pub facing_child : (child parent : Bounded) (eye : Place) → IsChild child parent
    → least_facing parent eye ≤ℤ least_facing child eye
unfolding least_facing
facing_child s b eye h = grind (arith, common_steps, axes_near, axis_grows, three_le)

pub lower_end : (p q e : ℤ) (r : ℕ) → unsigned_abs (p -ℤ q) ≤ r → (p -ℤ pos r -ℤ e) ≤ℤ (q -ℤ e)
lower_end p q e r h = omega (arith, ints)

pub upper_end : (p q e : ℤ) (r : ℕ) → unsigned_abs (p -ℤ q) ≤ r → (q -ℤ e) ≤ℤ (p +ℤ pos r -ℤ e)
upper_end p q e r h = omega (arith, ints)

axis_corner : (a b n p q e : ℤ) (r : ℕ) → a ≤ℤ n → n ≤ℤ b → unsigned_abs (p -ℤ q) ≤ r
    → least_on_axis a b p r e ≤ℤ (n *ℤ (q -ℤ e))
axis_corner a b n p q e r u v h =
    least_product_le a b (p -ℤ pos r -ℤ e) (p +ℤ pos r -ℤ e) n (q -ℤ e) u v (lower_end p q e r h)
    (upper_end p q e r h)

pub facing_corner : (b : Bounded) (n : Direction) (q eye : Place) → IsCorner b n q
    → least_facing b eye ≤ℤ dot_of n (way q eye)
unfolding least_facing
facing_corner b n q eye h = grind (arith, common_steps, axes_near, axis_corner, three_le)
