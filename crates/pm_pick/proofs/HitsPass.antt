-- A hit passes the tests, and so the test without weights is right.
use Rattle.std.proofs.Common.{◌≡◌, ℕ, ◌+◌, ◌<◌, true, refl, sym, ap, ◌∙◌, subst, arith}
use Rattle.std.proofs.lemmas.Grind.{common_steps}
use Rattle.std.specs.Prelude.{ℤ, pos, neg_ℤ, ◌+ℤ◌, ◌-ℤ◌, ◌*ℤ◌, ◌≤ℤ◌, int_le, unsigned_abs}
use Rattle.std.proofs.lemmas.Bool.{and_parts, and_from, ltb-true, lt-ltb}
use borrow.Author.Differences.{ints}
use Rattle.pm_base.specs.Place.{Place}
use Rattle.pm_base.specs.Geometry.{Direction, dot_of}
use Rattle.pm_base.proofs.Ring.{diff-of, diff_same, add-diff, mul-diff, neg-diff, pos_is_diff}
use Rattle.pm_pick.specs.Rays.{Ray, product_of, way_from}
use Rattle.pm_pick.specs.Hits.{sign_turned, slope_of, height_of, IsHit, is_hit}
use Rattle.pm_pick.specs.Laws.{TestsAreEnough, HitsPassTests}
use Rattle.pm_pick.proofs.Vectors.{turn, nothing, nothing_too, normal_by_corners}
use Rattle.pm_pick.proofs.Turned.{turned-times, turned-self, turned-abs, up_factor}
use Rattle.pm_pick.proofs.HitLaws.{PassesTests, flip, passing_is, back, weights}

-- Small steps over whole numbers.
taken : (k t x y z : ℤ) → k +ℤ t ≡ k +ℤ (x +ℤ y +ℤ z) → y +ℤ z ≡ t -ℤ x
taken k t x y z e = omega (arith, ints)

negated : (x y z : ℤ) → y ≡ neg_ℤ z → x +ℤ y ≡ pos 0 → x ≡ z
negated x y z p q = omega (arith, ints)

neg_right : (w y : ℤ) → w *ℤ neg_ℤ y ≡ neg_ℤ (w *ℤ y)
neg_right w y =
    rw (diff-of w, diff-of y) (simp (neg-diff, mul-diff) (diff_same _ _ _ _ (omega arith)))

three_times : (w x y z : ℤ) → w *ℤ (x +ℤ y +ℤ z) ≡ w *ℤ x +ℤ w *ℤ y +ℤ w *ℤ z
three_times w x y z =
    rw (diff-of w, diff-of x, diff-of y, diff-of z)
    (simp (add-diff, mul-diff) (diff_same _ _ _ _ (omega arith)))

three_times_left : (u v w z : ℤ) → (u +ℤ v +ℤ w) *ℤ z ≡ u *ℤ z +ℤ v *ℤ z +ℤ w *ℤ z
three_times_left u v w z =
    rw (diff-of u, diff-of v, diff-of w, diff-of z)
    (simp (add-diff, mul-diff) (diff_same _ _ _ _ (omega arith)))

gathered : (x y z x' y' : ℤ) → x ≡ x' → y ≡ y' → x +ℤ y +ℤ z ≡ x' +ℤ y' +ℤ z
gathered x y z x' y' p q = rw (p, q) refl

cycle3 : (x y z : ℤ) → x +ℤ y +ℤ z ≡ y +ℤ z +ℤ x
cycle3 x y z = omega (arith, ints)

cycled : (u v w q : ℤ) → u +ℤ v +ℤ w ≡ q → v +ℤ w +ℤ u ≡ q
cycled u v w q e = omega (arith, ints)

pos_up : (s : ℕ) → pos 0 ≤ℤ pos s
pos_up s = omega (arith, ints)

-- The weights of a hit are no others than these: s d = u a + v b + w c with ways from the origin.
seen : (o d a b c : ℤ) (q s u v w : ℤ) → u +ℤ v +ℤ w ≡ q
    → q *ℤ o +ℤ s *ℤ d ≡ u *ℤ a +ℤ v *ℤ b +ℤ w *ℤ c
    → v *ℤ (b -ℤ o) +ℤ w *ℤ (c -ℤ o) ≡ s *ℤ d -ℤ u *ℤ (a -ℤ o)
seen o d a b c q s u v w p e =
    let there = back o a b c u v w in
    let same : (u +ℤ v +ℤ w) *ℤ o +ℤ s *ℤ d
    ≡ (u +ℤ v +ℤ w) *ℤ o +ℤ (u *ℤ (a -ℤ o) +ℤ v *ℤ (b -ℤ o) +ℤ w *ℤ (c -ℤ o)) =
    ap (λ (t : ℤ). t *ℤ o +ℤ s *ℤ d) p ∙ e ∙ there in
    taken ((u +ℤ v +ℤ w) *ℤ o) (s *ℤ d) (u *ℤ (a -ℤ o)) (v *ℤ (b -ℤ o)) (w *ℤ (c -ℤ o)) same

seen_next : (o d a b c : ℤ) (q s u v w : ℤ) → u +ℤ v +ℤ w ≡ q
    → q *ℤ o +ℤ s *ℤ d ≡ u *ℤ a +ℤ v *ℤ b +ℤ w *ℤ c
    → w *ℤ (c -ℤ o) +ℤ u *ℤ (a -ℤ o) ≡ s *ℤ d -ℤ v *ℤ (b -ℤ o)
seen_next o d a b c q s u v w p e =
    seen o d b c a q s v w u (cycled u v w q p) (e ∙ cycle3 (u *ℤ a) (v *ℤ b) (w *ℤ c))

seen_last : (o d a b c : ℤ) (q s u v w : ℤ) → u +ℤ v +ℤ w ≡ q
    → q *ℤ o +ℤ s *ℤ d ≡ u *ℤ a +ℤ v *ℤ b +ℤ w *ℤ c
    → u *ℤ (a -ℤ o) +ℤ v *ℤ (b -ℤ o) ≡ s *ℤ d -ℤ w *ℤ (c -ℤ o)
seen_last o d a b c q s u v w p e =
    seen_next o d b c a q s v w u (cycled u v w q p) (e ∙ cycle3 (u *ℤ a) (v *ℤ b) (w *ℤ c))

-- A sum of two ways times a third, in both of its forms.
spread : (v w bx by bz cx cy cz k l m : ℤ) →
    (v *ℤ bx +ℤ w *ℤ cx) *ℤ k +ℤ (v *ℤ by +ℤ w *ℤ cy) *ℤ l +ℤ (v *ℤ bz +ℤ w *ℤ cz) *ℤ m
    ≡ v *ℤ (bx *ℤ k +ℤ by *ℤ l +ℤ bz *ℤ m) +ℤ w *ℤ (cx *ℤ k +ℤ cy *ℤ l +ℤ cz *ℤ m)
spread v w bx by bz cx cy cz k l m =
    rw (
      diff-of v,
      diff-of w,
      diff-of bx,
      diff-of by,
      diff-of bz,
      diff-of cx,
      diff-of cy,
      diff-of cz,
      diff-of k,
      diff-of l,
      diff-of m,
    )
    (simp (add-diff, mul-diff) (diff_same _ _ _ _ (omega arith)))

spread_minus : (v w bx by bz cx cy cz k l m : ℤ) →
    (v *ℤ bx -ℤ w *ℤ cx) *ℤ k +ℤ (v *ℤ by -ℤ w *ℤ cy) *ℤ l +ℤ (v *ℤ bz -ℤ w *ℤ cz) *ℤ m
    ≡ v *ℤ (bx *ℤ k +ℤ by *ℤ l +ℤ bz *ℤ m) -ℤ w *ℤ (cx *ℤ k +ℤ cy *ℤ l +ℤ cz *ℤ m)
spread_minus v w bx by bz cx cy cz k l m =
    rw (
      diff-of v,
      diff-of w,
      diff-of bx,
      diff-of by,
      diff-of bz,
      diff-of cx,
      diff-of cy,
      diff-of cz,
      diff-of k,
      diff-of l,
      diff-of m,
    )
    (simp (add-diff, neg-diff, mul-diff) (diff_same _ _ _ _ (omega arith)))

zero_minus : (x y s u : ℤ) → x ≡ pos 0 → y ≡ pos 0 → s *ℤ x -ℤ u *ℤ y ≡ pos 0
zero_minus x y s u p q =
    rw (p, q, diff-of s, diff-of u, pos_is_diff 0)
    (simp (add-diff, neg-diff, mul-diff) (diff_same _ _ _ _ (omega arith)))

-- d . (a x c) is -(d . (c x a))
swapped_minor : (py pz qy qz : ℤ) → py *ℤ qz -ℤ pz *ℤ qy ≡ neg_ℤ (qy *ℤ pz -ℤ qz *ℤ py)
swapped_minor py pz qy qz =
    rw (diff-of py, diff-of pz, diff-of qy, diff-of qz)
    (simp (add-diff, neg-diff, mul-diff) (diff_same _ _ _ _ (omega arith)))

neg_dot : (dx dy dz x y z : ℤ) → dx *ℤ neg_ℤ x +ℤ dy *ℤ neg_ℤ y +ℤ dz *ℤ neg_ℤ z
    ≡ neg_ℤ (dx *ℤ x +ℤ dy *ℤ y +ℤ dz *ℤ z)
neg_dot dx dy dz x y z =
    rw (diff-of dx, diff-of dy, diff-of dz, diff-of x, diff-of y, diff-of z)
    (simp (add-diff, neg-diff, mul-diff) (diff_same _ _ _ _ (omega arith)))

swapped : (d p q : Direction) → dot_of d (product_of p q) ≡ neg_ℤ (dot_of d (product_of q p))
swapped d p q = grind (arith, common_steps, neg_dot, swapped_minor)

times_neg : (v w x y : ℤ) → v *ℤ x +ℤ w *ℤ neg_ℤ y ≡ pos 0 → v *ℤ x ≡ w *ℤ y
times_neg v w x y e = negated (v *ℤ x) (w *ℤ neg_ℤ y) (w *ℤ y) (neg_right w y) e

-- v times the weight of c is w times the weight of b.
parallel : (A B C d : Direction) (s u v w : ℤ)
    → v *ℤ B.x +ℤ w *ℤ C.x ≡ s *ℤ d.x -ℤ u *ℤ A.x
    → v *ℤ B.y +ℤ w *ℤ C.y ≡ s *ℤ d.y -ℤ u *ℤ A.y
    → v *ℤ B.z +ℤ w *ℤ C.z ≡ s *ℤ d.z -ℤ u *ℤ A.z
    → v *ℤ dot_of d (product_of A B) ≡ w *ℤ dot_of d (product_of C A)
parallel A B C d s u v w p q r =
    let m = product_of d A in
    let both : v *ℤ dot_of B m +ℤ w *ℤ dot_of C m ≡ pos 0 =
    sym (spread v w B.x B.y B.z C.x C.y C.z m.x m.y m.z)
    ∙ (rw (p, q, r) (spread_minus s u d.x d.y d.z A.x A.y A.z m.x m.y m.z))
    ∙ zero_minus (dot_of d m) (dot_of A m) s u (nothing_too d A) (nothing d A) in
    let turned_b : dot_of B m ≡ dot_of d (product_of A B) = sym (turn d A B) in
    let turned_c : dot_of C m ≡ neg_ℤ (dot_of d (product_of C A)) =
    sym (turn d A C) ∙ swapped d A C in
    times_neg v w (dot_of d (product_of A B)) (dot_of d (product_of C A))
    (sym (ap (λ (t : ℤ). v *ℤ t +ℤ w *ℤ dot_of C m) turned_b
    ∙ ap (λ (t : ℤ). v *ℤ dot_of d (product_of A B) +ℤ w *ℤ t) turned_c) ∙ both)

-- So each weight times the slope is the code's number times q.
weight : (u v w U V W : ℤ) → w *ℤ U ≡ u *ℤ W → v *ℤ W ≡ w *ℤ V
    → w *ℤ (U +ℤ V +ℤ W) ≡ (u +ℤ v +ℤ w) *ℤ W
weight u v w U V W p q =
    three_times w U V W ∙ gathered (w *ℤ U) (w *ℤ V) (w *ℤ W) (u *ℤ W) (v *ℤ W) p (sym q)
    ∙ sym (three_times_left u v w W)

not_below : (n W : ℤ) (q w : ℕ) → 0 < q → q ≡ unsigned_abs n → pos w *ℤ n ≡ pos q *ℤ W
    → pos 0 ≤ℤ sign_turned n W
not_below n W q w l is e = grind (arith, common_steps, flip, turned-self, turned-times, up_factor)

slope_sum : (a b c : Place) (r : Ray) → slope_of a b c r
    ≡ dot_of r.way (product_of (way_from r.origin b) (way_from r.origin c)) +ℤ dot_of r.way
    (product_of (way_from r.origin c) (way_from r.origin a)) +ℤ dot_of r.way
    (product_of (way_from r.origin a) (way_from r.origin b))
unfolding slope_of
slope_sum a b c r = normal_by_corners a b c r.origin r.way

hit_passes : (a b c : Place) (r : Ray) (s q : ℕ) → IsHit a b c r s q → PassesTests a b c r
hit_passes a b c r s q h =
    let n = slope_of a b c r in
    let o = r.origin in
    let A = way_from o a in
    let B = way_from o b in
    let C = way_from o c in
    let U = dot_of r.way (product_of B C) in
    let V = dot_of r.way (product_of C A) in
    let W = dot_of r.way (product_of A B) in
    let u = pos h.u in
    let v = pos h.v in
    let w = pos h.w in
    let whole : u +ℤ v +ℤ w ≡ pos q = omega (arith, ints, h.whole) in
    let vw : v *ℤ W ≡ w *ℤ V = parallel A B C r.way (pos s) u v w
    (seen o.x r.way.x a.x b.x c.x (pos q) (pos s) u v w whole h.x)
    (seen o.y r.way.y a.y b.y c.y (pos q) (pos s) u v w whole h.y)
    (seen o.z r.way.z a.z b.z c.z (pos q) (pos s) u v w whole h.z) in
    let wu : w *ℤ U ≡ u *ℤ W = parallel B C A r.way (pos s) v w u
    (seen_next o.x r.way.x a.x b.x c.x (pos q) (pos s) u v w whole h.x)
    (seen_next o.y r.way.y a.y b.y c.y (pos q) (pos s) u v w whole h.y)
    (seen_next o.z r.way.z a.z b.z c.z (pos q) (pos s) u v w whole h.z) in
    let uv : u *ℤ V ≡ v *ℤ U = parallel C A B r.way (pos s) w u v
    (seen_last o.x r.way.x a.x b.x c.x (pos q) (pos s) u v w whole h.x)
    (seen_last o.y r.way.y a.y b.y c.y (pos q) (pos s) u v w whole h.y)
    (seen_last o.z r.way.z a.z b.z c.z (pos q) (pos s) u v w whole h.z) in
    let sum = slope_sum a b c r in
    let wn : w *ℤ n ≡ pos q *ℤ W =
    ap (λ (t : ℤ). w *ℤ t) sum ∙ weight u v w U V W wu vw ∙ ap (λ (t : ℤ). t *ℤ W) whole in
    let un : u *ℤ n ≡ pos q *ℤ U =
    ap (λ (t : ℤ). u *ℤ t) (sum ∙ cycle3 U V W) ∙ weight v w u V W U uv wu
    ∙ ap (λ (t : ℤ). t *ℤ U) (cycled u v w (pos q) whole) in
    let vn : v *ℤ n ≡ pos q *ℤ V =
    ap (λ (t : ℤ). v *ℤ t) (sum ∙ cycle3 U V W ∙ cycle3 V W U) ∙ weight w u v W U V vw uv
    ∙ ap (λ (t : ℤ). t *ℤ V) (cycled v w u (pos q) (cycled u v w (pos q) whole)) in
    record {
      crosses = subst (λ (k : ℕ). 0 < k) h.slope h.crosses;
      ahead = subst (λ (z : ℤ). pos 0 ≤ℤ z) h.ahead (pos_up s);
      bc = subst (λ (z : ℤ). pos 0 ≤ℤ sign_turned n z) (sym (passing_is b c r))
          (not_below n U q h.u h.crosses h.slope un);
      ca = subst (λ (z : ℤ). pos 0 ≤ℤ sign_turned n z) (sym (passing_is c a r))
          (not_below n V q h.v h.crosses h.slope vn);
      ab = subst (λ (z : ℤ). pos 0 ≤ℤ sign_turned n z) (sym (passing_is a b r))
          (not_below n W q h.w h.crosses h.slope wn);
    }

up_from : (x : ℤ) → int_le (pos 0) x ≡ true → pos 0 ≤ℤ x
up_from x e = omega (arith, ints)

up_to : (x : ℤ) → pos 0 ≤ℤ x → int_le (pos 0) x ≡ true
up_to x h = sym (omega (arith, ints))

one_height : (s t : ℕ) → pos s ≡ pos t → s ≡ t
one_height s t e = omega (arith, ints)

parts : (a b c : Place) (r : Ray) → is_hit a b c r ≡ true → PassesTests a b c r
unfolding is_hit
parts a b c r e = grind (arith, common_steps, and_parts, ltb-true, up_from)

joined : (a b c : Place) (r : Ray) → PassesTests a b c r → is_hit a b c r ≡ true
unfolding is_hit
joined a b c r h = grind (arith, common_steps, and_from, lt-ltb, up_to)

pub tests_enough : TestsAreEnough
tests_enough a b c r e = weights a b c r (parts a b c r e)

pub hits_exact : HitsPassTests
hits_exact a b c r s q h =
    let tests = hit_passes a b c r s q h in
    let n = slope_of a b c r in (
      joined a b c r tests,
      one_height s (unsigned_abs (height_of a b c r))
          (h.ahead ∙ turned-abs n (height_of a b c r) tests.ahead),
      h.slope,
    )
