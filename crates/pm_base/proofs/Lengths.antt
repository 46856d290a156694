-- Lengths and distances of integer vectors: the laws of `Squares` on natural numbers, axis by axis.
use Rattle.std.proofs.Common.{ℕ, ◌+◌, ◌*◌, ◌<◌, ◌≤◌, arith}
use Rattle.std.proofs.lemmas.Grind.{common_steps}
use Rattle.std.proofs.Math.Nat.{le_trans}
use Rattle.std.specs.Prelude.{◌-ℤ◌, unsigned_abs}
use Rattle.std.proofs.lemmas.Nat.{mul-le}
use Rattle.std.proofs.lemmas.Int.{unsigned_abs-mul}
use Rattle.pm_base.specs.Place.{Place}
use Rattle.pm_base.specs.Geometry.{Direction, dot_of, dist2_of, norm2_of, plus_of}
use Rattle.pm_base.proofs.Squares.{cauchy, sum_le, sum_lt_left, sum_lt_right, abs_plus, abs_between}

-- If each number of one vector is at most the sum of two others', its squared length is at most
-- that of the sum.
squares_le : (x y z a b c d e f : ℕ) → x ≤ a + d → y ≤ b + e → z ≤ c + f
    → x * x + y * y + z * z ≤ (a + d) * (a + d) + (b + e) * (b + e) + (c + f) * (c + f)
squares_le x y z a b c d e f p q r =
    let p2 = mul-le x x (a + d) (a + d) p p in
    let q2 = mul-le y y (b + e) (b + e) q q in
    let r2 = mul-le z z (c + f) (c + f) r r in
    omega arith

abs_dot : (u v : Direction)
    → unsigned_abs (dot_of u v) ≤ unsigned_abs u.x * unsigned_abs v.x + unsigned_abs
    u.y * unsigned_abs v.y + unsigned_abs u.z * unsigned_abs v.z
abs_dot u v = grind (arith, common_steps, abs_plus, unsigned_abs-mul)

pub dot_le : (u v : Direction)
    → unsigned_abs (dot_of u v) * unsigned_abs (dot_of u v) ≤ norm2_of u * norm2_of v
dot_le u v =
    let s : ℕ = unsigned_abs u.x * unsigned_abs v.x + unsigned_abs u.y * unsigned_abs
    v.y + unsigned_abs u.z * unsigned_abs v.z in
    let p = mul-le (unsigned_abs (dot_of u v)) (unsigned_abs (dot_of u v)) s s (abs_dot u v)
    (abs_dot u v) in
    let q = cauchy (unsigned_abs u.x) (unsigned_abs u.y) (unsigned_abs u.z) (unsigned_abs v.x)
    (unsigned_abs v.y) (unsigned_abs v.z) in
    le_trans p q

plus_le : (u v : Direction)
    → norm2_of (plus_of u v) ≤ (unsigned_abs u.x + unsigned_abs v.x)
    * (unsigned_abs u.x + unsigned_abs v.x) + (unsigned_abs u.y + unsigned_abs v.y)
    * (unsigned_abs u.y + unsigned_abs v.y) + (unsigned_abs u.z + unsigned_abs v.z)
    * (unsigned_abs u.z + unsigned_abs v.z)
plus_le u v = squares_le _ _ _ _ _ _ _ _ _ (abs_plus u.x v.x) (abs_plus u.y v.y) (abs_plus u.z v.z)

≤_lt : {a b c : ℕ} → a ≤ b → b < c → a < c
≤_lt p q = omega arith

pub lengths_le : (u v : Direction) (a b m : ℕ) → norm2_of u ≤ a * a * m → norm2_of v ≤ b * b * m
    → norm2_of (plus_of u v) ≤ (a + b) * (a + b) * m
lengths_le u v a b m p q = le_trans (plus_le u v) (sum_le _ _ _ _ _ _ a b m p q)

pub lengths_first : (u v : Direction) (a b m : ℕ) → norm2_of u < a * a * m → norm2_of v ≤ b * b * m
    → norm2_of (plus_of u v) < (a + b) * (a + b) * m
lengths_first u v a b m p q = ≤_lt (plus_le u v) (sum_lt_left _ _ _ _ _ _ a b m p q)

pub lengths_second : (u v : Direction) (a b m : ℕ) → norm2_of u ≤ a * a * m → norm2_of v < b * b * m
    → norm2_of (plus_of u v) < (a + b) * (a + b) * m
lengths_second u v a b m p q = ≤_lt (plus_le u v) (sum_lt_right _ _ _ _ _ _ a b m p q)

-- of places
way_le : (p q r : Place)
    → dist2_of p r ≤ (unsigned_abs (p.x -ℤ q.x) + unsigned_abs (q.x -ℤ r.x))
    * (unsigned_abs (p.x -ℤ q.x) + unsigned_abs (q.x -ℤ r.x))
    + (unsigned_abs (p.y -ℤ q.y) + unsigned_abs (q.y -ℤ r.y))
    * (unsigned_abs (p.y -ℤ q.y) + unsigned_abs (q.y -ℤ r.y))
    + (unsigned_abs (p.z -ℤ q.z) + unsigned_abs (q.z -ℤ r.z))
    * (unsigned_abs (p.z -ℤ q.z) + unsigned_abs (q.z -ℤ r.z))
way_le p q r =
    squares_le _ _ _ _ _ _ _ _ _ (abs_between p.x q.x r.x) (abs_between p.y q.y r.y)
    (abs_between p.z q.z r.z)

pub distances_le : (p q r : Place) (a b m : ℕ) → dist2_of p q ≤ a * a * m → dist2_of q r ≤ b * b * m
    → dist2_of p r ≤ (a + b) * (a + b) * m
distances_le p q r a b m s t = le_trans (way_le p q r) (sum_le _ _ _ _ _ _ a b m s t)

pub distances_first : (p q r : Place) (a b m : ℕ) → dist2_of p q < a * a * m
    → dist2_of q r ≤ b * b * m → dist2_of p r < (a + b) * (a + b) * m
distances_first p q r a b m s t = ≤_lt (way_le p q r) (sum_lt_left _ _ _ _ _ _ a b m s t)

pub distances_second : (p q r : Place) (a b m : ℕ) → dist2_of p q ≤ a * a * m
    → dist2_of q r < b * b * m → dist2_of p r < (a + b) * (a + b) * m
distances_second p q r a b m s t = ≤_lt (way_le p q r) (sum_lt_right _ _ _ _ _ _ a b m s t)
