-- The third test: distances times tol.
use Rattle.std.proofs.Common.{ℕ, ◌+◌, ◌*◌, ◌<◌, ◌≤◌, arith}
use Rattle.std.proofs.Math.Nat.{le_refl}
use Rattle.std.specs.Prelude.{◌-ℤ◌, unsigned_abs}
use Rattle.std.proofs.lemmas.Nat.{mul-le}
use Rattle.pm_base.specs.Place.{Place}
use Rattle.pm_base.specs.Geometry.{dist2_of}
use Rattle.pm_base.proofs.Squares.{abs_between, sum_lt_right}

squares_le : (k x y z a b c d e f : ℕ) → x ≤ a + d → y ≤ b + e → z ≤ c + f
    → k * k * (x * x + y * y + z * z) ≤ (k * a + k * d) * (k * a + k * d) + (k * b + k * e)
    * (k * b + k * e) + (k * c + k * f) * (k * c + k * f)
squares_le k x y z a b c d e f p q r =
    let p1 = mul-le k x k (a + d) (le_refl k) p in
    let q1 = mul-le k y k (b + e) (le_refl k) q in
    let r1 = mul-le k z k (c + f) (le_refl k) r in
    omega (
      arith,
      mul-le (k * x) (k * x) (k * (a + d)) (k * (a + d)) p1 p1,
      mul-le (k * y) (k * y) (k * (b + e)) (k * (b + e)) q1 q1,
      mul-le (k * z) (k * z) (k * (c + f)) (k * (c + f)) r1 r1,
    )

scaled_by : (x y z a b c d e f k m n : ℕ) → x ≤ a + d → y ≤ b + e → z ≤ c + f
    → k * k * (a * a + b * b + c * c) ≤ m * m → k * k * (d * d + e * e + f * f) < n * n
    → k * k * (x * x + y * y + z * z) < (m + n) * (m + n)
scaled_by x y z a b c d e f k m n p q r h l =
    omega (
      arith,
      squares_le k x y z a b c d e f p q r,
      sum_lt_right (k * a) (k * b) (k * c) (k * d)
          (k * e) (k * f) m n 1 (omega arith) (omega arith),
    )

-- the way from p by q to r, k times
pub scaled : (p q r : Place) (k a b : ℕ) → k * k * dist2_of p q ≤ a * a
    → k * k * dist2_of q r < b * b → k * k * dist2_of p r < (a + b) * (a + b)
scaled p q r k a b h l =
    scaled_by (unsigned_abs (p.x -ℤ r.x)) (unsigned_abs (p.y -ℤ r.y)) (unsigned_abs (p.z -ℤ r.z))
    (unsigned_abs (p.x -ℤ q.x)) (unsigned_abs (p.y -ℤ q.y)) (unsigned_abs (p.z -ℤ q.z))
    (unsigned_abs (q.x -ℤ r.x)) (unsigned_abs (q.y -ℤ r.y)) (unsigned_abs (q.z -ℤ r.z)) k a b
    (abs_between p.x q.x r.x) (abs_between p.y q.y r.y) (abs_between p.z q.z r.z) h l
