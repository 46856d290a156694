-- The linear map that fits numbers of places best, at another place: least squares with a ridge
-- (Hoerl and Kennard 1970), from sums over the places. Coordinates have 32,767 added, so that all
-- sums are natural numbers; how places spread, and how numbers go with them, doesn't change by it.
-- Numbers lose last binary digits, so that each product fits in 128 bits.
use Rattle.std.specs.Prelude.{ℕ, ◌≤◌, ◌<◌, ◌-◌, ◌*◌, ◌/◌, ◌^◌, Bool, ◌&&◌, if◌then◌else◌, nat_le}
use Rattle.std.specs.Prelude.{ℤ, pos, ◌+ℤ◌, ◌-ℤ◌, ◌*ℤ◌, int_lt, unsigned_abs}
use Rattle.std.specs.Int.{int_shr}
use Rattle.pm_fine.specs.declared.matrix.Matrix.{Matrix}
use Rattle.pm_fine.specs.declared.matrix.Vector.{Vector}
use Rattle.pm_fine.specs.Rounded.{near}
use Rattle.pm_fine.specs.Fourth.{times_of, digits_above, short_matrix, short, matrix_digits}
use Rattle.pm_fine.specs.Fourth.{cofactors_of, determinant_of, is_within}
use Rattle.pm_fit.specs.declared.moments.Moments.{Moments}
use Rattle.pm_fit.specs.declared.moments.Spot.{Spot}

-- Some places, and no sum is great.
pub record AreMoments (m : Moments) : Type 0 where
  pub some : 0 < m.count
  pub few : m.count ≤ 2 ^ 20
  pub x : m.places.x ≤ 65534 * m.count
  pub y : m.places.y ≤ 65534 * m.count
  pub z : m.places.z ≤ 65534 * m.count
  pub xx : m.places.xx ≤ 2 ^ 60
  pub xy : m.places.xy ≤ 2 ^ 60
  pub xz : m.places.xz ≤ 2 ^ 60
  pub yy : m.places.yy ≤ 2 ^ 60
  pub yz : m.places.yz ≤ 2 ^ 60
  pub zz : m.places.zz ≤ 2 ^ 60
  pub w : m.numbers.w ≤ 2 ^ 60
  pub wx : m.numbers.wx ≤ 2 ^ 60
  pub wy : m.numbers.wy ≤ 2 ^ 60
  pub wz : m.numbers.wz ≤ 2 ^ 60

-- A place whose coordinates have 32,767 added.
pub record IsSpot (p : Spot) : Type 0 where
  pub x : p.x ≤ 65534
  pub y : p.y ≤ 65534
  pub z : p.z ≤ 65534

-- The count times a sum of products, less the product of two sums.
abbrev pub spread_of : ℕ → ℕ → ℕ → ℕ → ℤ
spread_of n products a b = pos (n * products) -ℤ pos (a * b)

-- How places spread, and how numbers go with them.
unfoldable pub matrix_of : Moments → Matrix
matrix_of m = let s = m.places in record {
  xx = spread_of m.count s.xx s.x s.x;
  xy = spread_of m.count s.xy s.x s.y;
  xz = spread_of m.count s.xz s.x s.z;
  yy = spread_of m.count s.yy s.y s.y;
  yz = spread_of m.count s.yz s.y s.z;
  zz = spread_of m.count s.zz s.z s.z;
}

unfoldable pub slope_of : Moments → Vector
slope_of m = let s = m.numbers in record {
  x = spread_of m.count s.wx s.w m.places.x;
  y = spread_of m.count s.wy s.w m.places.y;
  z = spread_of m.count s.wz s.w m.places.z;
}

-- The ridge: a 4,096th of the diagonal's sum and one more, so that places on a plane or a line have
-- a map too.
abbrev pub ridge_of : Matrix → ℤ
ridge_of a = int_shr (a.xx +ℤ a.yy +ℤ a.zz) 12 +ℤ pos 1

-- The matrix with the ridge on its diagonal.
unfoldable pub ridged : Matrix → Matrix
ridged a = record {
  xx = a.xx +ℤ ridge_of a;
  xy = a.xy;
  xz = a.xz;
  yy = a.yy +ℤ ridge_of a;
  yz = a.yz;
  zz = a.zz +ℤ ridge_of a;
}

-- No number of three, or of a matrix, is further from 0 than m.
abbrev pub are_within : ℕ → ℤ → ℤ → ℤ → Bool
are_within m a b c =
    nat_le (unsigned_abs a) m && nat_le (unsigned_abs b) m && nat_le (unsigned_abs c) m

abbrev pub is_matrix_within : ℕ → Matrix → Bool
is_matrix_within m a = are_within m a.xx a.xy a.xz && are_within m a.yy a.yz a.zz

-- The mean of the numbers.
abbrev pub mean_of : Moments → ℤ
mean_of m = near (pos m.numbers.w) m.count

-- How far a coordinate is from the middle of n places, in 16ths.
abbrev pub away_of : ℕ → ℕ → ℕ → ℤ
away_of n sum at = near (pos (16 * (n * at)) -ℤ pos (16 * sum)) n

-- What the slope n / d adds so far from the middle; the divisor keeps its first 36 digits.
unfoldable pub rise_of : Moments → Spot → Vector → ℤ → ℤ
rise_of m p n d =
    let k = digits_above 36 (unsigned_abs d) in
    let s = short k n in
    let x = s.x *ℤ away_of m.count m.places.x p.x in
    let y = s.y *ℤ away_of m.count m.places.y p.y in
    let z = s.z *ℤ away_of m.count m.places.z p.z in
    near (x +ℤ y +ℤ z) (16 * (unsigned_abs d / 2 ^ k))

-- d is above 0 and no number of the slope n / d is above 1,024.
abbrev pub is_gentle : Vector → ℤ → Bool
is_gentle n d = int_lt (pos 0) d && is_within (1024 * unsigned_abs d) n

-- The mean, and what a gentle slope adds.
unfoldable pub risen : Moments → Spot → Vector → ℤ → ℤ
risen m p n d = if is_gentle n d then mean_of m +ℤ rise_of m p n d else mean_of m

-- The same with the slope s for which a s = g, by Cramer's rule, where no number is great.
unfoldable pub solved : Moments → Spot → Matrix → Vector → ℤ
solved m p a g =
    if is_matrix_within (2 ^ 33) a && is_within (2 ^ 52 - 1) g
    then risen m p (times_of (cofactors_of a) g) (determinant_of a) else mean_of m

-- The number at a place.
unfoldable pub fit_of : Moments → Spot → ℤ
fit_of m p =
    let a = ridged (matrix_of m) in
    let k = matrix_digits a in
    solved m p (short_matrix k a) (short k (slope_of m))
