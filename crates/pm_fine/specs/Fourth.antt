-- The fourth candidate for the place of a pair: about where a quadric is least of all places, by
-- Cramer's rule (Garland and Heckbert 1997 solve for that place). Numbers lose last binary digits,
-- so that each product fits in 128 bits. What is found is compared exactly with the other three
-- candidates, so it need not be exact. With 33 digits of the matrix and 52 of the gradient products
-- stay below 2 ^ 121, and with 42 of the determinant the last quotients need only 64 bits.
use Rattle.std.specs.Prelude.{ℕ, ◌+◌, ◌-◌, ◌*◌, ◌/◌, ◌^◌, Bool, nat_le, max, ◌&&◌}
use Rattle.std.specs.Prelude.{if◌then◌else◌, ℤ, pos, neg_ℤ, ◌+ℤ◌, ◌-ℤ◌, ◌*ℤ◌, int_lt}
use Rattle.std.specs.Prelude.{unsigned_abs, List, Option, None, Some}
use Rattle.std.specs.Int.{w128, leading_zeros, int_div_euclid, int_shr}
use Rattle.pm_base.specs.Place.{Place, is_place}
use Rattle.pm_quadric.specs.Planes.{Plane, squares_of}
use Rattle.pm_quadric.specs.Sums.{Sums, sums_of}
use Rattle.pm_quadric.specs.Candidates.{midpoint}
use Rattle.pm_fine.specs.declared.matrix.Matrix.{Matrix}
use Rattle.pm_fine.specs.declared.matrix.Vector.{Vector}
use Rattle.pm_fine.specs.Rounded.{near}
use Rattle.pm_fine.specs.FinePlaces.{fine_place_of}

abbrev pub half : ℤ → ℤ
half k = int_div_euclid k (pos 2)

-- The value of a quadric at p is p . A p and terms of a lower degree. Its mixed sums have each
-- number of A twice.
abbrev pub matrix_of : Sums → Matrix
matrix_of s = record {
  xx = s.xx;
  xy = half s.xy;
  xz = half s.xz;
  yy = s.yy;
  yz = half s.yz;
  zz = s.zz;
}

-- A u
abbrev pub times_of : Matrix → Vector → Vector
times_of a u = record {
  x = a.xx *ℤ u.x +ℤ a.xy *ℤ u.y +ℤ a.xz *ℤ u.z;
  y = a.xy *ℤ u.x +ℤ a.yy *ℤ u.y +ℤ a.yz *ℤ u.z;
  z = a.xz *ℤ u.x +ℤ a.yz *ℤ u.y +ℤ a.zz *ℤ u.z;
}

-- Half the gradient of the value at a place.
abbrev pub half_gradient : Sums → Place → Vector
half_gradient s m =
    let p = times_of (matrix_of s) (record { x = m.x; y = m.y; z = m.z }) in
    record { x = p.x +ℤ half s.x; y = p.y +ℤ half s.y; z = p.z +ℤ half s.z }

abbrev pub reversed : Vector → Vector
reversed u = record { x = neg_ℤ u.x; y = neg_ℤ u.y; z = neg_ℤ u.z }

-- How many binary digits n has above its last k, where it has at most 128.
abbrev pub digits_above : ℕ → ℕ → ℕ
digits_above k n = 128 - leading_zeros w128 n - k

-- Numbers without their last k binary digits, rounded down.
abbrev pub short_matrix : ℕ → Matrix → Matrix
short_matrix k a = record {
  xx = int_shr a.xx k;
  xy = int_shr a.xy k;
  xz = int_shr a.xz k;
  yy = int_shr a.yy k;
  yz = int_shr a.yz k;
  zz = int_shr a.zz k;
}

abbrev pub short : ℕ → Vector → Vector
short k u = record { x = int_shr u.x k; y = int_shr u.y k; z = int_shr u.z k }

-- The least number of digits to drop, so that the diagonal keeps at most 33.
abbrev pub matrix_digits : Matrix → ℕ
matrix_digits a =
    digits_above 33 (max (max (unsigned_abs a.xx) (unsigned_abs a.yy)) (unsigned_abs a.zz))

-- The cofactors of a symmetric matrix, and its determinant by those of the first row.
abbrev pub cofactors_of : Matrix → Matrix
cofactors_of a = record {
  xx = a.yy *ℤ a.zz -ℤ a.yz *ℤ a.yz;
  xy = a.xz *ℤ a.yz -ℤ a.xy *ℤ a.zz;
  xz = a.xy *ℤ a.yz -ℤ a.xz *ℤ a.yy;
  yy = a.xx *ℤ a.zz -ℤ a.xz *ℤ a.xz;
  yz = a.xy *ℤ a.xz -ℤ a.xx *ℤ a.yz;
  zz = a.xx *ℤ a.yy -ℤ a.xy *ℤ a.xy;
}

abbrev pub determinant_of : Matrix → ℤ
determinant_of a =
    let c = cofactors_of a in a.xx *ℤ c.xx +ℤ a.xy *ℤ c.xy +ℤ a.xz *ℤ c.xz

-- No number of a vector is further from 0 than m.
abbrev pub is_within : ℕ → Vector → Bool
is_within m u =
    nat_le (unsigned_abs u.x) m && nat_le (unsigned_abs u.y) m && nat_le (unsigned_abs u.z) m

-- The greatest difference of a coordinate of m from that of t, and from those of t and u.
abbrev pub apart_of : Place → Place → ℕ
apart_of m t =
    let x = unsigned_abs (m.x -ℤ t.x) in
    let y = unsigned_abs (m.y -ℤ t.y) in
    max (max x y) (unsigned_abs (m.z -ℤ t.z))

abbrev pub reach_of : Place → Place → Place → ℕ
reach_of m t u = max (apart_of m t) (apart_of m u)

-- m moved by the quotients of a vector by d, each rounded to the nearest whole number, where that
-- is a place.
abbrev pub moved_by : Place → Vector → ℕ → Place
moved_by m n d = record {
  x = m.x +ℤ near n.x d;
  y = m.y +ℤ near n.y d;
  z = m.z +ℤ near n.z d;
}

abbrev pub placed : Place → Option Place
placed p = if is_place p then Some p else None

-- No number of n / d is further from 0 than 4 reach + 1, where d is above 0.
abbrev pub is_near : ℕ → Vector → ℤ → Bool
is_near reach n d = int_lt (pos 0) d && is_within ((4 * reach + 1) * unsigned_abs d) n

-- m moved by n / d, where that is near. The divisor keeps its first 42 digits.
abbrev pub quotients_place : Place → ℕ → Vector → ℤ → Option Place
quotients_place m reach n d =
    let k = digits_above 42 (unsigned_abs d) in
    if is_near reach n d then placed (moved_by m (short k n) (unsigned_abs d / 2 ^ k)) else None

-- m moved by the x with A x = - g, by Cramer's rule: the product of the cofactors and - g, by the
-- determinant. None where g has more than 52 digits.
abbrev pub solved_place : Place → ℕ → Matrix → Vector → Option Place
solved_place m reach a g =
    if is_within (2 ^ 52 - 1) g
    then quotients_place m reach (times_of (cofactors_of a) (reversed g)) (determinant_of a)
    else None

-- The fourth candidate of t and u for a quadric with these sums: where its gradient is 0.
unfoldable pub fourth_place_of : Sums → Place → Place → Option Place
fourth_place_of s t u =
    let m = midpoint t u in
    let k = matrix_digits (matrix_of s) in
    solved_place m (reach_of m t u) (short_matrix k (matrix_of s)) (short k (half_gradient s m))

-- The first of t, u, their midpoint and the fourth candidate at which the planes' value is least.
abbrev pub best_fine_place_of : List Plane → Place → Place → Place
best_fine_place_of fs t u = fine_place_of (squares_of fs) t u (fourth_place_of (sums_of fs) t u)
