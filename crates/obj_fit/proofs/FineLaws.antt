-- Laws of places on a grid 4,096 times as fine.
use Rattle.std.proofs.Common.{◌≡◌, ℕ, ◌+◌, ◌*◌, ◌/◌, ◌%◌, ◌^◌, ◌<◌, ◌≤◌, Bool, true}
use Rattle.std.proofs.Common.{sym, ◌∙◌, ap, subst, T, to_z, of_z, lit<}
use mir.Syntax.{w128}
use Rattle.std.proofs.Common.{arith}
use Rattle.std.specs.Prelude.{ℤ, ◌-ℤ◌, unsigned_abs}
use Rattle.std.specs.Int.Signed.{le_z, le_z_yes}
use Rattle.std.proofs.Math.Nat.{div-add-mod, mod-lt, mul-le-mul_left, mul-le-mul_right}
use Rattle.std.proofs.Math.Nat.{div-le_of_le-mul, mul-add-div}
use Rattle.std.proofs.lemmas.Bool.{and_parts}
use Rattle.pm_base.proofs.ReadBack.{read_is}
use Rattle.obj_prepare.specs.Numbers.{nearest}
use Rattle.obj_prepare.specs.Boxes.{off_middle}
use Rattle.obj_prepare.proofs.NearestLaws.{nearest_within}
use Rattle.obj_prepare.proofs.BoxLaws.{off_within}
use Rattle.pm_base.specs.Place.{Place}
use Rattle.obj_prepare.specs.declared.extents.PointBox.{PointBox}
use Rattle.obj_fit.specs.Fine.{is_between, is_in_box}

-- A coordinate in units stands in 128 bits.
pub exact_kept : (r z : ℤ) → r ≡ z → unsigned_abs z ≤ 10 ^ 32 → to_z w128 (of_z w128 r) ≡ z
exact_kept r z is small = rw is (read_is w128 z (10 ^ 32) small (lit< tt))

-- A quotient of parts: whole ones, and what is over.
pub fine_nearest : (n d : ℕ) → 0 < d → 4096 * (n / d) + nearest (4096 * (n % d)) d
    ≡ nearest (4096 * n) d
unfolding nearest
fine_nearest n d some =
    let parts : d * (n / d) + n % d ≡ n = div-add-mod n d in
    let product : 2 * d * (4096 * (n / d)) ≡ 8192 * (d * (n / d)) = grind arith in
    let whole : 2 * (4096 * n) + d ≡ 2 * d * (4096 * (n / d)) + (2 * (4096 * (n % d)) + d) =
    omega (arith, parts, product) in
    let twice : 0 < 2 * d = omega (arith, some) in
    sym (mul-add-div twice (4096 * (n / d)) (2 * (4096 * (n % d)) + d))
    ∙ sym (ap (λ (m : ℕ). m / (2 * d)) whole)

pub few_quotients : (n d : ℕ) → 0 < d → n ≤ 32767 * d → n / d ≤ 32767
few_quotients n d some few = div-le_of_le-mul d {m = n} {n = 32767} (omega (arith, few))

pub rest_within : (n d : ℕ) → 0 < d → nearest (4096 * (n % d)) d ≤ 4096
rest_within n d some =
    let lt = mod-lt n some in nearest_within 4096 d (n % d) some (omega (arith, lt))

pub stretched_most : (size way extent : ℕ) → size ≤ 32767 → way ≤ extent
    → size * way ≤ 32767 * extent
stretched_most size way extent few le =
    let a : size * way ≤ size * extent = mul-le-mul_left size le in
    let b : size * extent ≤ 32767 * extent = mul-le-mul_right extent few in
    omega (arith, a, b)

pub finer_product : (size way extent : ℕ) → nearest (4096 * (size * way)) extent
    ≡ nearest (4096 * size * way) extent
finer_product size way extent =
    let same : 4096 * (size * way) ≡ 4096 * size * way = grind arith in
    ap (λ (n : ℕ). nearest n extent) same

-- A test of a coordinate that lies between two others.
passed : (b : Bool) → b ≡ true → T b
passed b is = subst T (sym is) tt

pub between_within : (low n high : ℤ) → is_between low n high ≡ true
    → unsigned_abs (off_middle n low high) ≤ unsigned_abs (high -ℤ low)
between_within low n high is =
    let parts = and_parts (le_z low n) (le_z n high) is in
    off_within n low high (le_z_yes (passed _ parts.0)) (le_z_yes (passed _ parts.1))

-- Of a point of a box.

pub between_x : (b : PointBox) (p : Place) → is_in_box b p ≡ true
    → is_between b.low.x p.x b.high.x ≡ true
between_x b p is = (and_parts _ _ (and_parts _ _ is).0).0

pub between_y : (b : PointBox) (p : Place) → is_in_box b p ≡ true
    → is_between b.low.y p.y b.high.y ≡ true
between_y b p is = (and_parts _ _ (and_parts _ _ is).0).1

pub between_z : (b : PointBox) (p : Place) → is_in_box b p ≡ true
    → is_between b.low.z p.z b.high.z ≡ true
between_z b p is = (and_parts _ _ is).1
