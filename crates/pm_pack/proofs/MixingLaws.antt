-- Powers of two below 2^16.
use Rattle.std.proofs.Common.{ℕ, ◌*◌, ◌^◌, ◌≤◌, arith, mul-le-mul_left}
use Rattle.std.proofs.Math.Pow.{pow_mono}

pub two_few : (n : ℕ) → n ≤ 15 → 2 ^ n ≤ 32768
two_few n l = pow_mono l

-- A product of a part below 2 and a power.
pub part_power : (part two : ℕ) → part ≤ 2047 → two ≤ 32768 → part * two ≤ 67076096
part_power part two p t =
    let all : part * two ≤ part * 32768 = mul-le-mul_left part t in
    omega arith
