-- Laws of the parts of a number.
use Rattle.std.proofs.Common.{ℕ, ◌^◌, ◌≤◌, arith}
use Rattle.std.proofs.Math.Nat.{pow-le-pow_right}

-- Powers of two of a fraction and of an exponent.
pub pow_fits : (k : ℕ) → k ≤ 52 → 2 ^ k ≤ 2 ^ 52
pow_fits k l = pow-le-pow_right {n = 2} (omega arith) {i = k} {j = 52} l

pub pow_few : (k : ℕ) → k ≤ 10 → 2 ^ k ≤ 2 ^ 10
pow_few k l = pow-le-pow_right {n = 2} (omega arith) {i = k} {j = 10} l
