-- A number of units is divided into steps in two parts: 10^18 is 2^18 times 5^18.
use Rattle.std.proofs.Common.{◌≡◌, ℕ, ◌/◌, ◌%◌, ◌^◌, ◌==◌, ◌&&◌, arith}
use Rattle.std.proofs.lemmas.Grind.{common_steps}
use Rattle.std.proofs.lemmas.Bool.{and_parts, and_from, eq-eqb, eqb-true}

pub steps_by_parts : (k : ℕ) → (k % 2 ^ 18 == 0 && k / 2 ^ 18 % 5 ^ 18 == 0) ≡ (k % 10 ^ 18 == 0)
steps_by_parts k = grind (arith, common_steps, and_from, and_parts, eq-eqb, eqb-true)

pub quotient_by_parts : (k : ℕ) → k / 2 ^ 18 / 5 ^ 18 ≡ k / 10 ^ 18
quotient_by_parts k = omega arith
