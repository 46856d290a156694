-- Flags that are cleared or set by needs, one after the other.
use Rattle.std.proofs.Common.{◌≡◌, ℕ, ◌+◌, eqb, Bool, ◌&&◌, List, [], refl, sym}
use Rattle.std.proofs.lemmas.Grind.{common_steps}
use Rattle.std.proofs.Common.{arith}
use Rattle.std.proofs.Math.Bool.{or-false}
use Rattle.std.proofs.lemmas.Bool.{eq-eqb, ne_eqb, and_from, and_left, and_right}
use Rattle.pm_base.specs.Counts.{set_of}
use Rattle.pm_candidates.specs.Candidates.{is_freed, AreAdded}

-- A sum is zero where both parts are.
pub sum_zero : (a b : ℕ) → eqb (a + b) 0 ≡ (eqb a 0 && eqb b 0)
sum_zero a b = grind (arith, common_steps, and_from, and_left, and_right, eq-eqb, ne_eqb)

pub added_none : (a : List Bool) (counts : List ℕ) → AreAdded a a (is_freed [] counts)
added_none a counts = record { len = refl; each = λ k l. sym (or-false (set_of a k)) }
