-- An unsigned number is at most its limit.
use Rattle.std.proofs.Common.{◌≡◌, ℕ, ◌≤◌, List, Some, arith}
use Rattle.std.proofs.lemmas.Grind.{common_steps}
use Rattle.std.proofs.lemmas.Bool.{cond-true, cond-false, and_parts, leb-true}
use Rattle.std.proofs.lemmas.Option.{none-some, same_Some}
use Rattle.pm_io.specs.Digits.{unsigned_of}

pub unsigned_small : (most n : ℕ) (text : List ℕ) → Some n ≡ unsigned_of most text → n ≤ most
unfolding unsigned_of
unsigned_small most n text e =
    grind (arith, common_steps, and_parts, cond-false, cond-true, leb-true, none-some, same_Some)
