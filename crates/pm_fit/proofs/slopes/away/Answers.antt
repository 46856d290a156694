use Rattle.std.proofs.Common.{◌≤◌, ◌*◌, ◌^◌, rules, arith}
use Rattle.std.proofs.Math.Nat.{le_refl}
use Rattle.std.proofs.lemmas.Nat.{mul-le}
use borrow.Author.Differences.{ints}
use Rattle.std.specs.Prelude.{pos, ◌-ℤ◌, unsigned_abs}
use Rattle.pm_fine.proofs.NearLaws.{near_small}
use Rattle.pm_fit.proofs.slopes.away.Goals as goal

pub returns-clause-value : goal.returns-clause-value
returns-clause-value c = search rules

pub returns-clause-small : goal.returns-clause-small
returns-clause-small c =
    let n = c.args.count in
    let gap = pos (16 * (n * c.args.at)) -ℤ pos (16 * c.args.sum) in
    let most = mul-le n c.args.at n 65534 (le_refl n) c.requires.at in
    let bound : unsigned_abs gap ≤ 1048576 * n = omega (arith, ints, most, c.requires.sum) in
    rw (returns-clause-value c) (near_small gap n (2 ^ 20) c.requires.some bound)
