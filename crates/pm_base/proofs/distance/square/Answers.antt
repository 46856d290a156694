use Rattle.std.proofs.Common.{◌≤◌, arith}
use Rattle.std.proofs.lemmas.Nat.{mul-le}
use borrow.Author.Differences.{ints}
use Rattle.pm_base.proofs.distance.square.Goals as goal

pub returns-clause-small : goal.returns-clause-small
returns-clause-small c =
    let h : c.from-apart.result ≤ 65534 = omega (arith, ints) in
    mul-le c.from-apart.result c.from-apart.result 65534 65534 h h
