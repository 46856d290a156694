use Rattle.std.proofs.Common.{◌≡◌, length, arith}
use Rattle.pm_candidates.proofs.NeedRows.{five_are}
use Rattle.pm_candidates.proofs.needs.row_of.Goals as goal

pub returns : goal.returns
returns c =
    let five : length c.args.needed ≡ 5 = omega arith in
    five_are c.args.needed _ _ _ _ _ _ _ _ _ _ five c.of.ensures c.of-2.ensures c.of-3.ensures
    c.of-4.ensures c.of-5.ensures
