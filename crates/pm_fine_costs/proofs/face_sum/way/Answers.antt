use Rattle.std.proofs.Common.{lit≤}
use Rattle.std.proofs.Math.Nat.{le_trans}
use Rattle.pm_base.proofs.Range.{above_small}
use Rattle.pm_fine_costs.proofs.face_sum.way.Goals as goal

pub returns-clause-short : goal.returns-clause-short
returns-clause-short c =
    let p = c.args.p in
    let q = c.args.q in
    let at = c.x-2.ensures.in_range in
    let to = c.x.ensures.in_range in (
      above_small q.x p.x to.0 at.0,
      above_small q.y p.y to.1 at.1,
      above_small q.z p.z to.2 at.2,
    )

pub returns-clause-small : goal.returns-clause-small
returns-clause-small c =
    let short = returns-clause-short c in (
      le_trans short.0 (lit≤ tt),
      le_trans short.1 (lit≤ tt),
      le_trans short.2 (lit≤ tt),
    )
