use Rattle.std.proofs.Common.{arith}
use Rattle.pm_base.proofs.Root.{root_up_only}
use Rattle.pm_bounds.proofs.roots.root_up.Goals as goal

pub returns-clause-value : goal.returns-clause-value
returns-clause-value c =
    let i = c.loop-low.invariant in
    root_up_only c.args.n c.loop-low.high i.enough
    (λ m h. (let l = i.least m h in omega (arith, l, c.loop-low-test.false)))
