use Rattle.std.proofs.Common.{◌<◌, ◌≤◌}
use Rattle.std.proofs.Common.{arith}
use Rattle.std.proofs.lemmas.Result.{err_from_is_err_and}
use Rattle.pm_coder.proofs.UniformLaws.{if_both, if_err}
use Rattle.pm_coder.proofs.UniformLaws.{one-makes, upper-makes, lower-makes, first-cut, upper-cut}
use Rattle.pm_coder.proofs.UniformLaws.{lower-cut}
use Rattle.pm_coder.proofs.halving.+uniform.Goals as goal

pub returns-then-bound-eq1-clause-ok : goal.returns-then-bound-eq1-clause-ok
returns-then-bound-eq1-clause-ok g t c =
    let one : c.args.bound ≤ 1 = omega arith in
    one-makes _ c.args.bound 0 one

pub returns-in_err-choose-clause-cut : goal.returns-in_err-choose-clause-cut
returns-in_err-choose-clause-cut g t c =
    let p = err_from_is_err_and c.from_residual.result c.from_residual.ensures.1 in
    let wide : 1 < c.args.bound = omega arith in
    rw (p.1, p.2)
    (λ is n l. first-cut _ c.args.bound wide
    (λ bit. let none = c.in_err-choose.ensures.cut is bit in rw c.upper_share.ensures at none)
    n)

pub returns-in_err-rest-clause-cut : goal.returns-in_err-rest-clause-cut
returns-in_err-rest-clause-cut g t c =
    let p = err_from_is_err_and c.from_residual-in_err-rest.result
    c.from_residual-in_err-rest.ensures.1 in
    let wide : 1 < c.args.bound = omega arith in
    let may = rw (c.if-branch.true, c.upper_share.ensures) at c.in_ok-choose.ensures.may in
    let now = rw (c.if-branch.true, c.upper_share.ensures) at c.in_ok-choose.ensures.made in
    rw (p.1, p.2)
    (λ is n l. upper-cut _ _ c.args.bound wide may now
    (λ m small. c.in_err-rest.ensures.cut is m small) n l)

pub returns-in_ok-rest-clause-ok : goal.returns-in_ok-rest-clause-ok
returns-in_ok-rest-clause-ok g t c =
    let wide : 1 < c.args.bound = omega arith in
    let may = rw (c.if-branch.true, c.upper_share.ensures) at c.in_ok-choose.ensures.may in
    let now = rw (c.if-branch.true, c.upper_share.ensures) at c.in_ok-choose.ensures.made in
    upper-makes _ _ _ c.args.bound c.in_ok-rest.rest wide may now c.in_ok-rest.ensures.ok

pub returns-else-branch-clause-ok : goal.returns-else-branch-clause-ok
returns-else-branch-clause-ok g t c =
    let wide : 1 < c.args.bound = omega arith in
    let may = rw (c.if-branch.false, c.upper_share.ensures) at c.in_ok-choose.ensures.may in
    let now = rw (c.if-branch.false, c.upper_share.ensures) at c.in_ok-choose.ensures.made in
    if_both c.uniform-else-branch.result
    (λ n makes small. lower-makes _ _ _ c.args.bound n wide small may now makes)
    c.uniform-else-branch.ensures.ok c.uniform-else-branch.ensures.below

pub returns-else-branch-clause-cut : goal.returns-else-branch-clause-cut
returns-else-branch-clause-cut g t c =
    let wide : 1 < c.args.bound = omega arith in
    let may = rw (c.if-branch.false, c.upper_share.ensures) at c.in_ok-choose.ensures.may in
    let now = rw (c.if-branch.false, c.upper_share.ensures) at c.in_ok-choose.ensures.made in
    if_err c.uniform-else-branch.result
    (λ e cut is n l. lower-cut _ _ c.args.bound wide may now (cut is) n l)
    c.uniform-else-branch.ensures.cut
