use Rattle.std.proofs.Common.{◌<◌, ◌≤◌}
use Rattle.std.proofs.Common.{arith}
use Rattle.std.proofs.lemmas.Result.{err_from_is_err_and}
use Rattle.pm_coder.proofs.UniformLaws.{if_both, if_err}
use Rattle.pm_coder.proofs.GuessLaws.{one-tells, upper-tells, lower-tells, first-untold}
use Rattle.pm_coder.proofs.GuessLaws.{upper-untold, lower-untold}
use Rattle.pm_coder.proofs.guesses.+guess_below.Goals as goal

pub returns-then-bound-eq1-clause-ok : goal.returns-then-bound-eq1-clause-ok
returns-then-bound-eq1-clause-ok g t c =
    let one : c.args.bound ≤ 1 = omega arith in
    one-tells g.P.Predictor _ _ c.args.set c.args.contexts.now c.args.place c.args.bound 0 one

pub returns-in_err-guess-clause-cut : goal.returns-in_err-guess-clause-cut
returns-in_err-guess-clause-cut g t c =
    let p = err_from_is_err_and c.from_residual.result c.from_residual.ensures.1 in
    let wide : 1 < c.args.bound = omega arith in
    rw (p.1, p.2)
    (λ is n l. first-untold g.P.Predictor c.args.predictor.now _ c.args.set c.args.contexts.now
    c.args.place c.args.bound wide (λ bit. c.in_err-guess.ensures.cut is bit) n)

pub returns-in_err-rest-clause-cut : goal.returns-in_err-rest-clause-cut
returns-in_err-rest-clause-cut g t c =
    let p = err_from_is_err_and c.from_residual-in_err-rest.result
    c.from_residual-in_err-rest.ensures.1 in
    let wide : 1 < c.args.bound = omega arith in
    let may = rw c.if-branch.true at c.in_ok-guess.ensures.may in
    let now = rw c.if-branch.true at c.in_ok-guess.ensures.made in
    let learned = rw c.if-branch.true at c.in_ok-guess.ensures.learned in
    rw (p.1, p.2)
    (λ is n l. upper-untold g.P.Predictor c.args.predictor.now _ _ _ c.args.set
    c.args.contexts.now c.args.place c.args.bound wide may now learned
    (λ m small. c.in_err-rest.ensures.cut is m small) n l)

pub returns-in_ok-rest-clause-ok : goal.returns-in_ok-rest-clause-ok
returns-in_ok-rest-clause-ok g t c =
    let wide : 1 < c.args.bound = omega arith in
    let may = rw c.if-branch.true at c.in_ok-guess.ensures.may in
    let now = rw c.if-branch.true at c.in_ok-guess.ensures.made in
    let learned = rw c.if-branch.true at c.in_ok-guess.ensures.learned in
    upper-tells g.P.Predictor c.args.predictor.now _ _ _ _ _ c.args.set c.args.contexts.now
    c.args.place c.args.bound c.in_ok-rest.rest wide may c.in_ok-guess.ensures.fit now learned
    c.in_ok-rest.ensures.ok

pub returns-else-branch-clause-ok : goal.returns-else-branch-clause-ok
returns-else-branch-clause-ok g t c =
    let wide : 1 < c.args.bound = omega arith in
    let may = rw c.if-branch.false at c.in_ok-guess.ensures.may in
    let now = rw c.if-branch.false at c.in_ok-guess.ensures.made in
    let learned = rw c.if-branch.false at c.in_ok-guess.ensures.learned in
    if_both c.guess_below-else-branch.result
    (λ n tells small. lower-tells g.P.Predictor c.args.predictor.now _ _ _ _ _ c.args.set
    c.args.contexts.now c.args.place c.args.bound n wide small may
    c.in_ok-guess.ensures.fit now learned tells)
    c.guess_below-else-branch.ensures.ok c.guess_below-else-branch.ensures.below

pub returns-else-branch-clause-cut : goal.returns-else-branch-clause-cut
returns-else-branch-clause-cut g t c =
    let wide : 1 < c.args.bound = omega arith in
    let may = rw c.if-branch.false at c.in_ok-guess.ensures.may in
    let now = rw c.if-branch.false at c.in_ok-guess.ensures.made in
    let learned = rw c.if-branch.false at c.in_ok-guess.ensures.learned in
    if_err c.guess_below-else-branch.result
    (λ e cut is n l. lower-untold g.P.Predictor c.args.predictor.now _ _ _ c.args.set
    c.args.contexts.now c.args.place c.args.bound wide may now learned (cut is) n l)
    c.guess_below-else-branch.ensures.cut
