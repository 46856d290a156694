use Rattle.std.proofs.Common.{◌<◌, arith}
use Rattle.std.proofs.lemmas.Result.{err_from_is_err_and}
use Rattle.pm_pack.proofs.GuessedLaws.{hit-tells, miss-tells, bit-untold, miss-untold}
use Rattle.pm_pack.proofs.word.code_word.Goals as goal

pub returns-in_err-guess-clause-cut : goal.returns-in_err-guess-clause-cut
returns-in_err-guess-clause-cut g c =
    let p = err_from_is_err_and c.from_residual.result c.from_residual.ensures.1 in
    rw (p.1, p.2)
    (λ is w small. bit-untold g.P.Predictor c.args.predictor.now _ c.args.near
    (λ bit. c.in_err-guess.ensures.cut is bit) w)

pub returns-then-branch-clause-ok : goal.returns-then-branch-clause-ok
returns-then-branch-clause-ok g c =
    let may = rw c.if-branch.true at c.in_ok-guess.ensures.may in
    let now = rw c.if-branch.true at c.in_ok-guess.ensures.made in
    let learned = rw c.if-branch.true at c.in_ok-guess.ensures.learned in
    hit-tells g.P.Predictor c.args.predictor.now _ _ _ c.args.near may c.in_ok-guess.ensures.fit
    now learned

pub returns-in_err-n-clause-cut : goal.returns-in_err-n-clause-cut
returns-in_err-n-clause-cut g c =
    let p = err_from_is_err_and c.from_residual-in_err-n.result
    c.from_residual-in_err-n.ensures.1 in
    let small : c.args.near.word < 4294967296 = omega arith in
    let may = rw c.if-branch.false at c.in_ok-guess.ensures.may in
    let now = rw c.if-branch.false at c.in_ok-guess.ensures.made in
    let learned = rw c.if-branch.false at c.in_ok-guess.ensures.learned in
    rw (p.1, p.2)
    (λ is w below. miss-untold g.P.Predictor c.args.predictor.now _ _ _ c.args.near small may now
    learned (λ n few. c.in_err-n.ensures.cut is n few) w below)

pub returns-clause-ok : goal.returns-clause-ok
returns-clause-ok g c =
    let small : c.args.near.word < 4294967296 = omega arith in
    let may = rw c.if-branch.false at c.in_ok-guess.ensures.may in
    let now = rw c.if-branch.false at c.in_ok-guess.ensures.made in
    let learned = rw c.if-branch.false at c.in_ok-guess.ensures.learned in
    let tells = miss-tells g.P.Predictor c.args.predictor.now _ _ _ _ _ c.args.near c.in_ok-n.n
    small c.in_ok-n.ensures.below may c.in_ok-guess.ensures.fit now learned
    c.in_ok-n.ensures.ok in
    rw c.missed.ensures tells
