use Rattle.std.proofs.Common.{◌≡◌, ◌+◌, ◌-◌, ◌^◌, ◌≤◌, arith}
use Rattle.std.proofs.lemmas.Result.{err_from_is_err_and}
use Rattle.pm_coder.proofs.UniformLaws.{if_ok, if_both, if_err}
use Rattle.pm_coder.proofs.NumberLaws.{last-tells, more-tells, end-tells, last-untold, bit-untold}
use Rattle.pm_coder.proofs.NumberLaws.{more-untold, end-untold}
use Rattle.pm_coder.proofs.numbers.+guess_bits.Goals as goal

pub returns-then-place-eq-LAST-clause-ok : goal.returns-then-place-eq-LAST-clause-ok
returns-then-place-eq-LAST-clause-ok g t c =
    let none : 31 - c.args.place ≡ 0 = omega arith in
    if_ok c.guess_rest.result
    (λ n tells. last-tells g.P.Predictor c.args.predictor.now _ _ _ c.args.set
    c.args.contexts.now (31 - c.args.place) c.args.place n none tells)
    c.guess_rest.ensures.ok

pub returns-then-place-eq-LAST-clause-cut : goal.returns-then-place-eq-LAST-clause-cut
returns-then-place-eq-LAST-clause-cut g t c =
    let none : 31 - c.args.place ≡ 0 = omega arith in
    let top : c.args.place ≡ 31 = omega arith in
    let power : 2147483648 ≤ 2 ^ c.args.place = rw top (omega arith) in
    if_err c.guess_rest.result
    (λ e cut is n from small. last-untold g.P.Predictor c.args.predictor.now _ c.args.set
    c.args.contexts.now (31 - c.args.place) c.args.place n none
    (cut is n from (omega arith)))
    c.guess_rest.ensures.cut

pub returns-in_err-guess-clause-cut : goal.returns-in_err-guess-clause-cut
returns-in_err-guess-clause-cut g t c =
    let p = err_from_is_err_and c.from_residual.result c.from_residual.ensures.1 in
    let turns : 31 - c.args.place ≡ (31 - (c.args.place + 1)) + 1 = omega arith in
    rw (p.1, p.2)
    (λ is n from small. bit-untold g.P.Predictor c.args.predictor.now _ c.args.set
    c.args.contexts.now (31 - c.args.place) (31 - (c.args.place + 1)) c.args.place n turns
    (λ bit. c.in_err-guess.ensures.cut is bit))

pub returns-then-branch-clause-ok : goal.returns-then-branch-clause-ok
returns-then-branch-clause-ok g t c =
    let turns : 31 - c.args.place ≡ (31 - (c.args.place + 1)) + 1 = omega arith in
    let may = rw c.if-branch.true at c.in_ok-guess.ensures.may in
    let now = rw c.if-branch.true at c.in_ok-guess.ensures.made in
    let learned = rw c.if-branch.true at c.in_ok-guess.ensures.learned in
    if_both c.guess_bits.result
    (λ n tells from. more-tells g.P.Predictor c.args.predictor.now _ _ _ _ _ c.args.set
    c.args.contexts.now (31 - c.args.place) (31 - (c.args.place + 1)) c.args.place n turns
    from may c.in_ok-guess.ensures.fit now learned tells)
    c.guess_bits.ensures.ok c.guess_bits.ensures.from

pub returns-then-branch-clause-cut : goal.returns-then-branch-clause-cut
returns-then-branch-clause-cut g t c =
    let turns : 31 - c.args.place ≡ (31 - (c.args.place + 1)) + 1 = omega arith in
    let top : c.args.place + 1 ≤ 31 = omega arith in
    let may = rw c.if-branch.true at c.in_ok-guess.ensures.may in
    let now = rw c.if-branch.true at c.in_ok-guess.ensures.made in
    let learned = rw c.if-branch.true at c.in_ok-guess.ensures.learned in
    if_err c.guess_bits.result
    (λ e cut is n from small. more-untold g.P.Predictor c.args.predictor.now _ _ _ c.args.set
    c.args.contexts.now (31 - c.args.place) (31 - (c.args.place + 1)) c.args.place turns top
    may now learned (cut is) n small)
    c.guess_bits.ensures.cut

pub returns-else-branch-clause-ok : goal.returns-else-branch-clause-ok
returns-else-branch-clause-ok g t c =
    let turns : 31 - c.args.place ≡ (31 - (c.args.place + 1)) + 1 = omega arith in
    let may = rw c.if-branch.false at c.in_ok-guess.ensures.may in
    let now = rw c.if-branch.false at c.in_ok-guess.ensures.made in
    let learned = rw c.if-branch.false at c.in_ok-guess.ensures.learned in
    if_both c.guess_rest-else-branch.result
    (λ n tells below. end-tells g.P.Predictor c.args.predictor.now _ _ _ _ _ c.args.set
    c.args.contexts.now (31 - c.args.place) (31 - (c.args.place + 1)) c.args.place n turns
    below may c.in_ok-guess.ensures.fit now learned tells)
    c.guess_rest-else-branch.ensures.ok c.guess_rest-else-branch.ensures.below

pub returns-else-branch-clause-cut : goal.returns-else-branch-clause-cut
returns-else-branch-clause-cut g t c =
    let turns : 31 - c.args.place ≡ (31 - (c.args.place + 1)) + 1 = omega arith in
    let may = rw c.if-branch.false at c.in_ok-guess.ensures.may in
    let now = rw c.if-branch.false at c.in_ok-guess.ensures.made in
    let learned = rw c.if-branch.false at c.in_ok-guess.ensures.learned in
    if_err c.guess_rest-else-branch.result
    (λ e cut is n from small. end-untold g.P.Predictor c.args.predictor.now _ _ _ c.args.set
    c.args.contexts.now (31 - c.args.place) (31 - (c.args.place + 1)) c.args.place turns may
    now learned (cut is) n from)
    c.guess_rest-else-branch.ensures.cut
