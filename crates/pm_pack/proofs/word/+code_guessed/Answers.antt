use Rattle.std.proofs.Common.{◌<◌, length, sym, arith}
use Rattle.std.proofs.lemmas.List.{take_rest}
use Rattle.std.proofs.lemmas.Result.{err_from_is_err_and}
use Rattle.pm_coder.proofs.UniformLaws.{if_ok, if_err}
use Rattle.pm_pack.proofs.FirstsLaws.{last-tells, first-tells, rest-tells, last-untold}
use Rattle.pm_pack.proofs.FirstsLaws.{first-untold, rest-untold, again-untold, again-reads}
use Rattle.pm_pack.proofs.word.+code_guessed.Goals as goal

pub returns-in_err-guess-in-len1-up-clause-cut : goal.returns-in_err-guess-in-len1-up-clause-cut
returns-in_err-guess-in-len1-up-clause-cut g t c =
    let p = err_from_is_err_and c.from_residual.result c.from_residual.ensures.1 in
    let some : 0 < length c.args.firsts.now = omega arith in
    rw (p.1, p.2)
    (λ is w small. first-untold g.P.Predictor c.args.predictor.now _ c.args.near
    c.args.firsts.now some (λ bit. c.in_err-guess-in-len1-up.ensures.cut is bit) w)

pub returns-then-branch-clause-ok : goal.returns-then-branch-clause-ok
returns-then-branch-clause-ok g t c =
    let some : 0 < length c.args.firsts.now = omega arith in
    let may = rw c.if-branch.true at c.in_ok-guess-in-len1-up.ensures.may in
    let now = rw c.if-branch.true at c.in_ok-guess-in-len1-up.ensures.made in
    let learned = rw c.if-branch.true at c.in_ok-guess-in-len1-up.ensures.learned in
    first-tells g.P.Predictor c.args.predictor.now _ _ _ c.args.near c.args.firsts.now some may
    c.in_ok-guess-in-len1-up.ensures.fit now learned

pub returns-in_err-word-in-len1-up-clause-cut : goal.returns-in_err-word-in-len1-up-clause-cut
returns-in_err-word-in-len1-up-clause-cut g t c =
    let p = err_from_is_err_and c.from_residual-in_err-word-in-len1-up.result
    c.from_residual-in_err-word-in-len1-up.ensures.1 in
    let some : 0 < length c.args.firsts.now = omega arith in
    let may = rw c.if-branch.false at c.in_ok-guess-in-len1-up.ensures.may in
    let now = rw c.if-branch.false at c.in_ok-guess-in-len1-up.ensures.made in
    let learned = rw c.if-branch.false at c.in_ok-guess-in-len1-up.ensures.learned in
    rw (p.1, p.2)
    (λ is w below. rest-untold g.P.Predictor c.args.predictor.now _ _ _ c.args.near
    c.args.firsts.now some may now learned
    (λ v few. rw (take_rest c.args.firsts.now 1) at (c.in_err-word-in-len1-up.ensures.cut is v few))
    w below)

pub returns-then-word-first-clause-cut : goal.returns-then-word-first-clause-cut
returns-then-word-first-clause-cut g t c =
    let some : 0 < length c.args.firsts.now = omega arith in
    let small : c.args.near.word < 4294967296 = omega arith in
    let word : c.in_ok-word-in-len1-up.word < 4294967296 = omega arith in
    let may = rw c.if-branch.false at c.in_ok-guess-in-len1-up.ensures.may in
    let now = rw c.if-branch.false at c.in_ok-guess-in-len1-up.ensures.made in
    let learned = rw c.if-branch.false at c.in_ok-guess-in-len1-up.ensures.learned in
    let asked = rw c.if-branch.false at c.in_ok-guess-in-len1-up.ensures.wanted in
    let tells = rw (take_rest c.args.firsts.now 1) at c.in_ok-word-in-len1-up.ensures.ok in
    λ is. again-untold g.P.Predictor c.args.predictor.now _ _ _ _ _ c.args.near c.args.firsts.now
    c.in_ok-word-in-len1-up.word small word some c.if-word-first.true
    (again-reads _ _ _ _ c.args.wanted c.in_ok-word-in-len1-up.word now asked
    c.in_ok-word-in-len1-up.ensures.wanted c.if-word-first.true)
    may now learned tells

pub returns-in-empty-clause-ok : goal.returns-in-empty-clause-ok
returns-in-empty-clause-ok g t c =
    if_ok c.code_word.result
    (λ w tells. last-tells g.P.Predictor c.args.predictor.now _ _ _ c.args.near c.args.firsts.now w
    c.in-empty.len_below tells)
    c.code_word.ensures.ok

pub returns-in-empty-clause-cut : goal.returns-in-empty-clause-cut
returns-in-empty-clause-cut g t c =
    if_err c.code_word.result
    (λ e none is w small. last-untold g.P.Predictor c.args.predictor.now _ c.args.near
    c.args.firsts.now w c.in-empty.len_below (none is w small))
    c.code_word.ensures.cut

pub returns-else-word-first-clause-ok : goal.returns-else-word-first-clause-ok
returns-else-word-first-clause-ok g t c =
    let some : 0 < length c.args.firsts.now = omega arith in
    let may = rw c.if-branch.false at c.in_ok-guess-in-len1-up.ensures.may in
    let now = rw c.if-branch.false at c.in_ok-guess-in-len1-up.ensures.made in
    let learned = rw c.if-branch.false at c.in_ok-guess-in-len1-up.ensures.learned in
    let tells = rw (take_rest c.args.firsts.now 1) at c.in_ok-word-in-len1-up.ensures.ok in
    rest-tells g.P.Predictor c.args.predictor.now _ _ _ _ _ c.args.near c.args.firsts.now
    c.in_ok-word-in-len1-up.word some (λ e. c.if-word-first.false (sym e)) may
    c.in_ok-guess-in-len1-up.ensures.fit now learned tells
