use Rattle.std.proofs.Common.{◌∙◌}
use Rattle.std.proofs.lemmas.Result.{err_from_is_err_and}
use Rattle.obj_lines.specs.Reading.{so_far}
use Rattle.obj_lines.proofs.FinishLaws.{last_is_line, last_none, last_ok, last_err, refused_same}
use Rattle.obj_lines.proofs.FinishLaws.{if_err, then_ok}
use Rattle.obj_lines.proofs.step.finish.Goals as goal

pub take_line-requires-clause-line : goal.take_line-requires-clause-line
take_line-requires-clause-line g c = last_is_line _ _ _ c.finish.ensures.state c.in-Whole.is
    c.finish.ensures.value

pub returns-in-Partial-clause-ok : goal.returns-in-Partial-clause-ok
returns-in-Partial-clause-ok g c =
    let same = last_none g.R.LineReader.rules
    (so_far c.args.progress (g.R.LineReader.held c.args.reader.now)) _ _
    c.finish.ensures.state c.in-Partial.is in
    then_ok c.end.result _ _ (λ is. same ∙ is) c.end.ensures.ok

pub returns-in-Partial-clause-err : goal.returns-in-Partial-clause-err
returns-in-Partial-clause-err g c =
    let same = last_none g.R.LineReader.rules
    (so_far c.args.progress (g.R.LineReader.held c.args.reader.now)) _ _
    c.finish.ensures.state c.in-Partial.is in
    if_err c.end.result _ _ (λ e is. refused_same e _ _ same is) c.end.ensures.err

pub returns-in_ok-take_line-in-Whole-clause-ok :
    goal.returns-in_ok-take_line-in-Whole-clause-ok
returns-in_ok-take_line-in-Whole-clause-ok g c =
    let same = last_ok g.R.LineReader.rules _ _ c.args.progress c.args.lines.now _ _
    c.requires.between c.finish.ensures.state c.in-Whole.is c.finish.ensures.value
    c.in_ok-take_line-in-Whole.ensures.ok in
    then_ok c.end-in-Whole.result _ _ (λ is. same ∙ is) c.end-in-Whole.ensures.ok

pub returns-in_ok-take_line-in-Whole-clause-err :
    goal.returns-in_ok-take_line-in-Whole-clause-err
returns-in_ok-take_line-in-Whole-clause-err g c =
    let same = last_ok g.R.LineReader.rules _ _ c.args.progress c.args.lines.now _ _
    c.requires.between c.finish.ensures.state c.in-Whole.is c.finish.ensures.value
    c.in_ok-take_line-in-Whole.ensures.ok in
    if_err c.end-in-Whole.result _ _ (λ e is. refused_same e _ _ same is)
    c.end-in-Whole.ensures.err

pub returns-in_err-take_line-in-Whole-clause-err : goal.returns-in_err-take_line-in-Whole-clause-err
returns-in_err-take_line-in-Whole-clause-err g c =
    let p = err_from_is_err_and c.from_residual.result c.from_residual.ensures.1 in
    rw (p.1, p.2) (last_err g.R.LineReader.rules _ c.args.progress c.args.lines.now _ _ _
    c.requires.between c.finish.ensures.state c.in-Whole.is c.finish.ensures.value
    c.in_err-take_line-in-Whole.ensures.fault)
