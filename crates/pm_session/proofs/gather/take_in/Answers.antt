use Rattle.std.proofs.lemmas.List.{take_rest}
use Rattle.pm_session.proofs.CutLaws.{takes_in}
use Rattle.pm_session.proofs.gather.take_in.Goals as goal

pub returns-clause-takes : goal.returns-clause-takes
returns-clause-takes c =
    takes_in c.gather-cut.result.state c.args.room c.gather-cut.result.used c.args.used.now
    c.args.line.now.items c.gather-cut.new.line.items c.args.piece.now _
    (take_rest c.args.piece.now c.args.used.now) c.gather-cut.ensures.gathers
