use Rattle.pm_number.specs.Tables.{run_in}
use Rattle.pm_number.proofs.LeftLaws.{bases_are}
use Rattle.pm_number.proofs.run.Run.base_faces.Goals as goal

pub returns : goal.returns
returns c =
    let is = bases_are (run_in c.args.self.now) c.in_ok-dropped.dropped.items
    c.in_ok-dropped.ensures.len c.in_ok-dropped.ensures.each in
    rw (c.deref.ensures.value, is) at c.unflagged.ensures
