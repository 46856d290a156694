use Rattle.pm_number.specs.Tables.{run_in}
use Rattle.pm_number.proofs.LeftLaws.{left_is}
use Rattle.pm_number.proofs.run.Run.left_over.Goals as goal

pub returns : goal.returns
returns c =
    let is = left_is (run_in c.args.self.now) c.in_ok-taken.taken.items
    c.in_ok-taken.ensures.len c.in_ok-taken.ensures.each in
    rw (c.deref.ensures.value, is) at c.unflagged.ensures
