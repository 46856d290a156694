use Rattle.pm_queue.proofs.EntryTables.{in_places}
use Rattle.pm_queue.proofs.queue.Queue.set.Goals as goal

pub set-requires-clause-item_in : goal.set-requires-clause-item_in
set-requires-clause-item_in c =
    in_places c.self.inside.parts.heap _ c.args.item c.self.view_is c.requires.in_range
