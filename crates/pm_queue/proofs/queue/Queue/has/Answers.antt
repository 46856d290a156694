use Rattle.pm_queue.proofs.EntryTables.{in_places}
use Rattle.pm_queue.proofs.queue.Queue.has.Goals as goal

pub has-requires-clause-item_in : goal.has-requires-clause-item_in
has-requires-clause-item_in c =
    in_places c.self.inside.parts.heap _ c.args.item c.self.view_is c.requires.in_range
