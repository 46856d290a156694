use Rattle.pm_queue.proofs.EntryTables.{in_places}
use Rattle.pm_queue.proofs.queue.Queue.remove.Goals as goal

pub remove-requires-clause-item_in : goal.remove-requires-clause-item_in
remove-requires-clause-item_in c =
    in_places c.self.inside.parts.heap _ c.args.item c.self.view_is c.requires.in_range
