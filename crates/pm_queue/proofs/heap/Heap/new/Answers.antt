use Rattle.pm_queue.proofs.EntryTables.{entries_none}
use Rattle.pm_queue.proofs.heap.Heap.new.Goals as goal

pub returns-clause-entries : goal.returns-clause-entries
returns-clause-entries c = rw c.in_ok-keys.ensures.items
    (entries_none c.args.n c.in_ok-places.places.items c.in_ok-places.ensures.len)
