use Rattle.pm_queue.proofs.PartLaws.{parted_none}
use Rattle.pm_queue.proofs.queue.Queue.new.Goals as goal

pub invariant_of-result : goal.invariant_of-result
invariant_of-result c =
    let e = c.in_ok-heap.ensures in
    parted_none c.in_ok-heap.heap e.placed e.no_keys
