use Rattle.pm_queue.specs.Heap.{goes_first}
use Rattle.pm_queue.proofs.EntryTables.{item_key_place}
use Rattle.pm_queue.proofs.heap.Heap.goes_first.Goals as goal

pub returns : goal.returns
unfolding goes_first
returns c =
    let placed = rw (← c.self.view_is) at c.requires.placed in
    let p_in = rw (← c.self.view_is) at c.requires.p_in in
    let q_in = rw (← c.self.view_is) at c.requires.q_in in
    rw (
      ← c.self.view_is,
      item_key_place _ c.args.p placed p_in,
      item_key_place _ c.args.q placed q_in,
    )
    (rw (c.deref.ensures.value, c.deref-2.ensures.value) at c.precedes.ensures)
