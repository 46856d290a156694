use Rattle.std.proofs.Common.{[], ap, ◌∙◌}
use Rattle.std.proofs.lemmas.List.{get_or_read}
use Rattle.pm_queue.specs.Heap.{place_key}
use Rattle.pm_queue.proofs.EntryTables.{item_key_place}
use Rattle.pm_queue.proofs.heap.Heap.cost.Goals as goal

pub returns : goal.returns
returns c =
    let placed = rw (← c.self.view_is) at c.requires.placed in
    let p_in = rw (← c.self.view_is) at c.requires.p_in in
    rw (← c.self.view_is, item_key_place _ c.args.p placed p_in) (c.cost.ensures
    ∙ ap (λ k. k.cost) (get_or_read c.self.inside.keys.items c.args.p _ p_in c.index.ensures
    (place_key [] 0)))
