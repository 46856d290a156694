use Rattle.std.proofs.Common.{sym, ◌∙◌}
use Rattle.std.proofs.lemmas.List.{get_or_read}
use Rattle.pm_queue.proofs.EntryTables.{is_some-key_at}
use Rattle.pm_queue.proofs.heap.Heap.has.Goals as goal

pub returns : goal.returns
returns c =
    let i = c.self.inside in
    let low = rw (← c.self.view_is) at c.requires.item_in in
    let read = get_or_read i.places.items c.args.item _ low c.index.ensures 0 in
    rw (← c.self.view_is, read, c.len.ensures ∙ i.keys.ok.0)
    (sym (is_some-key_at i.keys.items i.places.items c.args.item low))
