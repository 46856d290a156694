use Rattle.std.proofs.Common.{◌≡◌, ◌-◌, length, ◌∙◌, ap, arith}
use Rattle.std.proofs.lemmas.List.{get_or_read}
use Rattle.pm_queue.proofs.TableLaws.{key_dropped}
use Rattle.pm_queue.proofs.heap.Heap.drop_key.Goals as goal

pub returns : goal.returns
returns c =
    let i = c.self.inside in
    let r = rw (← c.self.view_is) at c.requires in
    let x = rw (← c.self.view_is, ← c.self-2.view_is) at c.exchange_items.ensures in
    let at = get_or_read i.places.items c.args.item _ r.item_in c.index-at.ensures 0 in
    let last : c.len.result - 1 ≡ length i.keys.items - 1 =
    ap (λ n. n - 1) (c.len.ensures ∙ i.keys.ok.0) in
    let e = rw (c.self-2.inside.keys.ok.0, x.keys) at c.swap_remove.ensures in
    rw (← c.self.view_is) (key_dropped c.swap_remove.new.self.items c.args.item _ r.placed r.item_in
    at (omega (arith, at, r.has_key)) last x.exchanged
    (omega (arith, e.capacity, x.exchanged.room))
    (omega (arith, e.len, c.swap_remove.new.self.ok.0)) e.by_index)
