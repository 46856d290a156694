use Rattle.std.proofs.Common.{refl, arith}
use Rattle.std.proofs.lemmas.List.{with_items_is}
use Rattle.pm_queue.proofs.heap.Heap.exchange_items.Goals as goal

pub returns-clause-exchanged : goal.returns-clause-exchanged
returns-clause-exchanged c =
    let i = c.self.inside in
    let placed = rw (← c.self.view_is) at c.requires.placed in
    let e = rw (c.deref_mut.ensures.value, c.deref_mut-2.ensures.value)
    at c.exchange_items.ensures in
    let items_is = with_items_is i.items c.exchange_items.new.items
    (omega (arith, e.inverse.heap_len, placed.inverse.heap_len, i.items.ok.0)) in
    let places_is = with_items_is i.places c.exchange_items.new.places
    (omega (arith, e.inverse.place_len, i.places.ok.0)) in
    rw (← c.self.view_is, items_is, places_is) (record {
      inverse = e.inverse;
      room = refl;
      items = e.items;
      places = e.places;
    })
