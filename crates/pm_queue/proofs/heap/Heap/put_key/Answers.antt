use Rattle.std.proofs.Common.{◌≡◌, [], ◌∷◌, ◌++◌, length, ◌∙◌, ap, arith}
use Rattle.std.proofs.lemmas.Grind.{common_steps}
use Rattle.std.proofs.lemmas.List.{get_or_read}
use Rattle.pm_queue.proofs.TableLaws.{key_added, key_replaced}
use Rattle.pm_queue.proofs.heap.Heap.put_key.Goals as goal

pub returns-then-at-len : goal.returns-then-at-len
returns-then-at-len c =
    let i = c.self.inside in
    let r = rw (← c.self.view_is) at c.requires in
    let at = get_or_read i.places.items c.args.item _ r.item_in c.index-at.ensures 0 in
    rw (← c.self.view_is, c.of.ensures) (key_replaced _ c.args.item c.index-at.result.now _
    c.args.key r.placed r.item_in at
    (omega (arith, c.if-at-len.true, c.len-len.ensures, i.keys.ok.0)) (omega arith))

pub returns : goal.returns
returns c =
    let i = c.self.inside in
    let r = rw (← c.self.view_is) at c.requires in
    let len : c.len-len.result ≡ length i.keys.items = c.len-len.ensures ∙ i.keys.ok.0 in
    let x = rw (← c.self.view_is, ← c.self-2.view_is, len) at c.exchange_items.ensures in
    let at = get_or_read i.places.items c.args.item _ r.item_in c.index-at.ensures 0 in
    let out = r.placed.inverse.place_in c.args.item r.item_in in
    let ok = c.push.ensures.succeeds (omega (
      arith,
      len,
      at,
      out,
      ap length x.keys,
      x.exchanged.room,
      r.placed.room,
      c.if-at-len.false,
      c.self-2.inside.keys.ok.0,
    )) in
    let pushed : c.push.new.self.items ≡ c.self-2.inside.keys.items ++ c.of-2.result ∷ [] =
    grind (arith, common_steps, c.push.ensures.items, ok) in
    rw (← c.self.view_is) (key_added c.push.new.self.items c.args.item _ c.args.key r.placed
    r.item_in at (omega (arith, c.if-at-len.false, len)) x.exchanged
    (omega (arith, x.exchanged.room, c.push.ensures.capacity))
    (rw (c.of-2.ensures, x.keys) at pushed))
