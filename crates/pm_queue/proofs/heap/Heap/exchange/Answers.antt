use Rattle.std.proofs.Common.{arith}
use Rattle.std.proofs.lemmas.List.{with_items_is}
use Rattle.pm_queue.proofs.TableLaws.{kept_exchanged}
use Rattle.pm_queue.proofs.heap.Heap.exchange.Goals as goal

pub returns-clause-kept : goal.returns-clause-kept
returns-clause-kept c =
    let i = c.self.inside in
    let e = rw (← c.self.view_is) at c.exchange_items.ensures in
    let keys = rw (c.deref_mut.ensures.value, e.keys) at c.exchange_keys.ensures in
    let kept = kept_exchanged c.exchange_keys.new.keys c.requires.placed c.requires.p_in
    c.requires.q_in e.exchanged keys in
    let keys_is = with_items_is i.keys c.exchange_keys.new.keys
    (omega (arith, kept.keys_len, i.keys.ok.0)) in
    rw keys_is kept
