use Rattle.std.proofs.Common.{◌<◌, length, arith, sym}
use Rattle.std.proofs.lemmas.Bool.{le-ltb, lt-ltb}
use Rattle.std.proofs.lemmas.List.{get_or_read}
use Rattle.pm_links.proofs.Outside.{low_head}
use Rattle.pm_links.proofs.Walks.{sound}
use Rattle.pm_links.proofs.Readers.{next_read}
use Rattle.pm_links.proofs.links.Links.next.Goals as goal

pub returns-then-node-self-clause-value : goal.returns-then-node-self-clause-value
returns-then-node-self-clause-value c =
    let a = c.self.invariant in
    rw (← c.self.view_is) (λ h i.
    let item_in : c.args.item < c.self.inside.items =
    a.in_range h c.args.item (low_head a h c.args.item i) i in
    let inner : c.args.item < length c.self.inside.next.items = omega arith in
    let read = get_or_read c.self.inside.next.items _ _ inner c.index-node.ensures 0 in
    sym (rw (lt-ltb c.index-node.result.now c.self.inside.items c.if-node-self.true) at
    (next_read a h c.args.item _ i (sym read))))

pub returns-else-node-self-clause-value : goal.returns-else-node-self-clause-value
returns-else-node-self-clause-value c =
    let a = c.self.invariant in
    rw (← c.self.view_is) (λ h i.
    let item_in : c.args.item < c.self.inside.items =
    a.in_range h c.args.item (low_head a h c.args.item i) i in
    let inner : c.args.item < length c.self.inside.next.items = omega arith in
    let read = get_or_read c.self.inside.next.items _ _ inner c.index-node.ensures 0 in
    sym (rw (le-ltb c.index-node.result.now c.self.inside.items c.if-node-self.false) at
    (next_read a h c.args.item _ i (sym read))))

pub returns-then-node-self-clause-sound : goal.returns-then-node-self-clause-sound
returns-then-node-self-clause-sound c = rw (← c.self.view_is) (sound c.self.invariant)

pub returns-else-node-self-clause-sound : goal.returns-else-node-self-clause-sound
returns-else-node-self-clause-sound c = rw (← c.self.view_is) (sound c.self.invariant)
