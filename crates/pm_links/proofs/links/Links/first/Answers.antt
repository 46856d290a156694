use Rattle.std.proofs.Common.{◌+◌, ◌<◌, length, arith, sym}
use Rattle.std.proofs.lemmas.Bool.{le-ltb}
use Rattle.std.proofs.lemmas.List.{get_or_read}
use Rattle.pm_links.proofs.Walks.{sound}
use Rattle.pm_links.proofs.Readers.{first_read}
use Rattle.pm_links.proofs.links.Links.first.Goals as goal

pub returns-else-node-self-clause-value : goal.returns-else-node-self-clause-value
returns-else-node-self-clause-value c =
    let a = c.self.invariant in
    let low = rw (← c.self.view_is, a.heads) at c.requires in
    let inner : c.self.inside.items + c.args.head < length c.self.inside.next.items = omega arith in
    let read = get_or_read c.self.inside.next.items _ _ inner c.index-node.ensures 0 in
    rw (← c.self.view_is)
    (sym (rw (le-ltb c.index-node.result.now c.self.inside.items c.if-node-self.false) at
    (first_read a c.args.head _ low (sym read))))

pub returns-then-node-self-clause-sound : goal.returns-then-node-self-clause-sound
returns-then-node-self-clause-sound c = rw (← c.self.view_is) (sound c.self.invariant)

pub returns-else-node-self-clause-sound : goal.returns-else-node-self-clause-sound
returns-else-node-self-clause-sound c = rw (← c.self.view_is) (sound c.self.invariant)
