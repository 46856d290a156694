use Rattle.std.proofs.Common.{◌≡◌, ◌<◌, [], ◌∷◌, length, get_or, set, arith, refl, ◌∙◌}
use Rattle.std.proofs.lemmas.List.{with_items_is}
use Rattle.std.specs.Vec.{with_items}
use Rattle.pm_links.specs.Arena.{IsArena, lists_of}
use Rattle.pm_links.proofs.Outside.{first_node_in}
use Rattle.pm_links.proofs.Pushed.{pushed}
use Rattle.pm_links.proofs.Walks.{closed, seen, sound}
use Rattle.pm_links.proofs.links.Links.push_front.Goals as goal

pub insert_after-requires-clause-after_in : goal.insert_after-requires-clause-after_in
insert_after-requires-clause-after_in c =
    let a = c.self.invariant in
    let low = rw (← c.self.view_is, a.heads) at c.requires.head_in in
    rw (c.deref_mut.ensures.value, a.next_len) (first_node_in a c.args.head low)

-- the arena as the fields are written
made : (c : goal.After-self-3-1) → IsArena c.self.inside.items c.self.inside.heads
    (with_items c.self.inside.next c.insert_after.new.next).items
    (with_items c.self.inside.prev c.insert_after.new.prev).items
    (set c.self.inside.owner.items c.args.item c.args.head)
    (set (lists_of c.self.inside.items c.self.inside.heads c.self.inside.next.items) c.args.head
    (c.args.item
    ∷ get_or (lists_of c.self.inside.items c.self.inside.heads c.self.inside.next.items)
    c.args.head []))
made c =
    let a = c.self.invariant in
    let low = rw (← c.self.view_is, a.heads) at c.requires.head_in in
    let inner : c.args.item < c.self.inside.items = rw (← c.self.view_is) at c.requires.item_in in
    let free = rw (← c.self.view_is) at c.requires.free in
    let next_len : length c.insert_after.new.next ≡ c.self.inside.next.len = omega arith in
    let prev_len : length c.insert_after.new.prev ≡ c.self.inside.prev.len = omega arith in
    let next_is = with_items_is c.self.inside.next c.insert_after.new.next next_len
    ∙ rw c.deref_mut.ensures.value at c.insert_after.ensures.next in
    let prev_is = with_items_is c.self.inside.prev c.insert_after.new.prev prev_len
    ∙ rw (c.deref_mut.ensures.value, c.deref_mut-2.ensures.value) at c.insert_after.ensures.prev in
    rw (next_is, prev_is) (pushed a c.args.head c.args.item _ low inner free refl)

pub invariant_of-self : goal.invariant_of-self
invariant_of-self c = closed (made c)

pub returns : goal.returns
returns c = rw (← c.self.view_is)
    (record { lists = seen (made c); sound = sound (closed (made c)) })
