use Rattle.std.proofs.Common.{◌≡◌, ◌+◌, ◌<◌, [], ◌++◌, length, get_or, set, arith, refl, sym, ◌∙◌}
use Rattle.std.proofs.Common.{ap}
use Rattle.std.proofs.lemmas.List.{with_items_is, get_or_read}
use Rattle.std.proofs.lemmas.Bool.{le-ltb}
use Rattle.std.specs.Vec.{with_items}
use Rattle.pm_links.specs.Arena.{IsArena, lists_of}
use Rattle.pm_links.proofs.Members.{nil_from_first}
use Rattle.pm_links.proofs.Outside.{first_node_in, last_node_in}
use Rattle.pm_links.proofs.Moved.{moved, moved_none}
use Rattle.pm_links.proofs.Walks.{closed, seen, sound, walk_list}
use Rattle.pm_links.proofs.Readers.{first_read}
use Rattle.pm_links.proofs.links.Links.move_all.Goals as goal

pub move_ring-requires-clause-last_in : goal.move_ring-requires-clause-last_in
move_ring-requires-clause-last_in c =
    let a = c.self.invariant in
    let low = rw (← c.self.view_is, a.heads) at c.requires.from_in in
    rw (
      c.deref_mut-then-first-self.ensures.value,
      c.deref_mut-then-first-self-2.ensures.value,
      a.next_len,
    ) (last_node_in a c.args.from low)

pub move_ring-requires-clause-after_in : goal.move_ring-requires-clause-after_in
move_ring-requires-clause-after_in c =
    let a = c.self.invariant in
    let low = rw (← c.self.view_is, a.heads) at c.requires.to_in in
    rw (c.deref_mut-then-first-self.ensures.value, a.next_len) (first_node_in a c.args.to low)

-- the arena as the fields are written
made : (c : goal.After-self-then-first-self-2-1) → IsArena c.self.inside.items c.self.inside.heads
    (with_items c.self.inside.next c.move_ring.new.next).items
    (with_items c.self.inside.prev c.move_ring.new.prev).items
    (with_items c.self.inside.owner c.relabel.new.owner).items
    (set (set (lists_of c.self.inside.items c.self.inside.heads c.self.inside.next.items) c.args.to
    (get_or (lists_of c.self.inside.items c.self.inside.heads c.self.inside.next.items) c.args.from
    []
    ++ get_or (lists_of c.self.inside.items c.self.inside.heads c.self.inside.next.items) c.args.to
    [])) c.args.from [])
made c =
    let a = c.self.invariant in
    let from_low = rw (← c.self.view_is, a.heads) at c.requires.from_in in
    let to_low = rw (← c.self.view_is, a.heads) at c.requires.to_in in
    let inner : c.self.inside.items + c.args.from < length c.self.inside.next.items = omega arith in
    let read : get_or c.self.inside.next.items
    (c.self.inside.items + c.args.from) 0 ≡ c.index-first.result.now
    = sym (get_or_read c.self.inside.next.items _ _ inner c.index-first.ensures 0) in
    let next_len : length c.move_ring.new.next ≡ c.self.inside.next.len = omega arith in
    let prev_len : length c.move_ring.new.prev ≡ c.self.inside.prev.len = omega arith in
    let owner_len : length c.relabel.new.owner ≡ c.self.inside.owner.len = omega arith in
    let next_is = with_items_is c.self.inside.next c.move_ring.new.next next_len
    ∙ rw (c.deref_mut-then-first-self.ensures.value, c.deref_mut-then-first-self-2.ensures.value) at
    c.move_ring.ensures.next in
    let prev_is = with_items_is c.self.inside.prev c.move_ring.new.prev prev_len
    ∙ rw (c.deref_mut-then-first-self.ensures.value, c.deref_mut-then-first-self-2.ensures.value) at
    c.move_ring.ensures.prev in
    let walked = walk_list a c.args.from from_low in
    let owner_is = with_items_is c.self.inside.owner c.relabel.new.owner owner_len
    ∙ rw (c.deref.ensures.value, c.deref_mut.ensures.value, a.owner_len, ← read, walked) at
    c.relabel.ensures in
    rw (next_is, prev_is, owner_is)
    (moved a c.args.from c.args.to _ _ _ from_low to_low c.requires.differ
    (rw read c.if-first-self.true) refl refl refl)

pub invariant_of-self : goal.invariant_of-self
invariant_of-self c = closed (made c)

pub returns-then-first-self : goal.returns-then-first-self
returns-then-first-self c = rw (← c.self.view_is)
    (record { lists = seen (made c); sound = sound (closed (made c)) })

pub returns-else-first-self : goal.returns-else-first-self
returns-else-first-self c =
    let a = c.self.invariant in
    let from_low = rw (← c.self.view_is, a.heads) at c.requires.from_in in
    let inner : c.self.inside.items + c.args.from < length c.self.inside.next.items = omega arith in
    let read : get_or c.self.inside.next.items
    (c.self.inside.items + c.args.from) 0 ≡ c.index-first.result.now
    = sym (get_or_read c.self.inside.next.items _ _ inner c.index-first.ensures 0) in
    let first = rw (le-ltb c.index-first.result.now c.self.inside.items c.if-first-self.false) at
    (first_read a c.args.from _ from_low read) in
    rw (← c.self.view_is) (record {
      lists = ap (λ k. record { items = c.self.inside.items; lists = k })
          (sym (moved_none _ c.args.from c.args.to (nil_from_first _ first) c.requires.differ));
      sound = sound a;
    })
