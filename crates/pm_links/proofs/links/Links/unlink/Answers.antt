use Rattle.std.proofs.Common.{◌≡◌, ◌<◌, length, set, map, arith, refl, ◌∙◌}
use Rattle.std.proofs.lemmas.List.{with_items_is}
use Rattle.std.specs.Vec.{with_items}
use Rattle.pm_links.specs.declared.links.TheConstants.{FREE}
use Rattle.pm_links.specs.Arena.{IsArena, lists_of}
use Rattle.pm_links.specs.Lists.{list_without}
use Rattle.pm_links.proofs.Outside.{before_in, after_in, low_head}
use Rattle.pm_links.proofs.Unlinked.{unlinked}
use Rattle.pm_links.proofs.Walks.{closed, seen, sound}
use Rattle.pm_links.proofs.links.Links.unlink.Goals as goal

pub cut_out-requires-clause-before_in : goal.cut_out-requires-clause-before_in
cut_out-requires-clause-before_in c =
    let a = c.self.invariant in
    let held = rw (← c.self.view_is) at c.requires in
    rw (c.deref_mut.ensures.value, c.deref_mut-2.ensures.value, a.next_len)
    (before_in a held.0 c.args.item held.1)

pub cut_out-requires-clause-after_in : goal.cut_out-requires-clause-after_in
cut_out-requires-clause-after_in c =
    let a = c.self.invariant in
    let held = rw (← c.self.view_is) at c.requires in
    rw (c.deref_mut.ensures.value, a.next_len) (after_in a held.0 c.args.item held.1)

-- the arena as the fields are written
made : (c : goal.After-self-3-1) → IsArena c.self.inside.items c.self.inside.heads
    (with_items c.self.inside.next c.cut_out.new.next).items
    (with_items c.self.inside.prev c.cut_out.new.prev).items
    (set c.self.inside.owner.items c.args.item FREE)
    (map (list_without c.args.item)
    (lists_of c.self.inside.items c.self.inside.heads c.self.inside.next.items))
made c =
    let a = c.self.invariant in
    let held = rw (← c.self.view_is) at c.requires in
    let low : held.0 < c.self.inside.heads = low_head a held.0 c.args.item held.1 in
    let next_len : length c.cut_out.new.next ≡ c.self.inside.next.len = omega arith in
    let prev_len : length c.cut_out.new.prev ≡ c.self.inside.prev.len = omega arith in
    let next_is = with_items_is c.self.inside.next c.cut_out.new.next next_len
    ∙ rw (c.deref_mut.ensures.value, c.deref_mut-2.ensures.value) at c.cut_out.ensures.next in
    let prev_is = with_items_is c.self.inside.prev c.cut_out.new.prev prev_len
    ∙ rw (c.deref_mut.ensures.value, c.deref_mut-2.ensures.value) at c.cut_out.ensures.prev in
    rw (next_is, prev_is)
    (unlinked a held.0 c.args.item _ _ FREE low held.1 refl refl (omega arith))

pub invariant_of-self : goal.invariant_of-self
invariant_of-self c = closed (made c)

pub returns : goal.returns
returns c = rw (← c.self.view_is)
    (record { lists = seen (made c); sound = sound (closed (made c)) })
