use Rattle.std.proofs.Common.{[], replicate, arith}
use Rattle.pm_links.specs.declared.links.TheConstants.{FREE}
use Rattle.pm_links.specs.Arena.{IsArena}
use Rattle.pm_links.proofs.Started.{started}
use Rattle.pm_links.proofs.Walks.{closed, seen, sound}
use Rattle.pm_links.proofs.links.Links.new.Goals as goal

-- the arena as the fields are made
made : (c : goal.In_ok-owner) → IsArena c.args.n c.args.m
    c.in_ok-next.next.items c.in_ok-prev.prev.items c.in_ok-owner.owner.items
    (replicate c.args.m [])
made c =
    let next = c.in_ok-next.ensures {u = tt} in
    let prev = c.in_ok-prev.ensures {u = tt} in
    let owner = c.in_ok-owner.ensures {u = tt} in
    started c.args.n c.args.m FREE _ _ _ c.requires.items c.requires.heads
    (omega arith) next.len next.own prev.len prev.own (owner.items_if_clones_equal (λ y e. e))

pub invariant_of-result : goal.invariant_of-result
invariant_of-result c = closed (made c)

pub returns : goal.returns
returns c = record { value = seen (made c); sound = sound (closed (made c)) }
