use Rattle.std.proofs.Common.{◌+◌, ◌<◌, ◌≤◌, length, sum, sym, subst}
use Rattle.pm_forest.specs.Forest.{widths_of}
use Rattle.pm_forest.proofs.GrowthLaws.{root_added}
use Rattle.pm_forest.proofs.growing.Growing.add_root.Goals as goal

pub invariant_of-self : goal.invariant_of-self
invariant_of-self c =
    root_added c.self.invariant _ _ _ _ c.args.root _ _
    (subst (λ v. length v.h.roots < v.counts.roots) (sym c.self.view_is) c.requires.next)
    (subst (λ v. sum (widths_of v.h.roots) + c.args.root.width ≤ v.counts.leaves)
    (sym c.self.view_is) c.requires.leaves)
    c.len-node.ensures c.len-from.ensures c.push_within_room.ensures.items
    c.push_within_room.ensures.spare c.note_owners.ensures.items c.note_owners.ensures.spare
    c.note_node.ensures.intervals c.note_node.ensures.leaf_nodes
