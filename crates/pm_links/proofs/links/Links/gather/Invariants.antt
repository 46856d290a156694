use Rattle.std.proofs.Common.{get_or}
use Rattle.pm_links.specs.Arena.{walk_items}
use Rattle.pm_links.proofs.links.Links.gather.Given as goal

-- each item is below the nodes of the heads, and so below the node of this one
abbrev pub ghost-copy_ends : goal.ghost-copy_ends
ghost-copy_ends a = walk_items a.next.now a.node a.node (get_or a.next.now a.node 0)
