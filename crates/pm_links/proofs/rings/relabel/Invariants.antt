use Rattle.std.proofs.Common.{◌≡◌, ◌-◌}
use Rattle.pm_links.specs.Arena.{walk_items}
use Rattle.pm_links.specs.Lists.{set_all}
use Rattle.pm_links.proofs.rings.relabel.Given as goal

-- the rest of the walk gives the owners of the whole walk
abbrev pub invariant-loop : goal.invariant-loop
invariant-loop l =
    set_all l.owner (walk_items l.next l.end (l.end - l.counter) l.node) l.head
    ≡ set_all l.fn.owner (walk_items l.next l.end l.end l.start) l.head
