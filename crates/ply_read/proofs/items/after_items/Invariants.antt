use Rattle.std.proofs.Common.{◌≡◌, ◌-◌}
use Rattle.ply_read.specs.Items.{after_item}
use Rattle.ply_read.specs.Steps.{repeated}
use Rattle.ply_read.proofs.items.after_items.Given as goal

abbrev pub invariant-loop-i : goal.invariant-loop-i
invariant-loop-i l =
    repeated (after_item l.e l.t) (l.n - l._i) l.after
    ≡ repeated (after_item l.e l.t) l.n l.rest
