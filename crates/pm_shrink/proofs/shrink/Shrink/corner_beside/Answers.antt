use Rattle.pm_shrink.specs.Shrinking.{net_at}
use Rattle.pm_shrink.proofs.BesideLaws.{left_corner, right_corner}
use Rattle.pm_shrink.proofs.shrink.Shrink.corner_beside.Goals as goal

pub next_side-requires : goal.next_side-requires
next_side-requires c = (c.in-Some.ensures {u = tt}).stands

pub returns-in-Left : goal.returns-in-Left
returns-in-Left c =
    left_corner (net_at c.args.self.now) c.args.corner.0 c.twin.result
    (rw c.prev_side.ensures.value at c.twin.ensures)

pub returns-in-Some : goal.returns-in-Some
returns-in-Some c =
    rw c.next_side.ensures.value
    (right_corner (net_at c.args.self.now) c.args.corner.0 c.in-Some.twin.0
    (c.in-Some.ensures {u = tt}))
