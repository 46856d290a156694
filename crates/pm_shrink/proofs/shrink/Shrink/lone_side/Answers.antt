use Rattle.pm_shrink.specs.Shrinking.{net_at}
use Rattle.pm_shrink.proofs.ObstacleLaws.{alone_found, alone_back}
use Rattle.pm_shrink.proofs.shrink.Shrink.lone_side.Goals as goal

pub returns-then-is_alone_along : goal.returns-then-is_alone_along
returns-then-is_alone_along c =
    alone_found (net_at c.args.self.now) c.args.a c.args.b c.side_to.ensures.once
    (c.is_alone_along.ensures.0 c.if-is_alone_along.true) c.side_to.result c.side_to.ensures.value _

pub returns-then-is_alone_along-2 : goal.returns-then-is_alone_along-2
returns-then-is_alone_along-2 c =
    let found = c.side_to-then-is_alone_along-2 in
    alone_back (net_at c.args.self.now) c.args.a c.args.b found.result _
    (alone_found (net_at c.args.self.now) c.args.b c.args.a found.ensures.once
    (c.is_alone_along-2.ensures.0 c.if-is_alone_along-2.true) found.result found.ensures.value _)
