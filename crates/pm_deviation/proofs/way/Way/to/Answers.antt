use Rattle.std.proofs.Common.{w32, rules}
use Rattle.pm_deviation.proofs.WordLaws.{passed_small}
use Rattle.pm_deviation.proofs.way.Way.to.Goals as goal

pub above-requires-clause-x_small : goal.above-requires-clause-x_small
above-requires-clause-x_small c =
    passed_small w32 c.x.result c.args.p.x 32767 (search rules) c.x.ensures.value
    c.x.ensures.in_range.0

pub above-requires-clause-y_small : goal.above-requires-clause-y_small
above-requires-clause-y_small c =
    passed_small w32 c.x-2.result c.args.q.x 32767 (search rules) c.x-2.ensures.value
    c.x-2.ensures.in_range.0

pub above-requires-2-clause-x_small : goal.above-requires-2-clause-x_small
above-requires-2-clause-x_small c =
    passed_small w32 c.y.result c.args.p.y 32767 (search rules) c.y.ensures.value
    c.y.ensures.in_range.1

pub above-requires-2-clause-y_small : goal.above-requires-2-clause-y_small
above-requires-2-clause-y_small c =
    passed_small w32 c.y-2.result c.args.q.y 32767 (search rules) c.y-2.ensures.value
    c.y-2.ensures.in_range.1

pub above-requires-3-clause-x_small : goal.above-requires-3-clause-x_small
above-requires-3-clause-x_small c =
    passed_small w32 c.z.result c.args.p.z 32767 (search rules) c.z.ensures.value
    c.z.ensures.in_range.2

pub above-requires-3-clause-y_small : goal.above-requires-3-clause-y_small
above-requires-3-clause-y_small c =
    passed_small w32 c.z-2.result c.args.q.z 32767 (search rules) c.z-2.ensures.value
    c.z-2.ensures.in_range.2
