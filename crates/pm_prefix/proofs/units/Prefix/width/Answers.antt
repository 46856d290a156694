use Rattle.std.proofs.Common.{arith}
use Rattle.pm_prefix.proofs.PrefixLaws.{ends_in}
use Rattle.pm_prefix.proofs.units.Prefix.width.Goals as goal

pub before-requires-clause-inside : goal.before-requires-clause-inside
before-requires-clause-inside c =
    (ends_in c.args.self.now c.requires.prefix c.args.node c.requires.inside
    c.interval-from.ensures).1

pub before-requires-2-clause-inside : goal.before-requires-2-clause-inside
before-requires-2-clause-inside c =
    (ends_in c.args.self.now c.requires.prefix c.args.node c.requires.inside
    c.interval-from.ensures).0

pub overflow_sub-result : goal.overflow_sub-result
overflow_sub-result c =
    let ends = ends_in c.args.self.now c.requires.prefix c.args.node c.requires.inside
    c.interval-from.ensures in
    omega (arith, ends, c.before-2.ensures.value, c.before-3.ensures.value)
