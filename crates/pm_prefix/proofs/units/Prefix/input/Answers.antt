use Rattle.pm_prefix.proofs.PrefixLaws.{ends_in}
use Rattle.pm_prefix.proofs.units.Prefix.input.Goals as goal

pub before-requires-clause-inside : goal.before-requires-clause-inside
before-requires-clause-inside c =
    (ends_in c.args.self.now c.requires.prefix c.args.node c.requires.inside
    c.interval-from.ensures).0
