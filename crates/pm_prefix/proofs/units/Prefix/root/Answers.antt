use Rattle.pm_prefix.specs.Tables.{whole}
use Rattle.pm_prefix.proofs.PrefixLaws.{root_parts}
use Rattle.pm_prefix.proofs.units.Prefix.root.Goals as goal

pub returns : goal.returns
returns c =
    root_parts (whole c.args.self.now) c.args.self.now.n c.args.v c.requires.inside
    c.roots.ensures.value c.get-root.ensures c.coordinates.ensures c.width.ensures c.input.ensures
