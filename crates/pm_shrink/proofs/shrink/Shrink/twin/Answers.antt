use Rattle.pm_shrink.specs.Shrinking.{net_at}
use Rattle.pm_shrink.proofs.BesideLaws.{twin_told}
use Rattle.pm_shrink.proofs.shrink.Shrink.twin.Goals as goal

pub returns : goal.returns
returns c = twin_told (net_at c.args.self.now) c.args.side.0 c.across.result c.across.ensures
