use Rattle.pm_buffers.proofs.FewestLaws.{fewest}
use Rattle.pm_buffers.proofs.laws.writes_are_fewest.Goals as goal

pub returns : goal.returns
returns c old gone put now slots change changed written =
    fewest old gone put change now slots changed written
