use Rattle.std.proofs.Common.{ap, ◌∙◌}
use Rattle.std.specs.Prelude.{is_none}
use Rattle.pm_base.proofs.SideNumbers.{none_numbered}
use Rattle.pm_shrink.proofs.PlaceTables.{none_is}
use Rattle.pm_shrink.proofs.shrink.Shrink.is_border_side.Goals as goal

pub returns : goal.returns
returns c = none_is c.across.result c.is_none.result c.is_none.ensures
    ∙ none_numbered c.across.result ∙ ap is_none c.across.ensures
