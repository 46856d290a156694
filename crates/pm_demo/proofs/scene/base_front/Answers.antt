use Rattle.std.proofs.Common.{◌∙◌, ap}
use Rattle.pm_forest.specs.Forest.{record_count}
use Rattle.pm_base.specs.Counts.{set_of}
use Rattle.pm_forest.proofs.Flags.{set_of-unset}
use Rattle.pm_demo.proofs.scene.base_front.Goals as goal

pub returns-in-Ok-clause-base : goal.returns-in-Ok-clause-base
returns-in-Ok-clause-base c =
    ap set_of c.in-Ok.ensures.flags ∙ set_of-unset (record_count c.in_ok-h.h)
