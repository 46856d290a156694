use Rattle.std.proofs.Common.{ap}
use Rattle.pm_io.specs.Memory.{SureState}
use Rattle.pm_viewer.specs.Viewing.{Replied}
use Rattle.pm_making.proofs.EndLaws.{border_of}
use Rattle.pm_making.proofs.building.obeyed.Goals as goal

pub returns-in-Ok-obey-clause-meets : goal.returns-in-Ok-obey-clause-meets
returns-in-Ok-obey-clause-meets c target digits is =
    border_of target digits c.in-Ok.source.left c.args.text.now c.new-gathered.result.got
    c.into_bytes.result.items c.obey.new.out.got (ap (λ (s : SureState). s.left) c.in-Ok.ensures)
    (ap (λ (r : Replied). r.got) c.new-gathered.ensures) c.into_bytes.ensures
    (c.in-Ok-obey.ensures.meets target digits is)
