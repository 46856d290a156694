use Rattle.std.proofs.Common.{◌∙◌, length, ap}
use Rattle.pm_base.specs.Counts.{set_of}
use Rattle.pm_front.specs.Shown.{active_nodes}
use Rattle.pm_front.specs.State.{State}
use Rattle.pm_front.proofs.MemberLaws.{active-many}
use Rattle.pm_front.proofs.front_tables.FrontTables.active_count.Goals as goal

pub returns : goal.returns
returns c =
    c.len.ensures ∙ active-many c.self.inside.indexed (set_of c.self.inside.flags.items)
    c.self.inside.active.list c.self.invariant.active_list
    ∙ ap (λ (s : State). length (active_nodes s.h (set_of s.flags))) c.self.view_is
