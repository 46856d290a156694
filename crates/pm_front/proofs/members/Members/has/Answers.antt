use Rattle.std.proofs.Common.{sym, ap, ◌∙◌}
use Rattle.pm_links.specs.Lists.{has}
use Rattle.pm_front.specs.Members.{Members}
use Rattle.pm_front.proofs.FlagLaws.{has-flagged}
use Rattle.pm_front.proofs.members.Members.has.Goals as goal

pub returns : goal.returns
returns c = c.has.ensures ∙ sym (has-flagged c.self.inside.numbers c.args.number)
    ∙ ap (λ (m : Members). has m.list c.args.number) c.self.view_is
