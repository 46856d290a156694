use Rattle.std.proofs.Common.{length, ap, ◌∙◌, arith}
use Rattle.pm_links.specs.Lists.{first_of}
use Rattle.pm_front.specs.Members.{Members}
use Rattle.pm_front.proofs.FlagLaws.{first_found}
use Rattle.pm_front.proofs.members.Members.first.Goals as goal

pub returns : goal.returns
returns c =
    first_found c.self.inside.numbers 0 (length c.self.inside.numbers) (omega arith)
    c.first_from.result c.first_from.ensures.some c.first_from.ensures.none
    ∙ ap (λ (m : Members). first_of m.list) c.self.view_is
