use Rattle.std.proofs.Common.{◌≤◌, ◌<◌, length, sym, subst}
use Rattle.std.specs.Prelude.{IfSome, IfNone}
use Rattle.pm_links.specs.Lists.{has}
use Rattle.pm_front.specs.Members.{Members}
use Rattle.pm_front.specs.Shown.{NonePasses, IsLeastFrom}
use Rattle.pm_front.proofs.FlagLaws.{least_found, none_found, found_below}
use Rattle.pm_front.proofs.members.Members.first_from.Goals as goal

pub first_from-requires : goal.first_from-requires
first_from-requires c =
    subst (λ (m : Members). c.args.from ≤ m.bound) (sym c.self.view_is) c.requires

pub returns-clause-some : goal.returns-clause-some
returns-clause-some c =
    subst (λ (m : Members). IfSome c.first_from.result (IsLeastFrom (has m.list) c.args.from))
    c.self.view_is
    (least_found c.self.inside.numbers c.args.from c.first_from.result c.first_from.ensures.some)

pub returns-clause-below : goal.returns-clause-below
returns-clause-below c =
    subst (λ (m : Members). IfSome c.first_from.result (λ k. k < m.bound)) c.self.view_is
    (found_below c.self.inside.numbers c.args.from c.first_from.result c.first_from.ensures.some)

pub returns-clause-none : goal.returns-clause-none
returns-clause-none c =
    subst (λ (m : Members). IfNone c.first_from.result
    (NonePasses (has m.list) c.args.from m.bound)) c.self.view_is
    (none_found c.self.inside.numbers c.args.from (length c.self.inside.numbers) c.first_from.result
    c.first_from.ensures.none)
