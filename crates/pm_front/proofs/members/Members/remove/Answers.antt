use Rattle.std.proofs.Common.{◌≡◌, ◌-◌, List, Bool, true, false, set, sym, ◌∙◌, subst}
use Rattle.pm_links.specs.Lists.{has, list_without}
use Rattle.pm_sets.proofs.FlagLaws.{in_below}
use Rattle.pm_front.specs.Members.{Members, AreSameNumbers, AreMembers, members_of}
use Rattle.pm_front.proofs.FlagLaws.{has-flagged, members_less, taken_out}
use Rattle.pm_front.proofs.members.Members.remove.Goals as goal

pub remove-requires : goal.remove-requires
remove-requires c =
    let numbers = c.self.inside.numbers in
    in_below numbers c.args.number (sym (has-flagged numbers c.args.number)
    ∙ subst (λ (m : Members). has m.list c.args.number ≡ true) (sym c.self.view_is) c.requires)

pub invariant_of-self : goal.invariant_of-self
invariant_of-self c =
    let numbers = c.self.inside.numbers in
    let there = sym (has-flagged numbers c.args.number)
    ∙ subst (λ (m : Members). has m.list c.args.number ≡ true) (sym c.self.view_is)
    c.requires in
    subst (λ (l : List Bool). AreMembers l (c.self.inside.count - 1)) (sym c.remove.ensures)
    (members_less numbers c.args.number (in_below numbers c.args.number there) c.self.inside.count
    c.self.invariant there)

pub returns-clause-list : goal.returns-clause-list
returns-clause-list c =
    let numbers = c.self.inside.numbers in
    let there = sym (has-flagged numbers c.args.number)
    ∙ subst (λ (m : Members). has m.list c.args.number ≡ true) (sym c.self.view_is)
    c.requires in
    subst (λ (l : List Bool). AreSameNumbers (members_of l)
    (list_without c.args.number c.args.self.now.list)) (sym c.remove.ensures)
    (subst (λ (m : Members). AreSameNumbers (members_of (set numbers c.args.number false))
    (list_without c.args.number m.list)) c.self.view_is
    (taken_out numbers c.args.number (in_below numbers c.args.number there)))
