use Rattle.std.proofs.Common.{◌≡◌, ◌+◌, ◌<◌, ◌∷◌, List, Bool, true, false, set, length, sym, ◌∙◌}
use Rattle.std.proofs.Common.{subst, arith}
use Rattle.pm_links.specs.Lists.{has}
use Rattle.pm_sets.proofs.FlagLaws.{few_members}
use Rattle.pm_front.specs.Members.{Members, AreSameNumbers, AreMembers, members_of}
use Rattle.pm_front.proofs.FlagLaws.{has-flagged, members_more, put_in}
use Rattle.pm_front.proofs.members.Members.insert.Goals as goal

pub overflow_add-self : goal.overflow_add-self
overflow_add-self c =
    let numbers = c.self.inside.numbers in
    omega (
      arith,
      c.self.invariant.counted,
      c.self.invariant.few,
      few_members numbers 0 (length numbers),
    )

pub invariant_of-self : goal.invariant_of-self
invariant_of-self c =
    let numbers = c.self.inside.numbers in
    let below = subst (λ (m : Members). c.args.number < m.bound) (sym c.self.view_is)
    c.requires.below in
    let clear = sym (has-flagged numbers c.args.number)
    ∙ subst (λ (m : Members). has m.list c.args.number ≡ false) (sym c.self.view_is)
    c.requires.absent in
    subst (λ (l : List Bool). AreMembers l (c.self.inside.count + 1)) (sym c.insert.ensures)
    (members_more numbers c.args.number below c.self.inside.count c.self.invariant clear)

pub returns-clause-list : goal.returns-clause-list
returns-clause-list c =
    let numbers = c.self.inside.numbers in
    let below = subst (λ (m : Members). c.args.number < m.bound) (sym c.self.view_is)
    c.requires.below in
    subst (λ (l : List Bool). AreSameNumbers (members_of l) (c.args.number ∷ c.args.self.now.list))
    (sym c.insert.ensures)
    (subst (λ (m : Members). AreSameNumbers (members_of (set numbers c.args.number true))
    (c.args.number ∷ m.list)) c.self.view_is (put_in numbers c.args.number below))
