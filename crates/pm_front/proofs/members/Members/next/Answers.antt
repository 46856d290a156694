use Rattle.std.proofs.Common.{◌≡◌, ◌+◌, ◌-◌, true, length, sym, ap, ◌∙◌, subst, arith}
use Rattle.pm_links.specs.Lists.{has, first_of, after}
use Rattle.pm_sets.proofs.FlagLaws.{in_below}
use Rattle.pm_front.specs.Members.{Members}
use Rattle.pm_front.proofs.FlagLaws.{has-flagged, first_found, after_member}
use Rattle.pm_front.proofs.members.Members.next.Goals as goal

pub overflow_add-number : goal.overflow_add-number
overflow_add-number c =
    let numbers = c.self.inside.numbers in
    let there = sym (has-flagged numbers c.args.number)
    ∙ subst (λ (m : Members). has m.list c.args.number ≡ true) (sym c.self.view_is)
    c.requires in
    omega (arith, in_below numbers c.args.number there, c.self.invariant.few)

pub first_from-requires : goal.first_from-requires
first_from-requires c =
    let numbers = c.self.inside.numbers in
    let there = sym (has-flagged numbers c.args.number)
    ∙ subst (λ (m : Members). has m.list c.args.number ≡ true) (sym c.self.view_is)
    c.requires in
    omega (arith, in_below numbers c.args.number there)

pub returns : goal.returns
returns c =
    let numbers = c.self.inside.numbers in
    let n = c.args.number in
    let there = sym (has-flagged numbers n)
    ∙ subst (λ (m : Members). has m.list n ≡ true) (sym c.self.view_is) c.requires in
    first_found numbers (n + 1) (length numbers - (n + 1)) (omega (arith, in_below numbers n there))
    c.first_from.result c.first_from.ensures.some c.first_from.ensures.none
    ∙ ap first_of (sym (after_member numbers n there))
    ∙ ap (λ (m : Members). first_of (after n m.list)) c.self.view_is
