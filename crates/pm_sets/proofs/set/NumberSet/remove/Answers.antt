use Rattle.std.proofs.Common.{◌+◌, ◌*◌, ◌/◌, ◌<◌, List, Bool, length, sym, subst}
use Rattle.std.specs.Prelude.{IfSome, IfNone}
use Rattle.pm_sets.specs.Sets.{IsGap, IsLast}
use Rattle.pm_sets.proofs.BlockLaws.{taken_last, taken_out}
use Rattle.pm_sets.proofs.set.NumberSet.remove.Goals as goal

pub invariant_of-self : goal.invariant_of-self
invariant_of-self c =
    let below = subst (λ (l : List Bool). c.args.number < length l) (sym c.self.view_is)
    c.requires in
    let start = 64 * (c.args.number / 64) in
    rw (c.remove.ensures, c.remove-then-is_none.ensures)
    (taken_last c.self.inside.numbers c.self.inside.blocks c.self.invariant c.args.number below
    c.last_in_word.result c.if-is_none.ensures
    (subst (λ l. IfNone c.last_in_word.result (IsGap l start (start + 64))) c.remove.ensures
    c.last_in_word.ensures.none))

pub invariant_of-self-else-is_none : goal.invariant_of-self-else-is_none
invariant_of-self-else-is_none c =
    let below = subst (λ (l : List Bool). c.args.number < length l) (sym c.self.view_is)
    c.requires in
    let end = 64 * (c.args.number / 64) + 64 in
    rw c.remove.ensures
    (taken_out c.self.inside.numbers c.self.inside.blocks c.self.invariant c.args.number below
    c.last_in_word.result c.if-is_none.ensures
    (subst (λ l. IfSome c.last_in_word.result (IsLast l end)) c.remove.ensures
    c.last_in_word.ensures.some) c.last_in_word.ensures.after)
