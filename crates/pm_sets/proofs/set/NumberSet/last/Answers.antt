use Rattle.std.proofs.Common.{List, Bool, length, subst}
use Rattle.std.specs.Prelude.{IfSome, IfNone}
use Rattle.std.proofs.lemmas.Option.{IfSome_then}
use Rattle.pm_sets.specs.Sets.{IsEmptySet, IsLast}
use Rattle.pm_sets.proofs.BlockLaws.{none_at_all, last_in_blocks}
use Rattle.pm_sets.proofs.set.NumberSet.last.Goals as goal

pub returns-in_err-block-clause-none : goal.returns-in_err-block-clause-none
returns-in_err-block-clause-none c =
    subst (λ (l : List Bool). IfNone c.from_residual.result (IsEmptySet l)) c.self.view_is
    (rw c.from_residual.ensures
    (none_at_all c.self.inside.numbers c.self.inside.blocks c.self.invariant
    c.in_err-block.ensures.none))

pub returns-clause-some : goal.returns-clause-some
returns-clause-some c =
    subst (λ (l : List Bool). IfSome c.last_in_word.result (IsLast l (length l))) c.self.view_is
    (IfSome_then c.last_in_word.result c.last_in_word.ensures.some
    (λ k. last_in_blocks c.self.inside.numbers c.self.inside.blocks c.self.invariant
    c.in_ok-block.block k c.in_ok-block.ensures.some))
