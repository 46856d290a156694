use Rattle.std.proofs.Common.{List, Bool, length, subst}
use Rattle.std.specs.Prelude.{IfSome, IfNone}
use Rattle.std.proofs.lemmas.Option.{IfSome_then}
use Rattle.pm_sets.specs.Sets.{IsGap, IsFirst}
use Rattle.pm_sets.proofs.BlockLaws.{none_after, first_in_blocks}
use Rattle.pm_sets.proofs.set.NumberSet.first_from.Goals as goal

pub returns-in_err-block-clause-none : goal.returns-in_err-block-clause-none
returns-in_err-block-clause-none c =
    subst (λ (l : List Bool). IfNone c.from_residual.result (IsGap l c.args.at (length l)))
    c.self.view_is
    (rw c.from_residual.ensures
    (none_after c.self.inside.numbers c.self.inside.blocks c.self.invariant c.args.at
    c.in_default.ensures.none c.in_err-block.ensures.none))

pub returns-clause-some : goal.returns-clause-some
returns-clause-some c =
    subst (λ (l : List Bool). IfSome c.first_in_word-2.result (IsFirst l c.args.at)) c.self.view_is
    (IfSome_then c.first_in_word-2.result c.first_in_word-2.ensures.some
    (λ k. first_in_blocks c.self.inside.numbers c.self.inside.blocks c.self.invariant c.args.at
    c.in_ok-block.block k c.in_default.ensures.none c.in_ok-block.ensures.some))
