use Rattle.std.proofs.Common.{◌∙◌, sym}
use Rattle.obj_prepare.proofs.DifferentLaws.{new_counted, old_counted}
use Rattle.obj_prepare.proofs.different.counted.Goals as goal

pub returns-then-branch-clause-counted : goal.returns-then-branch-clause-counted
returns-then-branch-clause-counted c = λ p whole left is counted.
    new_counted whole left p c.args.seen.now c.insert.new.self c.args.key c.args.n is counted
    (sym c.if-branch.true ∙ c.in_ok-insert.ensures.added) c.in_ok-insert.ensures.updates

pub returns-else-branch-clause-counted : goal.returns-else-branch-clause-counted
returns-else-branch-clause-counted c = λ p whole left is counted.
    old_counted whole left p c.args.seen.now c.insert.new.self c.args.key c.args.n is counted
    (sym c.if-branch.false ∙ c.in_ok-insert.ensures.added) c.in_ok-insert.ensures.updates
