use Rattle.std.proofs.Common.{not, pos, sym, rules}
use Rattle.pm_fits.specs.Faults.{is_number}
use Rattle.paint.proofs.CoatLaws.{position_found, position_none}
use Rattle.paint.proofs.judging.first_wrong.Goals as goal

pub returns-then-not-is_number-clause-value : goal.returns-then-not-is_number-clause-value
returns-then-not-is_number-clause-value c =
    sym (position_found (λ n. not (is_number n)) c.args.numbers.now c.loop-i.i (pos 0)
    c.loop-i.invariant (search rules) (search rules))

pub returns-clause-value : goal.returns-clause-value
returns-clause-value c =
    sym (position_none (λ n. not (is_number n)) c.args.numbers.now c.loop-i.i (pos 0) (search rules)
    c.loop-i.invariant)
