use Rattle.std.proofs.Common.{not, ◌==◌, sym, rules}
use Rattle.paint.proofs.CoatLaws.{position_found, position_none}
use Rattle.paint.proofs.judging.first_other.Goals as goal

pub returns-then-bytes-i-ne0-clause-value : goal.returns-then-bytes-i-ne0-clause-value
returns-then-bytes-i-ne0-clause-value c =
    sym (position_found (λ b. not (b == 0)) c.args.bytes.now c.loop-i.i 0 c.loop-i.invariant
    (search rules) (search rules))

pub returns-clause-value : goal.returns-clause-value
returns-clause-value c =
    sym (position_none (λ b. not (b == 0)) c.args.bytes.now c.loop-i.i 0 (search rules)
    c.loop-i.invariant)
