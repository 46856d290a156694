use Rattle.pm_coder.proofs.UniformLaws.{if_ok, if_err}
use Rattle.pm_pack.proofs.JudgeLaws.{fail-no_stream, said-packed}
use Rattle.pm_pack.proofs.writing.pack.Goals as goal

pub returns-in-Err-clause-none : goal.returns-in-Err-clause-none
returns-in-Err-clause-none c =
    fail-no_stream c.args.text.now c.in-Err.fail c.in-Err.ensures.fail

pub returns-in-Ok-clause-ok : goal.returns-in-Ok-clause-ok
returns-in-Ok-clause-ok c =
    if_ok c.packed_or.result
    (λ packed said. said-packed packed.items c.args.text.now said c.in-Ok.ensures.ok)
    c.packed_or.ensures.said

pub returns-in-Ok-clause-fail : goal.returns-in-Ok-clause-fail
returns-in-Ok-clause-fail c =
    if_err c.packed_or.result (λ e memory. rw memory tt) c.packed_or.ensures.memory

pub returns-in-Ok-clause-none : goal.returns-in-Ok-clause-none
returns-in-Ok-clause-none c =
    if_err c.packed_or.result (λ e memory other. absurd (other memory))
    c.packed_or.ensures.memory
