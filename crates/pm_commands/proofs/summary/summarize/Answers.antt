use Rattle.std.proofs.Common.{refl}
use Rattle.pm_commands.proofs.DemoLaws.{demo_written, demo_cut}
use Rattle.pm_commands.proofs.summary.summarize.Goals as goal

pub returns-in-Ok-clause-ends : goal.returns-in-Ok-clause-ends
returns-in-Ok-clause-ends g c = λ left now. demo_written c.args.n left _ _ c.in-Ok.ensures.ends

pub returns-in-Err-Write-clause-ends : goal.returns-in-Err-Write-clause-ends
returns-in-Err-Write-clause-ends g c =
    λ left now. demo_cut c.args.n left _ _
    (rw c.in-Err-Write.field-0-is at c.in-Err-Write.ensures.ends)

pub returns-in-Err-Write-clause-counts : goal.returns-in-Err-Write-clause-counts
returns-in-Err-Write-clause-counts g c =
    λ count. (refl, rw c.in-Err-Write.field-0-is at c.in-Err-Write.ensures.counts)
