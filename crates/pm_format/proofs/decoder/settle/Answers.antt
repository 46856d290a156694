use Rattle.std.proofs.Common.{sym, ◌∙◌}
use Rattle.pm_format.proofs.MemoryLaws.{past_no_memory, same_refusal}
use Rattle.pm_format.proofs.decoder.settle.Goals as goal

pub returns-in-Err-clause-memory : goal.returns-in-Err-clause-memory
returns-in-Err-clause-memory c =
    λ is. past_no_memory c.args.shaper.h 0 c.in-Err.fault c.in-Err.ensures.fault
    (sym c.named.ensures ∙ same_refusal _ _ is)
