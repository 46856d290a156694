use Rattle.std.proofs.Common.{suc, ◌≡◌, ◌-◌, ◌∙◌, ap, arith}
use Rattle.pm_number.specs.Stages.{steps, entry_at}
use Rattle.pm_number.specs.Tables.{run_in}
use Rattle.pm_number.proofs.run.Run.step.Goals as goal

pub returns-clause-value : goal.returns-clause-value
returns-clause-value c =
    let r = run_in c.args.self.now in
    let same : steps r - 1 - c.args.k ≡ steps r - suc c.args.k = omega arith in
    c.entry.ensures.value ∙ ap (entry_at r) same
