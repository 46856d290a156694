use Rattle.std.proofs.Common.{refl}
use Rattle.pm_keeping.specs.Keeping.{kept_in}
use Rattle.pm_policies.specs.Policies.{Policy}
use Rattle.pm_simplify.proofs.PlainRuns.{if_ok_more}
use Rattle.pm_fine_costs.specs.FinePolicy.{fine_keeping}
use Rattle.pm_fine_costs.proofs.run.simplify_fine.Goals as goal

pub simplify_by-requires : goal.simplify_by-requires
simplify_by-requires c =
    let p : Policy = fine_keeping (kept_in c.args.kept.now) in
    record { known = (p, c.in_ok-costs.ensures (kept_in c.args.kept.now), refl) }

pub returns : goal.returns
returns c =
    let p : Policy = fine_keeping (kept_in c.args.kept.now) in
    let goes = c.in_ok-costs.ensures (kept_in c.args.kept.now) in
    record {
      run = if_ok_more c.simplify_by.result c.simplify_by.ensures.run (λ log run. run p goes refl);
    }
