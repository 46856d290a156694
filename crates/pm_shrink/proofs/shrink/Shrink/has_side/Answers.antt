use Rattle.std.proofs.Common.{◌∙◌, sym, ap}
use Rattle.std.specs.Prelude.{is_some}
use Rattle.pm_base.specs.Sides.{Net}
use Rattle.pm_base.proofs.SideNumbers.{some_numbered}
use Rattle.pm_shrink.specs.Shrinking.{net_at}
use Rattle.pm_runs.proofs.Found.{runs-has, found-runs}
use Rattle.pm_shrink.specs.Writes.{side_number}
use Rattle.pm_base.proofs.Search.{some_from}
use Rattle.pm_shrink.proofs.shrink.Shrink.has_side.Goals as goal

pub returns : goal.returns
returns c =
    let m : Net = net_at c.args.self.now in (
      λ t. (let (e, is) = some_from c.side_to.result (sym c.is_some.ensures ∙ t) in (
        e.0,
        found-runs m c.args.p c.args.q e.0 (sym c.side_to.ensures.value ∙ ap side_number is),
      )),
      λ (e, r). (let (k, is) = runs-has m c.args.p c.args.q e r in
          c.is_some.ensures ∙ some_numbered c.side_to.result
          ∙ ap is_some (c.side_to.ensures.value ∙ is)),
    )
