use Rattle.std.proofs.Common.{◌∙◌, ap, sym, not}
use Rattle.std.specs.Option.{is_some}
use Rattle.pm_base.proofs.SideNumbers.{some_numbered}
use Rattle.pm_base.specs.Sides.{beside_side}
use Rattle.pm_base.proofs.Search.{not_some}
use Rattle.pm_fans.proofs.ChainLaws.{first_bare}
use Rattle.pm_fans.proofs.chains.open_heads.Goals as goal

pub walk_on-requires-clause-new : goal.walk_on-requires-clause-new
walk_on-requires-clause-new c =
    let bare_end =
    not_some (beside_side c.args.glued.now c.loop-number.number) (ap is_some (sym c.get.ensures)
    ∙ sym (some_numbered c.get.result) ∙ c.is_none.ensures ∙ ap not c.if-is_none.true) in
    first_bare c.args.glued.now c.requires c.loop-number.heads c.loop-number.number
    c.loop-number.invariant bare_end
