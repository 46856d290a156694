use Rattle.std.proofs.Common.{◌∙◌, sym, subst}
use Rattle.pm_base.specs.Sides.{Net, IsBorder}
use Rattle.pm_shrink.specs.Shrinking.{net_at}
use Rattle.pm_shrink.proofs.BorderLaws.{side_barred}
use Rattle.pm_shrink.proofs.shrink.Shrink.is_barred.Goals as goal

pub returns-then-has_rim : goal.returns-then-has_rim
returns-then-has_rim c = λ t.
    let m : Net = net_at c.args.self.now in
    side_barred m c.args.side.0 c.requires (sym c.is_border_side.ensures
    ∙ c.if-is_border_side.false)
    (subst (IsBorder m) c.from.ensures.value (c.has_rim.ensures c.if-has_rim.true))
    (subst (IsBorder m) c.to.ensures.value (c.has_rim-then-has_rim.ensures t))
