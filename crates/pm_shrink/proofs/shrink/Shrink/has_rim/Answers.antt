use Rattle.std.proofs.Common.{◌∙◌, sym}
use Rattle.pm_shrink.specs.Shrinking.{net_at}
use Rattle.pm_shrink.proofs.BorderLaws.{rim_border}
use Rattle.pm_shrink.proofs.shrink.Shrink.has_rim.Goals as goal

pub returns-then-is_corner_of : goal.returns-then-is_corner_of
returns-then-is_corner_of c = λ t.
    rim_border (net_at c.args.self.now) c.in-Some.side.0 c.args.v
    (c.is_corner_of.ensures c.if-is_corner_of.true) (sym c.is_border_side.ensures ∙ t)
