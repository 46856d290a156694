use Rattle.pm_shrink.specs.Shrinking.{net_at}
use Rattle.pm_shrink.proofs.FanLaws.{face-third, third-face}
use Rattle.pm_shrink.proofs.shrink.Shrink.is_third.Goals as goal

pub returns : goal.returns
returns c =
    let m = net_at c.args.self.now in (
      λ t. face-third m c.args.a c.args.b c.args.w (c.has_face.ensures.0 t),
      λ k. c.has_face.ensures.1 (third-face m c.args.a c.args.b c.args.w k),
    )
