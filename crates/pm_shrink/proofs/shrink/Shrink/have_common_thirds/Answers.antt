use Rattle.std.proofs.Common.{◌∙◌, sym}
use Rattle.pm_base.specs.Sides.{Net, Stands}
use Rattle.pm_runs.specs.Pairs.{HaveCommonThirds}
use Rattle.pm_shrink.specs.Shrinking.{net_at}
use Rattle.pm_shrink.specs.Obstacles.{Strays}
use Rattle.pm_shrink.proofs.PlaceTables.{none_is}
use Rattle.pm_shrink.proofs.ObstacleLaws.{none_iff, strays_uncommon}
use Rattle.pm_shrink.proofs.shrink.Shrink.have_common_thirds.Goals as goal

pub returns : goal.returns
returns c =
    let m : Net = net_at c.args.self.now in
    let seen = none_iff c.stray.result (HaveCommonThirds m c.args.a c.args.b) (λ e. Stands m e.0
    × Strays m c.args.a c.args.b (m.from e.0)) c.stray.ensures
    (λ e x. strays_uncommon m c.args.a c.args.b (m.from e.0) x.1) in
    let test = none_is c.stray.result c.is_none.result c.is_none.ensures in
    (λ t. seen.0 (sym test ∙ t), λ k. test ∙ seen.1 k)
