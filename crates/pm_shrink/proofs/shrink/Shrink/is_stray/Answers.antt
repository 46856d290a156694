use Rattle.std.proofs.Common.{sym, subst}
use Rattle.std.proofs.lemmas.Bool.{false≢true}
use Rattle.pm_base.specs.Sides.{Net}
use Rattle.pm_runs.specs.Pairs.{Joined}
use Rattle.pm_shrink.specs.Shrinking.{net_at}
use Rattle.pm_shrink.proofs.FanLaws.{not_own_neighbour}
use Rattle.pm_shrink.proofs.shrink.Shrink.is_stray.Goals as goal

pub returns-then-b-w : goal.returns-then-b-w
returns-then-b-w c =
    let m : Net = net_at c.args.self.now in (
      λ t. absurd (false≢true t),
      λ k. absurd (not_own_neighbour m c.args.b
          (subst (Joined m c.args.b) (sym c.if-b-w.true) k.0)),
    )
