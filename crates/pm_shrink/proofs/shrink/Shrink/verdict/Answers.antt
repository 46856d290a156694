use Rattle.std.proofs.Common.{◌∙◌, sym}
use Rattle.std.proofs.lemmas.Bool.{false≢true}
use Rattle.pm_base.specs.Sides.{Net}
use Rattle.pm_runs.proofs.Legal.{border_once}
use Rattle.pm_shrink.specs.Shrinking.{net_at}
use Rattle.pm_shrink.proofs.shrink.Shrink.verdict.Goals as goal

pub returns-else-are_twice_on_border : goal.returns-else-are_twice_on_border
returns-else-are_twice_on_border c =
    let m : Net = net_at c.args.self.now in
    let parts = c.in_default.ensures in
    record {
      joined = c.requires.joined;
      common = parts.0.0;
      border = border_once m c.invariant.ensures.kept.proper.once c.args.a c.args.b
          (λ x y h k. false≢true (sym c.if-are_twice_on_border.false
          ∙ c.are_twice_on_border.ensures.1 ((x, y), (h, k))));
      triangles = parts.0.1;
      single = parts.1.0;
      upright = parts.1.1;
    }
