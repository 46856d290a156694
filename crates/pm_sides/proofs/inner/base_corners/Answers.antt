use Rattle.std.proofs.Common.{◌+◌, sym, subst, arith}
use Rattle.pm_sides.specs.Tables.{AreInnerCorners}
use Rattle.pm_sides.proofs.InnerLaws.{inners_base}
use Rattle.pm_sides.proofs.inner.base_corners.Goals as goal

pub loop-base-preserved : goal.loop-base-preserved
loop-base-preserved c =
    let h = c.args.h.now in
    let n = c.loop-base._base in
    record {
      inners = subst (AreInnerCorners h (n + 1)) (sym c.in_ok-push.ensures.items)
          (inners_base h n c.loop-base.corners.items c.loop-base.invariant.inners
          (omega (arith, c.loop-base-test.true, c.bases-base-end.ensures.value)));
    }
