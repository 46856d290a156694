use Rattle.std.proofs.Common.{sym, arith}
use Rattle.pm_base.specs.Sides.{net_of}
use Rattle.pm_base.proofs.Counts.{count-zero, count_le}
use Rattle.pm_fans.specs.Cuts.{is_cut}
use Rattle.pm_fans.proofs.CutLaws.{bit_le, cut_more}
use Rattle.pm_fans.proofs.cutting.cut_sides.Goals as goal

pub loop-number-init : goal.loop-number-init
loop-number-init c = sym (count-zero (is_cut (net_of c.args.faces.now)))

pub overflow_add-cut : goal.overflow_add-cut
overflow_add-cut c =
    let few = count_le (is_cut (net_of c.args.faces.now)) c.loop-number.number in
    let bit = bit_le c.is_cut.result in
    omega (
      arith,
      few,
      bit,
      c.from-cut.ensures,
      c.loop-number.invariant,
      c.loop-number-test.true,
      c.requires.short,
    )

pub loop-number-preserved : goal.loop-number-preserved
loop-number-preserved c =
    cut_more (net_of c.args.faces.now) c.loop-number.number c.loop-number.cut c.from-cut.result
    c.is_cut.result c.loop-number.invariant c.from-cut.ensures c.is_cut.ensures
