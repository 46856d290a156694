use Rattle.std.proofs.Common.{sym, ◌∙◌, rules, arith}
use Rattle.float_read.proofs.UnitLaws.{up_is, down_is}
use Rattle.float_read.proofs.units.units.Goals as goal

pub returns-then-power-scale : goal.returns-then-power-scale
returns-then-power-scale c =
    rw (up_is c.from-n.result c.args.m c.args.power c.args.scale c.from-n.ensures
    c.if-power-scale.true) (search rules)

pub returns-then-nearest-gt-GREATEST-clause-none :
    goal.returns-then-nearest-gt-GREATEST-clause-none
returns-then-nearest-gt-GREATEST-clause-none c =
    let is = down_is c.from-n.result c.args.m c.args.power c.args.scale c.from-n.ensures
    c.if-power-scale.false in
    omega (arith, is, c.shifted_down-nearest.ensures.value)

pub returns-else-nearest-gt-GREATEST-clause-some :
    goal.returns-else-nearest-gt-GREATEST-clause-some
returns-else-nearest-gt-GREATEST-clause-some c =
    c.shifted_down-nearest.ensures.value
    ∙ sym (down_is c.from-n.result c.args.m c.args.power c.args.scale c.from-n.ensures
    c.if-power-scale.false)
