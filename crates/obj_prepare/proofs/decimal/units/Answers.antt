use Rattle.std.proofs.Common.{sym, ◌∙◌, ap, arith}
use Rattle.obj_read.specs.Coordinates.{is_negative, whole_part, decimals}
use Rattle.obj_prepare.proofs.UnitLaws.{whole_digits, decimals_digits, units_forward, units_back}
use Rattle.obj_prepare.proofs.UnitLaws.{units_none}
use Rattle.obj_prepare.proofs.decimal.units.Goals as goal

pub rounded-requires-clause-whole : goal.rounded-requires-clause-whole
rounded-requires-clause-whole c =
    rw (c.whole_part-front.ensures, c.mantissa.ensures.value)
    (whole_digits c.args.number.now c.requires.number)

pub rounded-requires-clause-decimals : goal.rounded-requires-clause-decimals
rounded-requires-clause-decimals c =
    rw (c.decimals-back.ensures, c.mantissa-2.ensures.value)
    (decimals_digits c.args.number.now c.requires.number)

pub rounded-requires-then-power-count-clause-whole :
    goal.rounded-requires-then-power-count-clause-whole
rounded-requires-then-power-count-clause-whole c =
    rw (c.whole_part-front.ensures, c.mantissa.ensures.value)
    (whole_digits c.args.number.now c.requires.number)

pub rounded-requires-then-power-count-clause-decimals :
    goal.rounded-requires-then-power-count-clause-decimals
rounded-requires-then-power-count-clause-decimals c =
    rw (c.decimals-back.ensures, c.mantissa-2.ensures.value)
    (decimals_digits c.args.number.now c.requires.number)

pub returns-then-not-is_negative : goal.returns-then-not-is_negative
returns-then-not-is_negative c =
    units_forward c.args.number.now c.whole_part-front.result.now c.decimals-back.result.now
    c.args.power c.rounded.result
    (c.whole_part-front.ensures ∙ ap whole_part c.mantissa.ensures.value) (c.decimals-back.ensures
    ∙ ap decimals c.mantissa-2.ensures.value)
    (ap is_negative (sym c.exponent_text.ensures) ∙ sym c.is_negative.ensures
    ∙ c.if-not-is_negative.true)
    c.requires.power c.rounded.ensures.value

pub returns-then-power-count : goal.returns-then-power-count
returns-then-power-count c =
    units_back c.args.number.now c.whole_part-front.result.now c.decimals-back.result.now
    c.args.power c.rounded-then-power-count.result
    (c.whole_part-front.ensures ∙ ap whole_part c.mantissa.ensures.value) (c.decimals-back.ensures
    ∙ ap decimals c.mantissa-2.ensures.value)
    (ap is_negative (sym c.exponent_text.ensures) ∙ sym c.is_negative.ensures
    ∙ c.if-not-is_negative.false)
    c.requires.power c.if-power-count.true c.rounded-then-power-count.ensures.value

pub returns-else-power-count : goal.returns-else-power-count
returns-else-power-count c =
    units_none c.args.number.now c.whole_part-front.result.now c.decimals-back.result.now
    c.args.power
    (c.whole_part-front.ensures ∙ ap whole_part c.mantissa.ensures.value) (c.decimals-back.ensures
    ∙ ap decimals c.mantissa-2.ensures.value)
    (ap is_negative (sym c.exponent_text.ensures) ∙ sym c.is_negative.ensures
    ∙ c.if-not-is_negative.false)
    c.requires.power c.requires.number (omega (arith, c.if-power-count.false))
