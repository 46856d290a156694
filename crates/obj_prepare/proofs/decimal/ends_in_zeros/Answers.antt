use Rattle.std.proofs.Common.{◌+◌, length, sym, ◌∙◌, ap, arith}
use Rattle.obj_read.specs.Coordinates.{is_negative, whole_part, decimals}
use Rattle.obj_prepare.proofs.ExactLaws.{whole_back, whole_forward}
use Rattle.obj_prepare.proofs.decimal.ends_in_zeros.Goals as goal

pub returns-then-is_negative : goal.returns-then-is_negative
returns-then-is_negative c =
    c.are_zeros_after.ensures
    ∙ whole_back c.args.number.now c.whole_part-front.result.now c.decimals-back.result.now
    c.saturating_sub.result c.requires.number
    (c.whole_part-front.ensures ∙ ap whole_part c.mantissa.ensures.value)
    (c.decimals-back.ensures ∙ ap decimals c.mantissa-2.ensures.value)
    (ap is_negative (sym c.exponent_text.ensures) ∙ sym c.is_negative.ensures
    ∙ c.if-is_negative.true)
    (omega (arith, c.saturating_sub.ensures, c.requires.power))

pub returns-else-is_negative : goal.returns-else-is_negative
returns-else-is_negative c =
    c.are_zeros_after-else-is_negative.ensures
    ∙ whole_forward c.args.number.now c.whole_part-front.result.now c.decimals-back.result.now
    (length c.whole_part-front.result.now + 18 + c.args.power) c.requires.number
    (c.whole_part-front.ensures ∙ ap whole_part c.mantissa.ensures.value)
    (c.decimals-back.ensures ∙ ap decimals c.mantissa-2.ensures.value)
    (ap is_negative (sym c.exponent_text.ensures) ∙ sym c.is_negative.ensures
    ∙ c.if-is_negative.false)
    (omega (arith, c.requires.power))
