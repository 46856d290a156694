use Rattle.std.proofs.Common.{◌≡◌, length, take, refl, ◌∙◌, arith, length-take-le}
use Rattle.obj_prepare.proofs.UnitLaws.{rounded_up, rounded_down}
use Rattle.obj_prepare.proofs.digits.rounded.Goals as goal

pub returns-then-digit_at-ge53 : goal.returns-then-digit_at-ge53
returns-then-digit_at-ge53 c =
    let xs = c.args.whole.now in
    let ys = c.args.decimals.now in
    let i = c.min.result in
    let j = c.min-2.result in
    let front : length (take c.min.result c.args.whole.now) ≡ c.min.result =
    length-take-le i xs (omega (arith, c.min.ensures)) in
    let back : length (take c.min-2.result c.args.decimals.now) ≡ c.min-2.result =
    length-take-le j ys (omega (arith, c.min-2.ensures)) in
    record {
      value = λ up down so. rounded_up xs ys c.args.kept i j c.digits_after.result
          c.digits_after-n.result c.with_zeros-n.result up down
          c.requires.whole c.requires.decimals (omega (arith, c.min.ensures))
          (omega (arith, c.min-2.ensures, front))
          c.digits_after.ensures.value c.digits_after-n.ensures.value (c.with_zeros-n.ensures.value
          ∙ rw (front, back) refl) (omega (arith, c.digit_at.ensures, c.if-digit_at-ge53.true))
          so;
    }

pub returns-else-digit_at-ge53 : goal.returns-else-digit_at-ge53
returns-else-digit_at-ge53 c =
    let xs = c.args.whole.now in
    let ys = c.args.decimals.now in
    let i = c.min.result in
    let j = c.min-2.result in
    let front : length (take c.min.result c.args.whole.now) ≡ c.min.result =
    length-take-le i xs (omega (arith, c.min.ensures)) in
    let back : length (take c.min-2.result c.args.decimals.now) ≡ c.min-2.result =
    length-take-le j ys (omega (arith, c.min-2.ensures)) in
    record {
      value = λ up down so. rounded_down xs ys c.args.kept i j c.digits_after.result
          c.digits_after-n.result c.with_zeros-n.result up down
          c.requires.whole c.requires.decimals (omega (arith, c.min.ensures))
          (omega (arith, c.min-2.ensures, front))
          c.digits_after.ensures.value c.digits_after-n.ensures.value (c.with_zeros-n.ensures.value
          ∙ rw (front, back) refl) (omega (arith, c.digit_at.ensures, c.if-digit_at-ge53.false))
          so;
    }
