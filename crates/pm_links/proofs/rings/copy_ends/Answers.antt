use Rattle.std.proofs.Common.{◌-◌, length-set, refl, ◌∙◌, arith}
use Rattle.pm_links.proofs.Copying.{front_step, back_step, met_front, met_back, all_copied, all_fit}
use Rattle.pm_links.proofs.Copying.{all_first}
use Rattle.pm_links.proofs.rings.copy_ends.Goals as goal

pub returns-then-item-last : goal.returns-then-item-last
returns-then-item-last g c =
    let i = c.loop-front.invariant in
    let met = met_front i.copies c.if-item-last.true in
    record {
      len = i.room_len;
      front = i.copies.low;
      back = i.copies.high;
      first = all_first _ _ (all_copied i.copies met);
      all = λ few. all_copied i.copies met;
      more = λ many. absurd (omega (arith, all_fit i.copies met, i.room_len, many));
    }

pub returns-then-item-first : goal.returns-then-item-first
returns-then-item-first g c =
    let i = c.loop-front.invariant in
    let one = front_step i.copies _ c.loop-front-test.true refl c.if-item-last.false in
    let met = met_back one c.if-item-first.true in
    let room_len = length-set c.loop-front.room c.loop-front.front _ ∙ i.room_len in
    record {
      len = room_len;
      front = one.low;
      back = one.high;
      first = all_first _ _ (all_copied one met);
      all = λ few. all_copied one met;
      more = λ many. absurd (omega (arith, all_fit one met, room_len, many));
    }

pub loop-front-preserved-then-front-back : goal.loop-front-preserved-then-front-back
loop-front-preserved-then-front-back g c =
    let i = c.loop-front.invariant in
    let one = front_step i.copies _ c.loop-front-test.true refl c.if-item-last.false in
    let room_len =
    length-set _ (c.loop-front.back - 1) _
    ∙ length-set c.loop-front.room c.loop-front.front _ in
    record {
      copies = back_step one _ c.if-front-back.true refl c.if-item-first.false;
      even = omega (arith, room_len, i.even, c.if-front-back.true);
      room_len = room_len ∙ i.room_len;
    }

pub loop-front-preserved : goal.loop-front-preserved
loop-front-preserved g c =
    let i = c.loop-front.invariant in
    let room_len = length-set c.loop-front.room c.loop-front.front _ in
    record {
      copies = front_step i.copies _ c.loop-front-test.true refl c.if-item-last.false;
      even = omega (arith, room_len, i.even);
      room_len = room_len ∙ i.room_len;
    }

pub returns-else-next-first-clause-first : goal.returns-else-next-first-clause-first
returns-else-next-first-clause-first g c =
    let i = c.loop-front.invariant in
    all_first _ _ (all_copied i.copies (met_front i.copies c.if-next-first.false))
