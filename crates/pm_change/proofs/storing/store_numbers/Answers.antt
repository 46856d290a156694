use Rattle.std.proofs.Common.{◌≡◌, List, ℕ, ◌+◌, length, take, drop, ap, sym, ◌∙◌, subst, arith}
use Rattle.pm_sets.proofs.FlagLaws.{in_below}
use Rattle.pm_arrays.proofs.StoreLaws.{further_behind}
use Rattle.pm_change.proofs.StoreLaws.{one_more, has_room, numbers_more, all_numbers}
use Rattle.pm_change.proofs.storing.store_numbers.Goals as goal

pub store-requires : goal.store-requires
store-requires c =
    let i = c.loop-number.invariant in
    let room = has_room c.args.numbers.now c.loop-number.from c.in-Some.number
    c.in-Some.ensures.some in
    omega (arith, i.counted, i.len, c.requires.room)

pub loop-number-preserved : goal.loop-number-preserved
loop-number-preserved c =
    let flags = c.args.numbers.now in
    let i = c.loop-number.invariant in
    let first = c.in-Some.ensures.some in
    let low = in_below flags c.in-Some.number first.there in
    record {
      within = omega arith;
      counted = ap (λ n. n + 1) i.counted
          ∙ sym (one_more flags c.loop-number.from c.in-Some.number first);
      stored = numbers_more flags c.loop-number.from c.in-Some.number first c.loop-number.count
          c.loop-number.to c.store.new.to i.stored c.store.ensures.stored;
      behind = c.store.ensures.behind
          ∙ further_behind c.loop-number.count (c.loop-number.count + 1) c.loop-number.to
          c.args.to.now (omega arith) i.behind;
      len = c.store.ensures.len ∙ i.len;
    }

pub returns-clause-stored : goal.returns-clause-stored
returns-clause-stored c =
    let i = c.loop-number.invariant in
    let all = all_numbers c.args.numbers.now c.loop-number.from i.within
    c.in_default.ensures.none in
    ap (λ n. take n c.loop-number.to) (ap (λ (l : List ℕ). length l) all ∙ sym i.counted)
    ∙ i.stored ∙ sym all

pub returns-clause-behind : goal.returns-clause-behind
returns-clause-behind c =
    let i = c.loop-number.invariant in
    let all = all_numbers c.args.numbers.now c.loop-number.from i.within
    c.in_default.ensures.none in
    subst (λ n. drop n c.loop-number.to ≡ drop n c.args.to.now)
    (i.counted ∙ sym (ap (λ (l : List ℕ). length l) all)) i.behind
