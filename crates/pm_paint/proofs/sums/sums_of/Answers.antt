use Rattle.std.proofs.Common.{◌≡◌, ◌-◌, sym, arith}
use Rattle.std.proofs.lemmas.List.{get_or_read}
use Rattle.std.proofs.lemmas.List.FromFn.{map-range_with_len_more}
use Rattle.pm_paint.specs.Means.{sum_under}
use Rattle.pm_paint.proofs.MeanLaws.{sum_at}
use Rattle.pm_paint.proofs.sums.sums_of.Goals as goal

pub get-requires : goal.get-requires
get-requires c =
    let at = sum_at c.args.h.now c.invariant.ensures c.args.values.now c.in_ok-totals.totals.items
    c.in_ok-totals.ensures c.loop-node.node c.interval-from.result.0 c.interval-from.result.1
    (omega arith) c.interval-from.ensures in
    at.most

pub get-requires-in-loop-node : goal.get-requires-in-loop-node
get-requires-in-loop-node c =
    let at = sum_at c.args.h.now c.invariant.ensures c.args.values.now c.in_ok-totals.totals.items
    c.in_ok-totals.ensures c.loop-node.node c.interval-from.result.0 c.interval-from.result.1
    (omega arith) c.interval-from.ensures in
    omega (arith, at.some, at.most)

pub overflow_sub-get : goal.overflow_sub-get
overflow_sub-get c =
    let totals = c.in_ok-totals.totals.items in
    let at = sum_at c.args.h.now c.invariant.ensures c.args.values.now totals
    c.in_ok-totals.ensures c.loop-node.node c.interval-from.result.0 c.interval-from.result.1
    (omega arith) c.interval-from.ensures in
    let until = get_or_read totals _ _ at.most c.get.ensures 0 in
    let from =
    get_or_read totals _ _ (omega (arith, at.some, at.most)) c.get-in-loop-node.ensures 0 in
    omega (arith, at.sum, until, from)

pub loop-node-preserved : goal.loop-node-preserved
loop-node-preserved c =
    let h = c.args.h.now in
    let values = c.args.values.now in
    let totals = c.in_ok-totals.totals.items in
    let v = c.loop-node.node in
    let at = sum_at h c.invariant.ensures values totals c.in_ok-totals.ensures v
    c.interval-from.result.0 c.interval-from.result.1 (omega arith) c.interval-from.ensures in
    let until = get_or_read totals _ _ at.most c.get.ensures 0 in
    let from =
    get_or_read totals _ _ (omega (arith, at.some, at.most)) c.get-in-loop-node.ensures 0 in
    let sum : c.get.result.now - c.get-in-loop-node.result.now ≡ sum_under h values v =
    omega (arith, at.sum, until, from) in
    record {
      sums = rw (c.push_within_room.ensures.items, c.loop-node.invariant.sums, sum)
          (sym (map-range_with_len_more (sum_under h values) 0 v v (omega arith)));
      spare = omega arith;
    }
