use Rattle.std.proofs.Common.{◌≡◌, suc, ◌+◌, ◌≤◌, refl, sym, ap, arith}
use Rattle.std.proofs.lemmas.List.FromFn.{map-range_with_len_more}
use Rattle.pm_forest.specs.Fronts.{every}
use Rattle.pm_paint.specs.Means.{value_of, total_before}
use Rattle.pm_paint.proofs.SumLaws.{sum-zero, sum-every}
use Rattle.pm_paint.proofs.sums.totals_of.Goals as goal

pub loop-leaf-init : goal.loop-leaf-init
loop-leaf-init c =
    let h = c.args.h.now in
    let values = c.args.values.now in
    let zero = sum-zero every (value_of h values) in
    record {
      total = sym zero;
      totals = rw (c.push_within_room.ensures.items, c.in_ok-totals.ensures.items, zero) refl;
      spare = omega (
        arith,
        c.in_ok-totals.ensures.room,
        c.push_within_room.ensures.spare,
        c.leaves.ensures.value,
      );
      most = omega arith;
    }

pub loop-leaf-preserved : goal.loop-leaf-preserved
loop-leaf-preserved c =
    let h = c.args.h.now in
    let values = c.args.values.now in
    let x = c.loop-leaf.leaf in
    let was = c.loop-leaf.invariant in
    let value = c.leaf_value-total.ensures.value in
    let most : c.leaf_value-total.result ≤ 8796093022208 = c.leaf_value-total.ensures.small in
    let next : c.loop-leaf.total + c.leaf_value-total.result ≡ total_before h values (x + 1) =
    (let more = sum-every (value_of h values) x in
    let step : x + 1 ≡ suc x = omega arith in
    let more_at : total_before h values (x + 1) ≡ total_before h values (suc x) =
    ap (total_before h values) step in
    omega (arith, was.total, value, more, more_at)) in
    record {
      total = next;
      totals =
          rw (c.push_within_room-in-loop-leaf.ensures.items, was.totals, next)
          (sym (map-range_with_len_more (total_before h values) 0 (x + 1) (x + 1) (omega arith)));
      spare = omega arith;
      most = omega (arith, was.most, most);
    }
