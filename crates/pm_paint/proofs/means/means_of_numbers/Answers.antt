use Rattle.std.proofs.Common.{◌≡◌, ap, sym, ◌∙◌, length, get_or, arith}
use Rattle.std.proofs.lemmas.List.{get_or_read}
use Rattle.std.proofs.lemmas.List.FromFn.{map-range_with_len_more, length-map-range_with_len}
use Rattle.std.proofs.lemmas.List.FromFn.{get_or-map-range_with_len}
use Rattle.pm_forest.specs.Forest.{node_count}
use Rattle.pm_paint.specs.Means.{sum_under, count_under, rounded, mean_of}
use Rattle.pm_paint.proofs.MeanLaws.{sum_small}
use Rattle.pm_paint.proofs.means.means_of_numbers.Goals as goal

pub get-requires : goal.get-requires
get-requires c =
    let len : length c.in_ok-sums.sums.items ≡ node_count c.args.h.now =
    ap length c.in_ok-sums.ensures
    ∙ length-map-range_with_len (sum_under c.args.h.now c.args.values.now) 0 _ in
    omega (arith, len)

pub node_mean-requires-clause-most : goal.node_mean-requires-clause-most
node_mean-requires-clause-most c =
    let h = c.args.h.now in
    let values = c.args.values.now in
    let sums = c.in_ok-sums.sums.items in
    let v = c.loop-node.node in
    let len : length sums ≡ node_count h =
    ap length c.in_ok-sums.ensures ∙ length-map-range_with_len (sum_under h values) 0 _ in
    let read = get_or_read sums _ _ (omega (arith, len)) c.get.ensures 0 in
    let is : get_or sums v 0 ≡ sum_under h values v =
    ap (λ s. get_or s v 0) c.in_ok-sums.ensures
    ∙ get_or-map-range_with_len (sum_under h values) 0 (node_count h) v v 0 (omega arith)
    (omega arith) in
    let small = sum_small h c.invariant.ensures values v 65535 c.requires.len c.requires.small in
    omega (arith, read, is, small)

pub loop-node-preserved : goal.loop-node-preserved
unfolding mean_of
loop-node-preserved c =
    let h = c.args.h.now in
    let values = c.args.values.now in
    let sums = c.in_ok-sums.sums.items in
    let v = c.loop-node.node in
    let len : length sums ≡ node_count h =
    ap length c.in_ok-sums.ensures ∙ length-map-range_with_len (sum_under h values) 0 _ in
    let read = get_or_read sums _ _ (omega (arith, len)) c.get.ensures 0 in
    let is : get_or sums v 0 ≡ sum_under h values v =
    ap (λ s. get_or s v 0) c.in_ok-sums.ensures
    ∙ get_or-map-range_with_len (sum_under h values) 0 (node_count h) v v 0 (omega arith)
    (omega arith) in
    let mean : c.node_mean.result ≡ mean_of h values v =
    c.node_mean.ensures ∙ ap (λ s. rounded s (count_under h v)) (read ∙ is) in
    record {
      means = rw (c.push_within_room.ensures.items, c.loop-node.invariant.means, mean)
          (sym (map-range_with_len_more (mean_of h values) 0 v v (omega arith)));
      spare = omega arith;
    }
