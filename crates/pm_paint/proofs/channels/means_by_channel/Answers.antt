use Rattle.std.proofs.Common.{◌≡◌, ◌+◌, ◌*◌, map, get_or, length, ap, ◌∙◌, sym, arith}
use Rattle.std.specs.List.{range_with_len}
use Rattle.std.proofs.lemmas.List.FromFn.{length-map-range_with_len}
use Rattle.pm_forest.specs.Forest.{node_count, leaf_count}
use Rattle.pm_paint.specs.Means.{mean_of, channel_of}
use Rattle.pm_paint.proofs.ChannelLaws.{channel_put, channels_done}
use Rattle.pm_paint.proofs.channels.means_by_channel.Goals as goal

pub means_of_numbers-requires-clause-len : goal.means_of_numbers-requires-clause-len
means_of_numbers-requires-clause-len c =
    let n = c.args.channels in
    ap length (c.as_slice.ensures ∙ c.in_ok-numbers.ensures.items)
    ∙ length-map-range_with_len
    (λ v. get_or c.args.values.now (v * n + c.loop-channel.channel) 0) 0 _
    ∙ c.leaves.ensures.value

pub put_channel-requires-clause-len : goal.put_channel-requires-clause-len
put_channel-requires-clause-len c =
    let h = c.args.h.now in
    let numbers = c.as_slice.result.now in
    let len : length c.as_slice-in-loop-channel.result.now ≡ node_count h =
    ap length (c.as_slice-in-loop-channel.ensures ∙ c.in_ok-means.ensures)
    ∙ length-map-range_with_len (mean_of h numbers) 0 _ in
    c.loop-channel.invariant.len ∙ ap (λ n. n * c.args.channels) (sym len)

pub loop-channel-preserved : goal.loop-channel-preserved
loop-channel-preserved c =
    let h = c.args.h.now in
    let values = c.args.values.now in
    let n = c.args.channels in
    let j = c.loop-channel.channel in
    let numbers = c.as_slice.result.now in
    let means = c.as_slice-in-loop-channel.result.now in
    let was = c.loop-channel.invariant in
    let put = c.put_channel.ensures in
    let are : means ≡ map (mean_of h numbers) (range_with_len 0 (node_count h)) =
    c.as_slice-in-loop-channel.ensures ∙ c.in_ok-means.ensures in
    let len : length means ≡ node_count h =
    ap length are ∙ length-map-range_with_len (mean_of h numbers) 0 _ in
    let column : numbers ≡ channel_of values n j (leaf_count h) =
    c.as_slice.ensures ∙ c.in_ok-numbers.ensures.items
    ∙ ap (channel_of values n j) c.leaves.ensures.value in
    let rows : length means * n ≡ node_count h * n = ap (λ m. m * n) len in
    record {
      len = put.len ∙ was.len;
      done = channel_put h values c.loop-channel.all.items c.put_channel.new.all.items means n j
          (are ∙ ap (λ l. map (mean_of h l) (range_with_len 0 (node_count h))) column)
          was.done (λ k l e. put.here k (omega (arith, rows)) e) put.others;
    }

pub returns-clause-means : goal.returns-clause-means
returns-clause-means c =
    let end : c.loop-channel.channel ≡ c.args.channels = omega arith in
    channels_done c.args.h.now c.args.values.now c.loop-channel.all.items c.args.channels
    c.loop-channel.invariant.len
    (λ k l below. c.loop-channel.invariant.done k l (omega (arith, end)))
