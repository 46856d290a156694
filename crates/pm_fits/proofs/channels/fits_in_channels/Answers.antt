use Rattle.std.proofs.Common.{◌≡◌, ◌+◌, ◌*◌, map, get_or, length, ap, subst, ◌∙◌, sym, arith}
use Rattle.std.specs.List.{range_with_len}
use Rattle.std.specs.Prelude.{pos}
use Rattle.std.proofs.lemmas.List.FromFn.{length-map-range_with_len}
use Rattle.pm_forest.specs.Forest.{node_count, leaf_count}
use Rattle.pm_fits.specs.Channels.{channel_of}
use Rattle.pm_fits.specs.Fits.{AreNumbers, fit_at}
use Rattle.pm_fits.proofs.ChannelLaws.{channel_small, channel_put, channels_done}
use Rattle.pm_fits.proofs.channels.fits_in_channels.Goals as goal

pub fits_by-requires-clause-len : goal.fits_by-requires-clause-len
fits_by-requires-clause-len c =
    let n = c.args.channels in
    let values = c.args.values.now in
    ap length (c.as_slice-in-loop-channel.ensures ∙ c.in_ok-numbers.ensures)
    ∙ length-map-range_with_len (λ v. get_or values (v * n + c.loop-channel.channel) (pos 0)) 0 _
    ∙ c.leaves.ensures.value

pub fits_by-requires-clause-small : goal.fits_by-requires-clause-small
fits_by-requires-clause-small c =
    let h = c.args.h.now in
    let column = c.as_slice-in-loop-channel.ensures ∙ c.in_ok-numbers.ensures
    ∙ ap (channel_of c.args.values.now c.args.channels c.loop-channel.channel)
    c.leaves.ensures.value in
    subst AreNumbers (sym column)
    (channel_small c.args.values.now c.args.channels c.loop-channel.channel (leaf_count h)
    c.requires.len (omega arith) c.requires.small)

pub put_channel-requires-clause-len : goal.put_channel-requires-clause-len
put_channel-requires-clause-len c =
    let h = c.args.h.now in
    let numbers = c.as_slice-in-loop-channel.result.now in
    let len : length c.as_slice-in-loop-channel-2.result.now ≡ node_count h =
    ap length (c.as_slice-in-loop-channel-2.ensures ∙ c.in_ok-fits.ensures)
    ∙ length-map-range_with_len (fit_at h numbers) 0 _ in
    c.loop-channel.invariant.len ∙ ap (λ n. n * c.args.channels) (sym len)

pub loop-channel-preserved : goal.loop-channel-preserved
loop-channel-preserved c =
    let h = c.args.h.now in
    let values = c.args.values.now in
    let n = c.args.channels in
    let j = c.loop-channel.channel in
    let numbers = c.as_slice-in-loop-channel.result.now in
    let fits = c.as_slice-in-loop-channel-2.result.now in
    let was = c.loop-channel.invariant in
    let put = c.put_channel.ensures in
    let are : fits ≡ map (fit_at h numbers) (range_with_len 0 (node_count h)) =
    c.as_slice-in-loop-channel-2.ensures ∙ c.in_ok-fits.ensures in
    let len : length fits ≡ node_count h =
    ap length are ∙ length-map-range_with_len (fit_at h numbers) 0 _ in
    let column : numbers ≡ channel_of values n j (leaf_count h) =
    c.as_slice-in-loop-channel.ensures ∙ c.in_ok-numbers.ensures
    ∙ ap (channel_of values n j) c.leaves.ensures.value in
    let rows : length fits * n ≡ node_count h * n = ap (λ m. m * n) len in
    record {
      len = put.len ∙ was.len;
      done = channel_put h values c.loop-channel.all.items c.put_channel.new.all.items fits n j
          (are ∙ ap (λ l. map (fit_at h l) (range_with_len 0 (node_count h))) column)
          was.done (λ k l e. put.here k (omega (arith, rows)) e) put.others;
    }

pub returns-clause-fits : goal.returns-clause-fits
returns-clause-fits c =
    let end : c.loop-channel.channel ≡ c.args.channels = omega arith in
    channels_done c.args.h.now c.args.values.now c.loop-channel.all.items c.args.channels
    c.loop-channel.invariant.len
    (λ k l below. c.loop-channel.invariant.done k l (omega (arith, end)))
