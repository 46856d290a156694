use Rattle.std.proofs.Common.{◌≡◌, get_or, length, to_z, of_z, w32, ◌∙◌, rules, arith}
use Rattle.std.proofs.lemmas.Nat.{mul-add-lt}
use Rattle.std.proofs.Math.ListN.{length-set}
use Rattle.std.specs.Prelude.{pos}
use Rattle.pm_fits.proofs.ChannelLaws.{put_here, put_others}
use Rattle.pm_fits.proofs.channels.put_channel.Goals as goal

pub loop-node-preserved : goal.loop-node-preserved
loop-node-preserved c =
    let all = c.loop-node.all.items in
    let fits = c.args.fits.now in
    let n = c.args.channels in
    let j = c.args.channel in
    let i = c.loop-node.node in
    let was = c.loop-node.invariant in
    let inside = mul-add-lt i n j (length fits) (omega arith) c.requires.channel in
    let read : to_z w32 (of_z w32 (get_or fits i (pos 0))) ≡ get_or fits i (pos 0) =
    search rules in
    rw read (record {
      len = simp length-set was.len;
      here = λ k l e. put_here all fits n j i k c.requires.channel
          (omega (arith, was.len, c.requires.len)) was.here l e;
      others = λ k other. put_others all n j i k (get_or fits i (pos 0)) c.requires.channel other
          ∙ was.others k other;
    })
