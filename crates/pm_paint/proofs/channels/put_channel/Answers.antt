use Rattle.std.proofs.Common.{get_or, length, ◌∙◌, arith}
use Rattle.std.proofs.lemmas.Nat.{mul-add-lt}
use Rattle.std.proofs.Math.ListN.{length-set}
use Rattle.pm_paint.proofs.ChannelLaws.{put_here, put_others}
use Rattle.pm_paint.proofs.channels.put_channel.Goals as goal

pub loop-node-preserved : goal.loop-node-preserved
loop-node-preserved c =
    let all = c.loop-node.all.items in
    let means = c.args.means.now in
    let n = c.args.channels in
    let j = c.args.channel in
    let i = c.loop-node.node in
    let was = c.loop-node.invariant in
    let inside = mul-add-lt i n j (length means) (omega arith) c.requires.channel in
    record {
      len = simp length-set was.len;
      here = λ k l e. put_here all means n j i k c.requires.channel
          (omega (arith, was.len, c.requires.len)) was.here l e;
      others = λ k other. put_others all n j i k (get_or means i 0) c.requires.channel other
          ∙ was.others k other;
    }
