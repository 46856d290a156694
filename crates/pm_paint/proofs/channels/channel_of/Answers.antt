use Rattle.std.proofs.Common.{◌≡◌, ◌+◌, ◌*◌, ◌≤◌, get_or, sym, arith}
use Rattle.std.proofs.lemmas.Grind.{common_steps}
use Rattle.std.proofs.lemmas.List.FromFn.{map-range_with_len_more}
use Rattle.pm_paint.proofs.channels.channel_of.Goals as goal

pub loop-vertex-preserved : goal.loop-vertex-preserved
loop-vertex-preserved c =
    let values = c.args.values.now in
    let i = c.loop-vertex.vertex in
    let place = i * c.args.channels + c.args.channel in
    let was = c.loop-vertex.invariant in
    let number : c.from.result ≡ get_or values place 0 = c.from.ensures in
    let most : c.from.result ≤ 65535 = omega (arith, number, c.type_inv.values place) in
    record {
      items = rw (c.push_within_room.ensures.items, was.items, number)
          (sym (map-range_with_len_more
          (λ v. get_or values (v * c.args.channels + c.args.channel) 0) 0 i i
          (omega arith)));
      small = rw c.push_within_room.ensures.items (λ k l. grind (arith, common_steps, was.small));
      spare = omega arith;
    }
