use Rattle.std.proofs.Common.{◌≡◌, ◌+◌, ◌*◌, get_or, to_z, of_z, w32, sym, rules, arith}
use Rattle.std.proofs.lemmas.List.FromFn.{map-range_with_len_more}
use Rattle.std.specs.Prelude.{pos}
use Rattle.pm_fits.proofs.channels.channel_of.Goals as goal

pub loop-vertex-preserved : goal.loop-vertex-preserved
loop-vertex-preserved c =
    let values = c.args.values.now in
    let n = c.args.channels in
    let j = c.args.channel in
    let i = c.loop-vertex.vertex in
    let place = i * n + j in
    let read : to_z w32 (of_z w32 (get_or values place (pos 0))) ≡ get_or values place (pos 0) =
    search rules in
    record {
      items = rw (c.push_within_room.ensures.items, c.loop-vertex.invariant.items, read)
          (sym (map-range_with_len_more (λ v. get_or values (v * n + j) (pos 0)) 0 i i
          (omega arith)));
      spare = omega arith;
    }
