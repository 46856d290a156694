use Rattle.std.proofs.Common.{◌≡◌, sym, arith, rules, to_z, of_z, w32}
use Rattle.std.proofs.lemmas.List.FromFn.{map-range_with_len_more}
use Rattle.paint.specs.Coat.{signed_at}
use Rattle.paint.proofs.judging.signed_numbers.Goals as goal

pub loop-i-preserved : goal.loop-i-preserved
loop-i-preserved c =
    let read : to_z w32 (of_z w32 c.signed_at.result) ≡ c.signed_at.result = search rules in
    record {
      items = rw (
        c.push_within_room.ensures.items,
        c.loop-i.invariant.items,
        read,
        c.signed_at.ensures,
      )
          (sym (map-range_with_len_more (signed_at c.args.bytes.now) 0 c.loop-i.i c.loop-i.i
          (omega arith)));
      spare = omega arith;
    }
