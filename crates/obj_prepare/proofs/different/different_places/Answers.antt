use Rattle.std.proofs.Common.{◌+◌, arith, drop}
use Rattle.obj_prepare.specs.Named.{chosen}
use Rattle.obj_prepare.proofs.DifferentLaws.{flag_on, flag_past}
use Rattle.obj_prepare.proofs.different.different_places.Goals.{then-named-at+in_ok-n}
use Rattle.obj_prepare.proofs.different.different_places.Goals.{else-named-at}
use Rattle.obj_prepare.proofs.different.different_places.Goals as goal

pub loop-at-preserved : goal.loop-at-preserved
loop-at-preserved c =
    let flags = c.args.named.now in
    let ps = c.args.places.now in
    let at = c.loop-at.at in
    let whole = chosen flags ps in
    elim c.if-named-at.branch [
      | then-named-at+in_ok-n w ↦
          let p = w.index-places-at.result in
          let counted =
          flag_on flags ps at p c.requires.flags c.loop-at-test.true w.index-places-at.is
          w.if-named-at.true whole c.loop-at.seen c.loop-at.n c.loop-at.invariant.counted in
          rw (w.seen-is, w.n-is) (record {
            counted = w.in_ok-n.ensures.counted p whole
                (chosen (drop (at + 1) flags) (drop (at + 1) ps)) w.place_key.ensures counted;
            few = omega (arith, w.in_ok-n.ensures.few, c.loop-at.invariant.few);
          })
      | else-named-at w ↦
          rw (w.seen-is, w.n-is) (record {
            counted = flag_past flags ps at c.requires.flags c.loop-at-test.true w.if-named-at.false
                whole c.loop-at.seen c.loop-at.n c.loop-at.invariant.counted;
            few = omega (arith, c.loop-at.invariant.few);
          })
    ]
