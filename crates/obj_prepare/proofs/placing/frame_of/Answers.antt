use Rattle.obj_prepare.specs.Named.{chosen}
use Rattle.obj_prepare.specs.Placing.{frame_of}
use Rattle.obj_prepare.proofs.PlacingLaws.{frame_on, frame_past}
use Rattle.obj_prepare.proofs.placing.frame_of.Goals.{then-named-at, else-named-at}
use Rattle.obj_prepare.proofs.placing.frame_of.Goals as goal

pub loop-at-preserved : goal.loop-at-preserved
loop-at-preserved c =
    let flags = c.args.named.now in
    let points = c.args.points.now in
    let at = c.loop-at.at in
    let whole = frame_of (chosen flags points) in
    elim c.if-named-at.branch [
      | then-named-at w ↦
          rw w.frame-is
          (frame_on flags points at w.index-points-at.result c.requires c.loop-at-test.true
          w.index-points-at.is c.loop-at.frame w.grown.result whole w.if-named-at.true
          w.grown.ensures c.loop-at.invariant)
      | else-named-at w ↦
          rw w.frame-is (frame_past flags points at c.requires c.loop-at-test.true c.loop-at.frame
          whole w.if-named-at.false c.loop-at.invariant)
    ]
