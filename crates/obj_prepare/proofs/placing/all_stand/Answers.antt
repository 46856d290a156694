use Rattle.std.proofs.Common.{◌∙◌, sym}
use Rattle.std.specs.List.{list_all}
use Rattle.obj_prepare.specs.Whole.{stands_on_grid}
use Rattle.obj_prepare.specs.Named.{chosen}
use Rattle.obj_prepare.proofs.PlacingLaws.{stand_on, stand_past}
use Rattle.obj_prepare.proofs.placing.all_stand.Goals.{else-named-at-via-then-named-at+else-not-stands}
use Rattle.obj_prepare.proofs.placing.all_stand.Goals.{else-named-at-via-else-named-at}
use Rattle.obj_prepare.proofs.placing.all_stand.Goals as goal

pub loop-at-preserved : goal.loop-at-preserved
loop-at-preserved c =
    let flags = c.args.named.now in
    let points = c.args.points.now in
    let at = c.loop-at.at in
    let whole = list_all stands_on_grid (chosen flags points) in
    elim c.else-named-at.branch [
      | else-named-at-via-then-named-at+else-not-stands w ↦
          stand_on flags points at w.index-points-at.result c.requires c.loop-at-test.true
          w.index-points-at.is whole w.if-named-at.true (sym w.stands.ensures
          ∙ w.if-not-stands.false) c.loop-at.invariant
      | else-named-at-via-else-named-at w ↦
          stand_past flags points at c.requires c.loop-at-test.true whole w.if-named-at.false
          c.loop-at.invariant
    ]
