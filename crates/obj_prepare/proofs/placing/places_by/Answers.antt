use Rattle.std.proofs.Common.{◌∙◌, ap, ◌∷◌, [], ◌++◌}
use Rattle.obj_prepare.specs.Placing.{Suits, places_by}
use Rattle.obj_prepare.proofs.PlacingLaws.{chosen_has, place_on, place_past}
use Rattle.obj_prepare.proofs.placing.places_by.Goals.{then-named-at+in_ok-push}
use Rattle.obj_prepare.proofs.placing.places_by.Goals.{else-named-at+in_ok-push-2}
use Rattle.obj_prepare.proofs.placing.places_by.Goals as goal

pub placed-requires : goal.placed-requires
placed-requires c =
    rw c.index-points-at.is
    (chosen_has (Suits c.args.fit.now) c.args.named.now c.args.points.now c.loop-at.at
    c.index-points-at.result c.requires.flags c.loop-at-test.true c.if-named-at.true
    c.requires.suits)

pub loop-at-preserved : goal.loop-at-preserved
loop-at-preserved c =
    let fit = c.args.fit.now in
    let flags = c.args.named.now in
    let points = c.args.points.now in
    let at = c.loop-at.at in
    let before = c.loop-at.places.items in
    let whole = places_by fit flags points in
    elim c.if-named-at.branch [
      | then-named-at+in_ok-push w ↦
          rw w.places-is
          (place_on flags points at w.index-points-at.result c.requires.flags
          c.loop-at-test.true w.index-points-at.is fit before w.push.new.self.items whole
          w.if-named-at.true
          (w.in_ok-push.ensures.items ∙ ap (λ p. before ++ p ∷ []) w.placed.ensures)
          c.loop-at.invariant)
      | else-named-at+in_ok-push-2 w ↦
          rw w.places-is (place_past flags points at c.requires.flags c.loop-at-test.true fit before
          w.push-else-named-at.new.self.items whole w.if-named-at.false
          (w.in_ok-push-2.ensures.items ∙ ap (λ p. before ++ p ∷ []) w.point.ensures)
          c.loop-at.invariant)
    ]
