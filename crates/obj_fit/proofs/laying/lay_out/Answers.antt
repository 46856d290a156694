use Rattle.std.proofs.Common.{◌∙◌, ap, length}
use Rattle.obj_prepare.specs.Named.{of_three}
use Rattle.obj_prepare.proofs.PlacingLaws.{length-places_of}
use Rattle.obj_scan.specs.Fails.{scanned_of}
use Rattle.obj_fit.proofs.MakeLaws.{lent_below, lent_within}
use Rattle.obj_fit.proofs.laying.lay_out.Goals as goal

pub place_points-requires-clause-within : goal.place_points-requires-clause-within
place_points-requires-clause-within c =
    lent_within (scanned_of c.args.scan.now) c.deref-2.result.now c.deref-3.result.now
    c.requires.within c.deref-2.ensures.value
    (c.deref-3.ensures.value ∙ c.in_ok-fans.ensures ∙ ap of_three c.deref.ensures.value)

pub recut_polygons-requires-clause-below : goal.recut_polygons-requires-clause-below
recut_polygons-requires-clause-below c =
    lent_below (scanned_of c.args.scan.now) c.deref-4.result.now c.deref-6.result.now
    c.requires.within
    (ap length (c.deref-4.ensures.value ∙ c.in_ok-placing.ensures.places)
    ∙ length-places_of c.args.size c.deref-2.result.now c.deref-3.result.now
    ∙ ap length c.deref-2.ensures.value)
    c.deref-6.ensures.value
