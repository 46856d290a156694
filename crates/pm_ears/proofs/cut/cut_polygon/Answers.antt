use Rattle.std.proofs.Common.{ap, ◌∙◌}
use Rattle.pm_ears.specs.Planes.{spots_on}
use Rattle.pm_ears.proofs.Cuts.{cut_seen}
use Rattle.pm_ears.proofs.cut.cut_polygon.Goals as goal

pub returns : goal.returns
returns c =
    let places = c.args.places.now in
    cut_seen places c.deref.result.now c.cut_spots.result
    (c.deref.ensures.value ∙ c.in_ok-spots.ensures
    ∙ ap (λ plane. spots_on plane 0 places) c.cutting_plane.ensures)
    c.cut_spots.ensures.kind c.cut_spots.ensures.triangles
