use Rattle.paint.proofs.PartLaws.{coordinates_same}
use Rattle.paint.proofs.parts.add_node_coordinates.Goals as goal

pub returns-in-Ok : goal.returns-in-Ok
returns-in-Ok c =
    let same = coordinates_same c.fits_are_sound.ensures.channels c.args.h.now
    c.args.coordinates.now c.in-Ok.fits.items c.in-Ok.ensures.fits in
    rw (c.deref.ensures.value, c.nodes.ensures.value, same) at c.add_fits.ensures
