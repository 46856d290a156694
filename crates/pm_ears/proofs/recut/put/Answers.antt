use Rattle.std.proofs.Common.{◌<◌, ◌+◌, List, length, slice_index_or, slice_set, ap, ◌∙◌, arith}
use Rattle.pm_base.specs.declared.mesh.Corners.{Corners}
use Rattle.pm_base.specs.Sides.{no_corners}
use Rattle.pm_ears.proofs.Putting.{put_next}
use Rattle.pm_ears.proofs.recut.put.Goals as goal

pub loop-i-preserved : goal.loop-i-preserved
loop-i-preserved c =
    let first = c.args.first in
    let i = c.loop-i.i in
    let ts = c.args.triangles.now in
    let l : i < length ts = omega (arith, c.loop-i-test.true, c.loop-i.auto.i-end) in
    ap (λ (fs : List Corners). slice_set fs (first + i) (slice_index_or ts i no_corners))
    c.loop-i.invariant
    ∙ put_next first i ts c.args.faces.now.items no_corners l c.requires
