use Rattle.std.proofs.Common.{List, ℕ, [], ◌∷◌}
use Rattle.std.specs.List.{flat_map}
use Rattle.pm_io.proofs.StopLaws.{◌>>◌, stops_before, stops_at_flush, flushed}
use Rattle.pm_base.specs.Canonical.{corner_line, canonical_text}
use Rattle.obj_write.proofs.write.write_obj.Goals as goal

pub returns-in_err-put_points : goal.returns-in_err-put_points
unfolding canonical_text
returns-in_err-put_points g c =
    stops_before (flat_map corner_line c.args.mesh.now.faces.items ∷ []) c.new-page.ensures
    c.in_err-put_points.ensures c.from_residual.ensures.1

pub returns-in_err-put_faces : goal.returns-in_err-put_faces
unfolding canonical_text
returns-in_err-put_faces g c =
    stops_before [] c.new-page.ensures (c.in_ok-put_points.ensures >> c.in_err-put_faces.ensures)
    c.from_residual-in_err-put_faces.ensures.1

pub returns-in_err-flush : goal.returns-in_err-flush
unfolding canonical_text
returns-in_err-flush g c =
    stops_at_flush c.new-page.ensures (c.in_ok-put_points.ensures >> c.in_ok-put_faces.ensures)
    c.in_err-flush.ensures.puts c.from_residual-in_err-flush.ensures.1

pub returns : goal.returns
unfolding canonical_text
returns g c =
    flushed c.new-page.ensures (c.in_ok-put_points.ensures >> c.in_ok-put_faces.ensures)
    c.in_ok-flush.ensures.puts
