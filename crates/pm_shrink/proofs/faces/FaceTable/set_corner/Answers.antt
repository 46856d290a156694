use Rattle.std.proofs.Common.{◌∙◌, ◌%◌, ℕ, List, None, get_or, set, sym, ap, arith}
use Rattle.std.specs.Prelude.{option_map}
use Rattle.std.proofs.lemmas.List.{map-set, get_or_read}
use Rattle.pm_shrink.specs.declared.faces.Row.{Row}
use Rattle.pm_shrink.specs.FaceRows.{Faces, no_row, row_corners}
use Rattle.pm_shrink.specs.Writes.{with_vertex, with_corner}
use Rattle.pm_shrink.proofs.FaceTables.{row_in, corners_at, across_kept}
use Rattle.pm_shrink.proofs.faces.FaceTable.set_corner.Goals as goal

pub returns-clause-faces : goal.returns-clause-faces
returns-clause-faces c =
    let rows : List Row = c.self.inside.rows.items in
    let e : ℕ = c.args.corner.0 in
    let v : ℕ = c.args.vertex in
    let low = row_in rows c.face.result.0 c.self.view_is (omega (arith, c.face.ensures, c.requires))
    in
    let read = get_or_read rows c.face.result.0 c.index_mut.result.now low c.index_mut.ensures.value
    no_row in
    map-set (λ (r : Row). r.corners) rows c.face.result.0 c.set_corner.new.self
    ∙ ap (set (row_corners rows) c.face.result.0)
    (c.set_corner.ensures.corners
    ∙ ap (λ (r : Row). option_map (λ k. with_vertex k (e % 3) v) r.corners) read
    ∙ ap (option_map (λ k. with_vertex k (e % 3) v)) (sym (corners_at rows c.face.result.0 low)))
    ∙ ap (λ (f : ℕ). set (row_corners rows) f
    (option_map (λ k. with_vertex k (e % 3) v) (get_or (row_corners rows) f None)))
    c.face.ensures
    ∙ ap (λ (t : Faces). with_corner t.faces e v) c.self.view_is

pub returns-clause-across : goal.returns-clause-across
returns-clause-across c =
    across_kept c.self.inside.rows.items c.face.result.0 c.index_mut.result.now
    c.set_corner.new.self
    (row_in _ c.face.result.0 c.self.view_is (omega (arith, c.face.ensures, c.requires)))
    c.index_mut.ensures.value c.set_corner.ensures.across
    ∙ ap (λ (t : Faces). t.across) c.self.view_is
