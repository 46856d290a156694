use Rattle.std.proofs.Common.{◌∙◌, ℕ, ◌*◌, ◌%◌, ◌<◌, List, None, length, get_or, sym, ap, arith}
use Rattle.std.proofs.lemmas.List.{get_or_read}
use Rattle.pm_shrink.specs.declared.faces.Row.{Row}
use Rattle.pm_shrink.specs.FaceRows.{Faces, across_in, no_row}
use Rattle.pm_shrink.proofs.FaceTables.{side_in, across_at}
use Rattle.pm_shrink.proofs.faces.FaceTable.across.Goals as goal

pub index-requires : goal.index-requires
index-requires c =
    let low = side_in c.self.inside.rows.items c.args.side.0 c.self.view_is c.requires in
    omega (arith, c.face.ensures, low)

pub returns : goal.returns
returns c =
    let rows : List Row = c.self.inside.rows.items in
    let e : ℕ = c.args.side.0 in
    let low : e < 3 * length rows = side_in rows e c.self.view_is c.requires in
    c.across.ensures
    ∙ ap (λ (k : Row). across_in k (e % 3))
    (get_or_read rows c.face.result.0 c.index.result.now (omega (arith, c.face.ensures))
    c.index.ensures no_row ∙ ap (λ (n : ℕ). get_or rows n no_row) c.face.ensures)
    ∙ sym (across_at rows e low)
    ∙ ap (λ (t : Faces). get_or t.across e None) c.self.view_is
