use Rattle.std.proofs.Common.{◌∙◌, None, set, refl, ap}
use Rattle.std.proofs.lemmas.List.{map-set}
use Rattle.pm_shrink.specs.declared.faces.Row.{Row}
use Rattle.pm_shrink.specs.FaceRows.{Faces, row_corners}
use Rattle.pm_shrink.proofs.FaceTables.{row_in, across_kept}
use Rattle.pm_shrink.proofs.faces.FaceTable.drop_face.Goals as goal

pub returns-clause-faces : goal.returns-clause-faces
returns-clause-faces c =
    map-set (λ (r : Row). r.corners) c.self.inside.rows.items c.args.face.0 _
    ∙ ap (set (row_corners c.self.inside.rows.items) c.args.face.0) c.none.ensures
    ∙ ap (λ (t : Faces). set t.faces c.args.face.0 None) c.self.view_is

pub returns-clause-across : goal.returns-clause-across
returns-clause-across c =
    across_kept c.self.inside.rows.items c.args.face.0 c.index_mut.result.now _
    (row_in c.self.inside.rows.items c.args.face.0 c.self.view_is c.requires)
    c.index_mut.ensures.value (λ i. refl) ∙ ap (λ (t : Faces). t.across) c.self.view_is
