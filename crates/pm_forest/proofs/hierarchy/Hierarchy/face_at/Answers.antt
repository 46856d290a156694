use Rattle.std.proofs.Common.{slice_index_or, sym, ap, ◌∙◌}
use Rattle.pm_forest.specs.Faces.{faces_of, no_face_corners}
use Rattle.pm_forest.proofs.FaceLists.{corners_of-faces_of}
use Rattle.pm_forest.proofs.HierarchyLaws.{all_units}
use Rattle.pm_forest.proofs.hierarchy.Hierarchy.face_at.Goals as goal

pub returns-clause-corners : goal.returns-clause-corners
returns-clause-corners c =
    let h = c.args.self.now in
    let f = c.args.f.0 in
    let whole = all_units c.self.inside.forest h c.self.invariant.1 c.self.view_is in
    c.face.ensures ∙ ap (λ g. slice_index_or (faces_of g) f no_face_corners) whole
    ∙ sym (corners_of-faces_of h f c.requires)
