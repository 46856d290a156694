use Rattle.std.proofs.Common.{◌≡◌, ◌∙◌, ◌*◌, ◌+◌, ◌%◌, ℕ, List, Option, Some, None, length, get_or}
use Rattle.std.proofs.Common.{map, sym, ap, arith}
use Rattle.std.proofs.lemmas.List.{length-map, get_or-map}
use Rattle.pm_base.specs.declared.mesh.Corners.{Corners}
use Rattle.pm_base.specs.Sides.{face_of, no_corners}
use Rattle.pm_shrink.specs.declared.faces.Row.{Row}
use Rattle.pm_shrink.proofs.FaceTables.{corners_are, across_is}
use Rattle.pm_shrink.proofs.faces.FaceTable.new.Goals as goal

pub returns-clause-faces : goal.returns-clause-faces
returns-clause-faces c =
    let i = c.loop-face.invariant in
    let faces : List Corners = c.args.faces.now in
    let all : length (map Some faces) ≡ length faces = length-map faces Some in
    corners_are c.loop-face.rows.items (map Some faces) (omega (arith, all, i.len))
    (λ f l. i.corners f (omega (arith, i.len))
    ∙ sym (get_or-map Some faces f no_corners None (omega (arith, i.len))))

pub returns-clause-across : goal.returns-clause-across
returns-clause-across c =
    let i = c.loop-face.invariant in
    let rows : List Row = c.loop-face.rows.items in
    let table : List (Option ℕ) = c.across.inside.others.items in
    across_is rows table (omega (arith, i.len, c.requires.sides, ap length c.across.view_is))
    (λ e l. i.across (face_of e) (e % 3) (omega (arith, i.len)) (omega arith)
    ∙ ap (λ (n : ℕ). get_or table n None) (let n : 3 * face_of e + e % 3 ≡ e = omega arith in
    n))
    ∙ c.across.view_is
