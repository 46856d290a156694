use Rattle.std.proofs.Common.{◌≡◌, ◌+◌, ◌++◌, ℕ, List, ap, ◌∙◌, arith}
use Rattle.std.specs.List.{flat_map}
use Rattle.pm_base.specs.Place.{Place}
use Rattle.pm_base.specs.Meshes.{Mesh}
use Rattle.pm_base.specs.declared.mesh.Corners.{Corners}
use Rattle.pm_grid.specs.Grid.{point_row, face_row, grid_points, grid_faces}
use Rattle.pm_base.specs.Counts.{numbers_below}
use Rattle.pm_grid.proofs.RowLists.{rows_more}
use Rattle.pm_grid.proofs.mesh.grid.Goals as goal

pub loop-row-preserved : goal.loop-row-preserved
loop-row-preserved c =
    c.in_ok-add_points.ensures ∙ ap (λ (xs : List Place). xs ++ point_row c.args.n c.loop-row.row)
    c.loop-row.invariant ∙ rows_more (point_row c.args.n) c.loop-row.row

pub loop-cell_row-preserved : goal.loop-cell_row-preserved
loop-cell_row-preserved c =
    c.in_ok-add_faces.ensures
    ∙ ap (λ (xs : List Corners). xs ++ face_row c.args.n c.loop-cell_row.cell_row)
    c.loop-cell_row.invariant ∙ rows_more (face_row c.args.n) c.loop-cell_row.cell_row

pub returns : goal.returns
unfolding grid_points grid_faces
returns c =
    let n = c.args.n in
    let whole : c.loop-row.row ≡ n + 1 =
    omega (arith, c.loop-row-test.false, c.loop-row.auto.row-end) in
    let all : c.loop-cell_row.cell_row ≡ n =
    omega (arith, c.loop-cell_row-test.false, c.loop-cell_row.auto.cell_row-end) in
    let points : c.loop-row.points.items ≡ grid_points n =
    c.loop-row.invariant ∙ ap (λ (k : ℕ). flat_map (point_row n) (numbers_below k)) whole in
    let faces : c.loop-cell_row.faces.items ≡ grid_faces n =
    c.loop-cell_row.invariant ∙ ap (λ (k : ℕ). flat_map (face_row n) (numbers_below k)) all in
    let with_points : List Place
    → Mesh = λ ps. record { points = ps; faces = c.loop-cell_row.faces.items } in
    let with_faces : List Corners → Mesh = λ fs. record { points = grid_points n; faces = fs } in
    ap with_points points ∙ ap with_faces faces
