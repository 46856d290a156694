-- The leaf mesh as a list of faces, and as its sides.
use Rattle.std.specs.List.{range_with_len}
use Rattle.std.proofs.lemmas.Grind.{common_steps}
use Rattle.std.proofs.Common.{◌≡◌, ℕ, ◌*◌, ◌<◌, List, map, length, get_or, refl, ap, ◌∙◌}
use Rattle.std.proofs.Common.{Result, Ok, Err, IfOk, subst, arith}
use Rattle.std.proofs.lemmas.List.{get_or-map, length-map}
use Rattle.std.proofs.lemmas.List.FromFn.{length-range_with_len}
use Rattle.pm_base.specs.declared.mesh.Corners.{Corners}
use Rattle.pm_base.specs.Meshes.{Mesh}
use Rattle.pm_base.specs.Sides.{net_of, NoSideTwice}
use Rattle.pm_twins.specs.Table.{Table, IsTableOf}
use Rattle.pm_forest.specs.Forest.{Hierarchy, leaf_count}
use Rattle.pm_forest.specs.Faces.{faces_of, face_count, from_leaf}
use Rattle.pm_forest.specs.Meshes.{leaf_place, leaf_corners, leaf_mesh_of}
use Rattle.pm_forest.proofs.FaceLists.{corners_of-faces_of, length-faces_of}
use Rattle.pm_beyond.specs.Walks.{leaf_net}
use Rattle.pm_deviation.proofs.SameNet.{IsSameNet, once_back, table_same}

leaf_faces : (h : Hierarchy) → (leaf_mesh_of h).faces ≡ map leaf_corners (faces_of h)
unfolding leaf_mesh_of
leaf_faces h = refl

leaf_points : (h : Hierarchy) → length (leaf_mesh_of h).points ≡ leaf_count h
unfolding leaf_mesh_of
leaf_points h =
    length-map (range_with_len 0 (leaf_count h)) (leaf_place h)
    ∙ length-range_with_len 0 (leaf_count h)

leaf_from : (h : Hierarchy) (e : ℕ) (fs : List Corners) → fs ≡ map leaf_corners (faces_of h)
    → e < 3 * face_count h → (net_of fs).from e ≡ from_leaf h e
unfolding from_leaf
leaf_from h e fs are l =
    grind (arith, common_steps, corners_of-faces_of, get_or, get_or-map, length-faces_of)

leaf_same : (h : Hierarchy) (fs : List Corners) → fs ≡ (leaf_mesh_of h).faces
    → IsSameNet (net_of fs) (leaf_net h)
leaf_same h fs are = grind (arith, common_steps, leaf_faces, leaf_from, length-faces_of, length-map)

pub leaf_table : (h : Hierarchy) (m : Mesh) (t : Table) → m ≡ leaf_mesh_of h
    → IsTableOf (net_of m.faces) (length m.points) t → IsTableOf (leaf_net h) (leaf_count h) t
leaf_table h m t is table =
    let same = leaf_same h m.faces (ap (λ (n : Mesh). n.faces) is) in
    let points = ap (λ (n : Mesh). length n.points) is ∙ leaf_points h in
    subst (λ n. IsTableOf (leaf_net h) n t) points
    (table_same (net_of m.faces) (leaf_net h) same (length m.points) t table)

pub leaf_tables : {E : Type 0} (h : Hierarchy) (m : Mesh) (r : Result Table E) → m ≡ leaf_mesh_of h
    → IfOk r (IsTableOf (net_of m.faces) (length m.points))
    → IfOk r (IsTableOf (leaf_net h) (leaf_count h))
leaf_tables h m (Ok t) is table = leaf_table h m t is table
leaf_tables h m (Err e) is table = tt

pub leaf_once : (h : Hierarchy) (m : Mesh) → m ≡ leaf_mesh_of h → NoSideTwice (leaf_net h)
    → NoSideTwice (net_of m.faces)
leaf_once h m is once =
    once_back (net_of m.faces) (leaf_net h) (leaf_same h m.faces (ap (λ (n : Mesh). n.faces) is))
    once
