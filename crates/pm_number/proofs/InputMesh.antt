-- The input mesh of the hierarchy of a run is the mesh that the run began with.
use Rattle.std.proofs.Common.{◌≡◌, ℕ, ◌+◌, ◌-◌, ◌*◌, ◌<◌, List, [], length, get_or, map, refl, sym}
use Rattle.std.proofs.lemmas.Grind.{common_steps}
use Rattle.std.proofs.Common.{ap, ◌∙◌, arith}
use Rattle.std.specs.List.{range_with_len}
use Rattle.std.proofs.lemmas.List.{same_lists, get_or_default}
use Rattle.std.proofs.lemmas.List.FromFn.{length-map-range_with_len, get_or-map-range_with_len}
use Rattle.pm_base.specs.Place.{place_of}
use Rattle.pm_base.specs.declared.mesh.Corners.{Corners}
use Rattle.pm_base.specs.Meshes.{Mesh}
use Rattle.pm_base.specs.Sides.{net_of, no_corners}
use Rattle.pm_base.proofs.NetLaws.{first_side, second_side, third_side}
use Rattle.pm_base.specs.declared.log.Collapse.{Collapse}
use Rattle.pm_forest.specs.declared.parts.Face.{Face}
use Rattle.pm_forest.specs.Forest.{Hierarchy, leaf_count}
use Rattle.pm_forest.specs.Faces.{face_count}
use Rattle.pm_forest.specs.Meshes.{leaf_place, leaf_input, face_input, leaf_of_input, face_of_input}
use Rattle.pm_forest.specs.Meshes.{input_place, input_face, input_mesh_of}
use Rattle.pm_forest.proofs.MeshLaws.{numbered_so, numbered_so-found}
use Rattle.pm_number.specs.Stages.{Run, run_of, IsMerging}
use Rattle.pm_number.specs.Numbering.{leaf_number, face_number, hierarchy_of}
use Rattle.pm_number.specs.Numbering.{hierarchy_of_run}
use Rattle.pm_number.proofs.LeafNumbers.{leaf-there, leaf-back}
use Rattle.pm_number.proofs.FacePositions.{face-there, face-back, corners}
use Rattle.pm_number.proofs.RunCounts.{leaf-number-count, face-count}
use Rattle.pm_number.proofs.NodeParts.{leaf-input, leaf-place}

module _ (r : Run) (run : IsMerging r) where
  abbrev h : Hierarchy
  h = hierarchy_of r

  leaves_once : (x y : ℕ) → x < leaf_count (hierarchy_of r) → y < leaf_count (hierarchy_of r)
      → leaf_input (hierarchy_of r) x ≡ leaf_input (hierarchy_of r) y → x ≡ y
  leaves_once x y l m same =
      grind (arith, common_steps, leaf-back r run x l, leaf-back r run y m, leaf-input r run)

  pub leaf_of_input-is : (i : ℕ) → i < r.vertices
      → leaf_of_input (hierarchy_of r) i ≡ leaf_number r i
  leaf_of_input-is i l =
      let x = leaf_number r i in
      let number = leaf-input r run i l in
      let place : leaf_input h x - 1 ≡ i = omega arith in
      ap (numbered_so (leaf_input h) (leaf_count h)) (sym place)
      ∙ numbered_so-found (leaf_input h) (leaf_count h) x leaves_once (leaf-there r run i l)
      (omega arith)

  face-input : (f : ℕ) → f < r.net.faces → face_input (hierarchy_of r) (face_number r f) ≡ f + 1
  face-input f l = ap (λ (x : Face). x.input) (corners r run f l)

  faces_once : (x y : ℕ) → x < face_count (hierarchy_of r) → y < face_count (hierarchy_of r)
      → face_input (hierarchy_of r) x ≡ face_input (hierarchy_of r) y → x ≡ y
  faces_once x y l m same =
      grind (arith, common_steps, face-input, face-back r run x l, face-back r run y m)

  pub face_of_input-is : (i : ℕ) → i < r.net.faces
      → face_of_input (hierarchy_of r) i ≡ face_number r i
  face_of_input-is i l =
      let x = face_number r i in
      let number = face-input i l in
      let place : face_input h x - 1 ≡ i = omega arith in
      ap (numbered_so (face_input h) (face_count h)) (sym place)
      ∙ numbered_so-found (face_input h) (face_count h) x faces_once (face-there r run i l)
      (omega arith)

  -- the corners of an input face, by input vertices
  input-corners : (f : ℕ) → f < r.net.faces
      → input_face (hierarchy_of r) f ≡ record {
        a = r.net.from (3 * f);
        b = r.net.from (3 * f + 1);
        c = r.net.from (3 * f + 2);
      }
  input-corners f l =
      grind (arith, common_steps, corners, face_of_input-is, leaf-input)

-- The points and the faces of the input mesh are those of the mesh.
module _ (m : Mesh) (log : List Collapse) (run : IsMerging (run_of m log)) where
  abbrev told : Run
  told = run_of m log

  same_points : map (input_place (hierarchy_of (run_of m log)))
      (range_with_len 0 (leaf_count (hierarchy_of (run_of m log)))) ≡ m.points
  same_points =
      let k = hierarchy_of told in
      let count = leaf-number-count told run in
      let len = length-map-range_with_len (input_place k) 0 (leaf_count k) in
      same_lists _ m.points (omega arith) (λ i d l.
      let below : i < told.vertices = omega arith in
      get_or-map-range_with_len (input_place k) 0 (leaf_count k) i i d (omega arith) (omega arith)
      ∙ ap (leaf_place k) (leaf_of_input-is told run i below)
      ∙ leaf-place told run i below
      ∙ get_or_default m.points i (place_of []) d below)

  corners_are : (f : ℕ) → f < length m.faces
      → ◌≡◌ {A = Corners}
      (record {
        a = (net_of m.faces).from (3 * f);
        b = (net_of m.faces).from (3 * f + 1);
        c =
            (net_of m.faces).from (3 * f + 2);
      }) (get_or m.faces f no_corners)
  corners_are f l =
      rw ((first_side m.faces f).0, (second_side m.faces f).0, (third_side m.faces f).0) refl

  same_faces : map (input_face (hierarchy_of (run_of m log)))
      (range_with_len 0 (face_count (hierarchy_of (run_of m log)))) ≡ m.faces
  same_faces =
      let k = hierarchy_of told in
      let count = face-count told run in
      let len = length-map-range_with_len (input_face k) 0 (face_count k) in
      same_lists _ m.faces (omega arith) (λ f d l.
      let below : f < length m.faces = omega arith in
      get_or-map-range_with_len (input_face k) 0 (face_count k) f f d (omega arith) (omega arith)
      ∙ input-corners told run f below
      ∙ corners_are f below
      ∙ get_or_default m.faces f no_corners d below)

  pub same_mesh : input_mesh_of (hierarchy_of_run m log) ≡ m
  unfolding input_mesh_of hierarchy_of_run
  same_mesh = rw (same_points, same_faces) refl
