-- The input mesh of a hierarchy is its leaf mesh with other numbers.
use Rattle.std.proofs.Common.{◌≡◌, ℕ, ◌+◌, ◌-◌, ◌*◌, ◌%◌, ◌==◌, ◌<◌, cond, refl, sym}
use Rattle.std.proofs.lemmas.Grind.{common_steps}
use Rattle.std.proofs.Common.{ap, ◌∙◌}
use Rattle.std.proofs.Common.{arith}
use Rattle.std.proofs.lemmas.List.FromFn.{get_or-map-range_with_len}
use Rattle.pm_base.specs.Sides.{Net, face_of, corner_in, no_corners, net_of}
use Rattle.pm_forest.specs.declared.parts.Face.{Face}
use Rattle.pm_forest.specs.Forest.{Hierarchy, leaf_count}
use Rattle.pm_forest.specs.Faces.{face_count, corners_of, from_leaf, IsForest}
use Rattle.pm_forest.specs.Meshes.{leaf_input, face_input, input_corners, input_face}
use Rattle.pm_forest.specs.Meshes.{leaf_of_input}
use Rattle.pm_forest.specs.Meshes.{face_of_input, input_mesh_of, HasInputNumbers}
use Rattle.pm_forest.proofs.MeshLaws.{numbered_so-lt, numbered_so-found}
use Rattle.pm_beyond.specs.Walks.{leaf_net}
use Rattle.pm_number.specs.Stages.{side_by, BeginsSide, Renames}
use Rattle.pm_number.proofs.Stages.{side-face, side-turns, side-lt, side-back}

-- The input number of a face's corner is that of its leaf.
corner-input :
    (h : Hierarchy) (k : Face) (i : ℕ) →
    corner_in (input_corners h k) i ≡ leaf_input h (cond (i == 0) k.a (cond (i == 1) k.b k.c)) - 1
corner-input h k i = grind (arith, common_steps)

module _ (h : Hierarchy) (tree : IsForest h) (numbers : HasInputNumbers h) where
  abbrev input : Net
  input = net_of (input_mesh_of h).faces

  -- The side of the hierarchy that a side of the input is, and the leaf that a vertex of it is.
  abbrev side : ℕ → ℕ
  side e = side_by (face_of_input h) e

  abbrev leaf : ℕ → ℕ
  leaf v = leaf_of_input h v

  face : (e : ℕ) → e < 3 * input.faces → face_of e < face_count h
  face e l = let count = numbers.mesh.faces in omega arith

  pub is_side : (e : ℕ) → e < 3 * input.faces → side e < 3 * face_count h
  is_side e l =
      side-lt (face_of_input h) e (face_count h)
      (numbered_so-lt (face_input h) (face_count h) (face_of e) (face e l))

  face-back : (f : ℕ) → f < face_count h → face_of_input h (face_input h f - 1) ≡ f
  face-back f l =
      let some = numbers.faces.some f l in
      numbered_so-found (face_input h) (face_count h) f numbers.faces.once l some

  -- Face i of the input has the number i + 1.
  face-number : (i : ℕ) → i < face_count h → face_input h (face_of_input h i) ≡ i + 1
  face-number i l =
      let (f, low, is) = numbers.faces.each i l in
      let place : face_input h f - 1 ≡ i = omega arith in
      ap (face_input h) (ap (face_of_input h) (sym place) ∙ face-back f low) ∙ is

  face-input-once :
      (i j : ℕ) → i < face_count h → j < face_count h → face_of_input h i ≡ face_of_input h j →
      i ≡ j
  face-input-once i j l m same = grind (arith, common_steps, face-number i l, face-number j m)

  -- A side of the input runs from the input vertex of the leaf that its side runs from.
  pub from_input :
      (e : ℕ) → e < 3 * input.faces → input.from e ≡ leaf_input h (from_leaf h (side e)) - 1
  unfolding input_mesh_of from_leaf side_by
  from_input e l =
      let f = face_of e in
      let g = face_of_input h f in
      let low = face e l in
      let there =
      get_or-map-range_with_len (input_face h) 0 (face_count h) f f no_corners low (omega arith) in
      let turn : side e % 3 ≡ e % 3 = omega arith in
      ap (λ c. corner_in c (e % 3)) there ∙ corner-input h (corners_of h g) (e % 3)
      ∙ rw (side-face (face_of_input h) e, turn) refl

  leaf-back : (x : ℕ) → x < leaf_count h → leaf (leaf_input h x - 1) ≡ x
  leaf-back x l =
      let some = numbers.leaves.some x l in
      numbered_so-found (leaf_input h) (leaf_count h) x numbers.leaves.once l some

  leaves : (e : ℕ) → e < 3 * input.faces → from_leaf h (side e) < leaf_count h
  leaves e l = tree.faces.leaves (side e) (is_side e l)

  from : (e : ℕ) → e < 3 * input.faces → from_leaf h (side e) ≡ leaf (input.from e)
  from e l = sym (ap leaf (from_input e l) ∙ leaf-back (from_leaf h (side e)) (leaves e l))

  back : (e : ℕ) → e < 3 * face_count h → (g : ℕ) × (g < 3 * input.faces) × (side g ≡ e)
  back e l =
      let f = face_of e in
      let low : f < face_count h = omega arith in
      let count = numbers.mesh.faces in
      let some = numbers.faces.some f low in
      let most = numbers.faces.most f low in
      let found = face-back f low in
      (3 * (face_input h f - 1) + e % 3, omega arith, side-back (face_of_input h) e _ found)

  one : (v w : ℕ) → BeginsSide input v → BeginsSide input w → leaf v ≡ leaf w → v ≡ w
  one v w (e, l, begins) (g, m, ends) same = grind (arith, common_steps, from, from_input)

  -- Two sides of the input are two sides of the hierarchy.
  pub side-once : (e g : ℕ) → e < 3 * input.faces → g < 3 * input.faces → side e ≡ side g → e ≡ g
  unfolding side_by
  side-once e g l m same = grind (arith, common_steps, face, face-input-once)

  pub input_renamed :
      Renames (net_of (input_mesh_of h).faces) (leaf_net h) (λ e. side_by (face_of_input h) e)
      (λ v. leaf_of_input h v)
  input_renamed = grind (arith, common_steps, back, from, is_side, one, side-turns)
