-- The faces of a run's hierarchy pass the rules of shape.
use Rattle.std.proofs.Common.{suc, ◌≡◌, ℕ, ◌+◌, ◌*◌, ◌<◌, ◌≤◌, ltb, false}
use Rattle.std.proofs.Common.{List, [], ◌∷◌, ◌++◌, length, get_or, take, drop}
use Rattle.std.proofs.Common.{None, refl, sym, ap, ◌∙◌, subst, arith}
use Rattle.std.proofs.Common.{append_assoc}
use Rattle.std.specs.List.{flat_map}
use Rattle.std.proofs.lemmas.Bool.{le-ltb}
use Rattle.std.proofs.lemmas.Bool.{cond-false}
use Rattle.std.proofs.lemmas.List.{length-map, length-take-le}
use Rattle.std.proofs.lemmas.List.{get_or-map, get_or_append_left, take-append-drop}
use Rattle.pm_base.specs.Sides.{face_of}
use Rattle.pm_forest.specs.declared.parts.Face.{Face}
use Rattle.pm_forest.specs.Forest.{Hierarchy, record_count, leaf_count}
use Rattle.pm_forest.specs.Faces.{no_face_corners, faces_in, faces_of, first_face}
use Rattle.pm_forest.specs.Faces.{face_count, revealed_by, corners_of}
use Rattle.pm_forest.specs.Rules.{face_inputs, face_input_is_bad, base_fault}
use Rattle.pm_forest.specs.Rules.{past_from}
use Rattle.pm_forest.specs.Rules.{past_fault}
use Rattle.pm_forest.proofs.Corners.{corner_a, corner_b, corner_c}
use Rattle.pm_forest.proofs.FaceNumbers.{first_face-mono}
use Rattle.pm_forest.proofs.FaceLists.{length-faces_of}
use Rattle.pm_forest.proofs.FaceLists.{corners_of-faces_of}
use Rattle.pm_forest.proofs.HierarchyLaws.{revealed-base}
use Rattle.pm_forest.proofs.UnitLaws.{BaseFits}
use Rattle.pm_number.specs.Stages.{Run, IsMerging}
use Rattle.pm_number.specs.Shown.{UndoesCollapses}
use Rattle.pm_number.specs.Numbering.{node_number, leaf_number, face_number, hierarchy_of}
use Rattle.pm_number.proofs.FacePositions.{face-back, corners}
use Rattle.pm_number.proofs.RunCounts.{face-count}
use Rattle.pm_number.proofs.Undoing.{undoes}
use Rattle.pm_number.proofs.Whole.{numbered}
use Rattle.pm_number.proofs.UnitsPass.{unused-from, face_input_pass, base_pass}

module _ (r : Run) (run : IsMerging r) (few : r.net.faces ≤ 1048576) where
  abbrev h : Hierarchy
  h = hierarchy_of r

  pub undone : UndoesCollapses (hierarchy_of r)
  undone = undoes r (hierarchy_of r) (node_number r) (leaf_number r) (face_number r) run
      (numbered r run)

  -- each face has the number of an input face
  input-is : (f : ℕ) → f < face_count (hierarchy_of r) → (g : ℕ) × (g < r.net.faces)
      × (face_number r g ≡ f) × ((corners_of (hierarchy_of r) f).input ≡ g + 1)
  input-is f l =
      let (g, g_lt, is) = face-back r run f l in (
        g,
        g_lt,
        is,
        ap (λ n. (corners_of h n).input) (sym is)
            ∙ ap (λ (x : Face). x.input) (corners r run g g_lt),
      )

  -- the next face after the first faces has a number that none of them has
  pub fresh_face : (f : ℕ) (fs more : List Face) → f < face_count (hierarchy_of r) → length fs ≤ f
      → faces_of (hierarchy_of r) ≡ fs ++ more →
      face_input_is_bad (face_inputs fs) (corners_of (hierarchy_of r) f).input ≡ false
  fresh_face f fs more l older is =
      let (g, g_lt, g_is, number) = input-is f l in
      let all = face-count r run in
      let len = length-map fs (λ (x : Face). x.input) in
      face_input_pass (face_inputs fs) (corners_of h f).input (omega arith) (omega arith)
      (unused-from (face_inputs fs) (corners_of h f).input (λ k m same.
      let (j, j_lt, j_is, other) = input-is k (omega arith) in
      let read : get_or (face_inputs fs) k 0 ≡ (corners_of h k).input =
      get_or-map (λ (x : Face). x.input) fs k no_face_corners 0 (omega arith)
      ∙ ap (λ (x : Face). x.input) (sym (get_or_append_left fs more no_face_corners k (omega arith))
      ∙ ap (λ (xs : List Face). get_or xs k no_face_corners) (sym is)
      ∙ sym (corners_of-faces_of h k (omega arith))) in
      let one : j ≡ g = omega arith in
      let face = ap (face_number r) one in
      omega arith))

  pub corners_inside : (f : ℕ) → f < face_count (hierarchy_of r) →
      ((corners_of (hierarchy_of r) f).a < leaf_count (hierarchy_of r))
      × ((corners_of (hierarchy_of r) f).b < leaf_count (hierarchy_of r))
      × ((corners_of (hierarchy_of r) f).c < leaf_count (hierarchy_of r))
  corners_inside f l =
      let leaf = undone.shape.faces.leaves in
      let a = corner_a h f in
      let b = corner_b h f in
      let c = corner_c h f in (
        subst (λ n. n < leaf_count h) a.0 (leaf (3 * f) (omega arith)),
        subst (λ n. n < leaf_count h) b.0 (leaf (3 * f + 1) (omega arith)),
        subst (λ n. n < leaf_count h) c.0 (leaf (3 * f + 2) (omega arith)),
      )

  -- Base faces

  base-is : (j : ℕ) → j < length (hierarchy_of r).bases
      → get_or (hierarchy_of r).bases j no_face_corners ≡ corners_of (hierarchy_of r) j
  unfolding faces_of first_face
  base-is j l =
      let all = first_face-mono h 0 (record_count h) (omega arith) in
      sym (get_or_append_left h.bases (flat_map faces_in h.records) no_face_corners j l)
      ∙ sym (corners_of-faces_of h j (omega arith))

  pub base_fits : (j : ℕ) → j < length (hierarchy_of r).bases →
      base_fault (hierarchy_of r).roots (take j (hierarchy_of r).bases)
      (get_or (hierarchy_of r).bases j no_face_corners) ≡ None
  unfolding faces_of first_face
  base_fits j l =
      let all = first_face-mono h 0 (record_count h) (omega arith) in
      let there : j < face_count h = omega arith in
      let none = (revealed-base h j there).1 l in
      let inside = corners_inside j there in
      let apart = undone.shape.faces.base in
      let a = corner_a h j in
      let b = corner_b h j in
      let c = corner_c h j in
      let face0 : face_of (3 * j) ≡ j = omega arith in
      let face1 : face_of (3 * j + 1) ≡ j = omega arith in
      let face2 : face_of (3 * j + 2) ≡ j = omega arith in
      let own : (e : ℕ) → face_of e ≡ j → revealed_by h (face_of e) ≡ None =
      λ e is. ap (revealed_by h) is ∙ none in
      let fits : BaseFits h.roots (corners_of h j) = record {
        a = inside.0;
        b = inside.1;
        c = inside.2;
        ab = rw (a.1, a.0, b.0) at (apart (3 * j) (omega arith) (own (3 * j) face0));
        bc = rw (b.1, b.0, c.0) at (apart (3 * j + 1) (omega arith) (own (3 * j + 1) face1));
        ca = rw (c.1, c.0, a.0) at (apart (3 * j + 2) (omega arith) (own (3 * j + 2) face2));
      } in
      let split : faces_of h ≡ take j h.bases ++ (drop j h.bases ++ flat_map faces_in h.records) =
      ap (λ bs. bs ++ flat_map faces_in h.records) (sym (take-append-drop j h.bases))
      ∙ append_assoc (take j h.bases) (drop j h.bases) (flat_map faces_in h.records) in
      rw (base-is j l) (base_pass h.roots (take j h.bases) (corners_of h j) fits
      (fresh_face j (take j h.bases) (drop j h.bases ++ flat_map faces_in h.records) there
      (let len = length-take-le j h.bases (omega arith) in omega arith) split))

  -- The end

  none_past : (g : Hierarchy) (f : ℕ) (fs : List Face)
      → ((k : ℕ) → k < length fs → (get_or fs k no_face_corners).input ≤ face_count g)
      → past_from g f fs ≡ None
  none_past g f [] below = refl
  none_past g f (x ∷ fs) below =
      cond-false (ltb (face_count g) x.input) _ _
      (le-ltb (face_count g) x.input (below 0 (omega arith)))
      ∙ none_past g (f + 1) fs (λ k l. below (suc k) (omega arith))

  pub past_fits : past_fault (hierarchy_of r) ≡ None
  unfolding past_fault
  past_fits =
      none_past h 0 (faces_of h) (λ k l.
      let there : k < face_count h = omega (arith, length-faces_of h) in
      let (g, g_lt, is, number) = input-is k there in
      let all = face-count r run in
      let read = ap (λ (x : Face). x.input) (corners_of-faces_of h k there) in
      omega arith)
