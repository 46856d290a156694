-- The faces of the records of a run's hierarchy pass the rules of shape.
use Rattle.std.proofs.lemmas.Grind.{common_steps}
use Rattle.std.proofs.Common.{suc, ◌≡◌, ℕ, ◌+◌, ◌*◌, ◌<◌, ◌≤◌, Bool, true, false, cond}
use Rattle.std.proofs.Common.{not, ◌&&◌, [], ◌∷◌, ◌++◌, length, take, drop, Option}
use Rattle.std.proofs.Common.{None, Some, is_some, inl, inr, refl, sym, ap, ◌∙◌, subst, arith}
use Rattle.std.proofs.Common.{append_assoc}
use Rattle.std.specs.List.{flat_map}
use Rattle.std.proofs.lemmas.Bool.{cases_Bool, ne_eqb, le-ltb, lt-leb, or_left, or_right, and_from}
use Rattle.std.proofs.lemmas.Bool.{and_left, and_right, not_from_false}
use Rattle.std.proofs.lemmas.List.{append-nil, length-append}
use Rattle.std.proofs.lemmas.List.{take-append-drop, drop_more}
use Rattle.std.proofs.lemmas.Grind.{flat_map-append}
use Rattle.pm_base.specs.Counts.{one_if}
use Rattle.pm_base.specs.Sides.{face_of, next}
use Rattle.pm_base.specs.declared.ids.Side.{Side}
use Rattle.pm_forest.specs.declared.parts.NewFace.{NewFace}
use Rattle.pm_forest.specs.Forest.{Hierarchy, record_at, record_count, no_record, leaf_count, s_of}
use Rattle.pm_forest.specs.Forest.{t_of, u_of, holds, interval_of, HasForestShape}
use Rattle.pm_forest.specs.Faces.{face_in, faces_in, faces_of, first_face}
use Rattle.pm_forest.specs.Faces.{face_count, is_left, corners_of, from_leaf, to_leaf}
use Rattle.pm_forest.specs.Faces.{inner_of}
use Rattle.pm_forest.specs.Moves.{side_in, neighbours_in, neighbours_of}
use Rattle.pm_forest.specs.Rules.{face_inputs, face_input_is_bad, runs, new_face_is_bad}
use Rattle.pm_forest.specs.Rules.{new_face_fault, bare, left_only, with_record, word_of}
use Rattle.pm_forest.proofs.Prefix.{cut, faces_of-with_record}
use Rattle.pm_forest.proofs.Sides.{inner-face}
use Rattle.pm_forest.proofs.Corners.{corner_a, corner_b, corner_c, which_corner, AreAlong}
use Rattle.pm_forest.proofs.FaceNumbers.{first_face-mono, revealed-from}
use Rattle.pm_forest.proofs.FaceLists.{length-face_in, length-faces_of_cut}
use Rattle.pm_forest.proofs.NewFaces.{runs_as, coming_count, coming_s, coming_interval}
use Rattle.pm_forest.proofs.NewFaces.{coming_first_face, coming_face_count}
use Rattle.pm_forest.proofs.ShapeLaws.{left_corners, right_corners, left_from}
use Rattle.pm_beyond.proofs.Distinct.{In, in-here, in-append_left, in-append_right}
use Rattle.pm_beyond.proofs.Neighbours.{recorded-has}
use Rattle.pm_number.specs.Stages.{Run, IsMerging}
use Rattle.pm_number.specs.Numbering.{hierarchy_of}
use Rattle.pm_number.proofs.FaceFitting.{undone, fresh_face, corners_inside}
use Rattle.pm_number.proofs.RunCounts.{face-count}

-- A face at the new edge of record k, whose corners are leaves and whose neighbours are older.
pub record IsNewFace (h : Hierarchy) (k : ℕ) (left : Bool) (n : NewFace) : Type 0 where
  pub corners : (n.face.a < leaf_count h) × (n.face.b < leaf_count h) × (n.face.c < leaf_count h)
  pub run : runs (interval_of h (cond left (t_of h k) (u_of h k)))
      (interval_of h (cond left (u_of h k) (t_of h k))) (interval_of h (s_of h k)) n.face ≡ true
  pub first : word_of n.first ≤ 3 * first_face h k
  pub second : word_of n.second ≤ 3 * first_face h k

-- Record k with other faces: those that have come so far.
abbrev pub with_faces : Hierarchy → ℕ → Option NewFace → Option NewFace → Hierarchy
with_faces h k a b = with_record (cut h k) (record (record_at h k) { left = a; right = b })

-- a new face of record k passes where its input number does
new_face_pass : {h : Hierarchy} {k : ℕ} {left : Bool} {n : NewFace} (a b : Option NewFace)
    → HasForestShape h → k < record_count h → IsNewFace h k left n
    → face_count (with_faces h k a b) < 1048576
    → face_input_is_bad (face_inputs (faces_of (with_faces h k a b))) n.face.input ≡ false →
    new_face_fault (with_faces h k a b) left n.face (word_of n.first) (word_of n.second) ≡ None
unfolding new_face_fault new_face_is_bad s_of
new_face_pass {h} {k} {left} {n} a b nodes l new few input =
    grind (
      arith,
      common_steps,
      coming_count,
      coming_first_face,
      coming_interval,
      coming_s,
      cut,
      le-ltb,
      lt-leb,
      runs_as,
    )

-- a face that has a side along is one that runs so
runs_from_side : (h : Hierarchy) (p q s f i : ℕ) → face_of i ≡ f
    → AreAlong h p q s (from_leaf h i) (to_leaf h i) (from_leaf h (next (next i))) →
    runs (interval_of h p) (interval_of h q) (interval_of h s) (corners_of h f) ≡ true
unfolding runs holds
runs_from_side h p q s f i is along =
    let a = corner_a h f in
    let b = corner_b h f in
    let c = corner_c h f in
    let passes : (x y z : ℕ) → AreAlong h p q s x y z
    → holds h p x && holds h q y && not (holds h s z) ≡ true = λ x y z w.
    and_from _ _ (and_from _ _ w.0 w.1) (not_from_false (holds h s z) w.2) in
    elim (which_corner i) [
      | inl at ↦
          let here : i ≡ 3 * f = omega arith in
          or_left _ _ (or_left _ _ (passes _ _ _ (rw (here, a.1, b.1, a.0, b.0, c.0) at along)))
      | inr later ↦ elim later [
        | inl at ↦
            let here : i ≡ 3 * f + 1 = omega arith in
            or_left _ _ (or_right _ _ (passes _ _ _ (rw (here, b.1, c.1, b.0, c.0, a.0) at along)))
        | inr at ↦
            let here : i ≡ 3 * f + 2 = omega arith in
            or_right _ _ (passes _ _ _ (rw (here, c.1, a.1, c.0, a.0, b.0) at along))
      ]
    ]

-- the faces before record k, its own, and those after it
faces_split : (h : Hierarchy) (k : ℕ) → k < record_count h →
    faces_of h ≡ faces_of (cut h k)
    ++ (faces_in (record_at h k) ++ flat_map faces_in (drop (k + 1) h.records))
unfolding faces_of
faces_split h k l =
    ap (λ rs. h.bases ++ flat_map faces_in rs) (sym (take-append-drop k h.records)
    ∙ ap (λ rs. take k h.records ++ rs) (drop_more h.records k no_record l))
    ∙ ap (λ fs. h.bases ++ fs)
    (flat_map-append faces_in (take k h.records) (record_at h k ∷ drop (k + 1) h.records))
    ∙ sym (append_assoc h.bases (flat_map faces_in (take k h.records)) (faces_in (record_at h k)
    ++ flat_map faces_in (drop (k + 1) h.records)))

module _ (r : Run) (run : IsMerging r) (few : r.net.faces ≤ 1048576) where
  abbrev h : Hierarchy
  h = hierarchy_of r

  word_older : (k : ℕ) → k < record_count (hierarchy_of r) → (o : Option Side)
      → ((b : ℕ) → In b (side_in o) → In b (neighbours_of (record_at (hierarchy_of r) k))) →
      word_of o ≤ 3 * first_face (hierarchy_of r) k
  word_older k l None within = omega arith
  word_older k l (Some e) within =
      let w = recorded-has h k e.0 l (within e.0 (in-here e.0 [])) in
      let low = (undone r run few).older w.side k e.0 w.is_side w.outer w.expects in
      omega arith

  -- the face of record k that has number f is new
  is_new : {k f : ℕ} {n : NewFace} (left : Bool) → k < record_count (hierarchy_of r)
      → f < face_count (hierarchy_of r) → corners_of (hierarchy_of r) f ≡ n.face →
      (let g = hierarchy_of r in
      runs (interval_of g (cond left (t_of g k) (u_of g k)))
      (interval_of g (cond left (u_of g k) (t_of g k))) (interval_of g (s_of g k)) (corners_of g f)
      ≡ true) →
      ((b : ℕ) → In b (side_in n.first ++ side_in n.second)
      → In b (neighbours_of (record_at (hierarchy_of r) k))) →
      IsNewFace (hierarchy_of r) k left n
  is_new {k} {f} {n} left l f_lt face run_so beside = record {
    corners = rw face at (corners_inside r run few f f_lt);
    run = rw face at run_so;
    first = word_older k l n.first
        (λ b m. beside b (in-append_left b (side_in n.first) (side_in n.second) m));
    second = word_older k l n.second
        (λ b m. beside b (in-append_right b (side_in n.first) (side_in n.second) m));
  }

  pub left_fits : (k : ℕ) → k < record_count (hierarchy_of r) → (n : NewFace)
      → (record_at (hierarchy_of r) k).left ≡ Some n →
      new_face_fault (with_record (cut (hierarchy_of r) k) (bare (record_at (hierarchy_of r) k)))
      true n.face (word_of n.first) (word_of n.second) ≡ None
  unfolding first_face s_of
  left_fits k l n is =
      let x = record_at h k in
      let nodes = (undone r run few).shape.forest in
      let f = first_face h k in
      let there : is_some x.left ≡ true = ap is_some is in
      let one : one_if (is_some x.left) ≡ 1 = ap one_if there in
      let next_first : first_face h (suc k)
      ≡ f + one_if (is_some x.left) + one_if (is_some x.right) = refl in
      let top = first_face-mono h (suc k) (record_count h) l in
      let f_lt : f < face_count h = omega arith in
      let all = face-count r run in
      let own = revealed-from h f k l (omega arith) (omega arith) in
      let left = left_from h k f there refl in
      let face = left_corners h f k n own left is in
      let along = (undone r run few).shape.faces.left f k f_lt own left in
      let run_so =
      runs_from_side h (t_of h k) (u_of h k) (s_of h k) f (inner_of h k f) (inner-face h k f)
      along in
      let near : (b : ℕ) → In b (neighbours_in x.left) → In b (neighbours_of x) =
      λ b m. in-append_left b (neighbours_in x.left) (neighbours_in x.right) m in
      let of_n : (b : ℕ) → In b (side_in n.first ++ side_in n.second) → In b (neighbours_of x) =
      λ b m. near b (subst (λ o. In b (neighbours_in o)) (sym is) m) in
      let before = faces_of-with_record (cut h k) (bare x) in
      let plain : faces_of (with_record (cut h k) (bare x)) ≡ faces_of (cut h k) =
      before ∙ append-nil (faces_of (cut h k)) in
      let count = coming_face_count h nodes k l (bare x) refl refl in
      let len = length-faces_of_cut h k (omega arith) in
      new_face_pass None None nodes l (is_new true l f_lt face run_so of_n) (omega arith)
      (rw plain (rw face at
      (fresh_face r run few f (faces_of (cut h k)) _ f_lt (omega arith) (faces_split h k l))))

  pub right_fits : (k : ℕ) → k < record_count (hierarchy_of r) → (n : NewFace)
      → (record_at (hierarchy_of r) k).right ≡ Some n →
      new_face_fault
      (with_record (cut (hierarchy_of r) k) (left_only (record_at (hierarchy_of r) k))) false
      n.face (word_of n.first) (word_of n.second) ≡ None
  unfolding first_face s_of is_left
  right_fits k l n is =
      let x = record_at h k in
      let nodes = (undone r run few).shape.forest in
      let f = first_face h k + one_if (is_some x.left) in
      let there : is_some x.right ≡ true = ap is_some is in
      let one : one_if (is_some x.right) ≡ 1 = ap one_if there in
      let next_first : first_face h (suc k) ≡ first_face h k + one_if (is_some x.left) + one_if
      (is_some x.right) = refl in
      let top = first_face-mono h (suc k) (record_count h) l in
      let f_lt : f < face_count h = omega arith in
      let all = face-count r run in
      let own = revealed-from h f k l (omega arith) (omega arith) in
      let left : is_left h k f ≡ false = elim (cases_Bool (is_some x.left)) [
        | inl a ↦ (let some : one_if (is_some x.left) ≡ 1 =
            ap one_if a in
            and_right (is_some x.left) _ (ne_eqb f (first_face h k) (λ e. omega arith)))
        | inr a ↦ and_left (is_some x.left) _ a
      ] in
      let face = right_corners h f k n own left is in
      let along = (undone r run few).shape.faces.right f k f_lt own left in
      let run_so =
      runs_from_side h (u_of h k) (t_of h k) (s_of h k) f (inner_of h k f) (inner-face h k f)
      along in
      let near : (b : ℕ) → In b (neighbours_in x.right) → In b (neighbours_of x) =
      λ b m. in-append_right b (neighbours_in x.left) (neighbours_in x.right) m in
      let of_n : (b : ℕ) → In b (side_in n.first ++ side_in n.second) → In b (neighbours_of x) =
      λ b m. near b (subst (λ o. In b (neighbours_in o)) (sym is) m) in
      let before : faces_of (with_record (cut h k) (left_only x)) ≡ faces_of (cut h k)
      ++ face_in x.left =
      faces_of-with_record (cut h k) (left_only x)
      ∙ ap (λ fs. faces_of (cut h k) ++ fs) (append-nil (face_in x.left)) in
      let rest = face_in x.right ++ flat_map faces_in (drop (k + 1) h.records) in
      let split : faces_of h ≡ (faces_of (cut h k) ++ face_in x.left) ++ rest =
      faces_split h k l
      ∙ ap (λ fs. faces_of (cut h k) ++ fs)
      (append_assoc (face_in x.left) (face_in x.right)
      (flat_map faces_in (drop (k + 1) h.records)))
      ∙ sym (append_assoc (faces_of (cut h k)) (face_in x.left) rest) in
      let count = coming_face_count h nodes k l (left_only x) refl refl in
      let len : length (faces_of (cut h k) ++ face_in x.left) ≤ f =
      (let a = length-append (faces_of (cut h k)) (face_in x.left) in let b =
      length-faces_of_cut h k (omega arith) in let d = length-face_in x.left in omega arith) in
      new_face_pass x.left None nodes l (is_new false l f_lt face run_so of_n) (omega arith)
      (rw before (rw face at
      (fresh_face r run few f (faces_of (cut h k) ++ face_in x.left) rest f_lt len split)))
