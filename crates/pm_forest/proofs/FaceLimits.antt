-- How many faces there are, and which numbers of input faces and of neighbours they have.
use Rattle.std.proofs.Common.{◌≡◌, ℕ, zero, suc, ◌+◌, ◌*◌, ◌<◌, ◌≤◌, List, [], ◌∷◌}
use Rattle.std.proofs.lemmas.Grind.{common_steps}
use Rattle.std.proofs.Common.{All, Option, None, Some, is_some, inl, inr, refl, ap, arith}
use Rattle.std.proofs.lemmas.Bool.{cases_Bool, ltb-false}
use Rattle.std.proofs.lemmas.List.Elements.{All-nil, All-cons, All-append, All-get_or}
use Rattle.pm_base.specs.declared.ids.Side.{Side}
use Rattle.pm_base.specs.Counts.{one_if}
use Rattle.pm_base.proofs.Search.{some_from}
use Rattle.pm_forest.specs.declared.parts.Face.{Face}
use Rattle.pm_forest.specs.declared.parts.NewFace.{NewFace}
use Rattle.pm_forest.specs.Forest.{Hierarchy, record_at, record_count, leaf_count, interval_of}
use Rattle.pm_forest.specs.Faces.{faces_of, first_face, face_count, corners_of}
use Rattle.pm_forest.specs.Rules.{word_of, past_from, past_fault, HasShape}
use Rattle.pm_forest.specs.Tables.{IsSingle, leaf_node_of}
use Rattle.pm_forest.specs.Moves.{side_in, neighbours_in, neighbours_of}
use Rattle.pm_forest.proofs.UnitLaws.{passed}
use Rattle.pm_forest.proofs.FaceLists.{length-faces_of, corners_of-faces_of}
use Rattle.pm_forest.proofs.Counting.{leaf_nodes_are_single}
use Rattle.pm_forest.proofs.ShapeLaws.{base_count-le, left_fits, record_count-roots, right_fits}
use Rattle.pm_forest.proofs.ShapeLaws.{roots_wide, shape_of_nodes}

-- Numbers of faces

pub first_face-most : (h : Hierarchy) → HasShape h → (k : ℕ) → k ≤ record_count h
    → first_face h k ≤ 1048576
unfolding first_face
first_face-most h shape zero l = base_count-le h shape
first_face-most h shape (suc k) l =
    let before = first_face-most h shape k (omega arith) in
    let r = record_at h k in
    elim (cases_Bool (is_some r.right)) [
      | inl there ↦ (let (n, is) = some_from r.right there in
          omega (arith, (right_fits h shape k l n is).1, ap one_if there))
      | inr none ↦ elim (cases_Bool (is_some r.left)) [
        | inl there ↦ (let (n, is) = some_from r.left there in
            omega (arith, (left_fits h shape k l n is).1, ap one_if there, ap one_if none))
        | inr neither ↦ omega (arith, before, ap one_if neither, ap one_if none)
      ]
    ]

pub face_count-most : (h : Hierarchy) → HasShape h → face_count h ≤ 1048576
face_count-most h shape = first_face-most h shape (record_count h) (omega arith)

side_older : (limit : ℕ) (o : Option Side) → word_of o ≤ limit → All (λ e. e < limit) (side_in o)
side_older limit None l = All-nil (λ e. e < limit)
side_older limit (Some e) l =
    All-cons (λ e. e < limit) e.0 [] (omega arith) (All-nil (λ e. e < limit))

neighbours_older : (limit : ℕ) (o : Option NewFace) →
    ((n : NewFace) → o ≡ Some n → (word_of n.first ≤ limit) × (word_of n.second ≤ limit)) →
    All (λ e. e < limit) (neighbours_in o)
neighbours_older limit None fits = All-nil (λ e. e < limit)
neighbours_older limit (Some n) fits =
    let both = fits n refl in
    All-append (λ e. e < limit) (side_in n.first) (side_in n.second)
    (side_older limit n.first both.0) (side_older limit n.second both.1)

-- the neighbours that record k names are sides of faces before it
pub neighbours_of-older : (h : Hierarchy) → HasShape h → (k : ℕ) → k < record_count h →
    All (λ e. e < 3 * first_face h k) (neighbours_of (record_at h k))
neighbours_of-older h shape k l =
    let r = record_at h k in
    let limit = 3 * first_face h k in
    All-append (λ e. e < limit) (neighbours_in r.left) (neighbours_in r.right)
    (neighbours_older limit r.left (λ n is. let fits = left_fits h shape k l n is in
    (fits.0.first_older, fits.0.second_older)))
    (neighbours_older limit r.right (λ n is. let fits = right_fits h shape k l n is in
    (fits.0.first_older, fits.0.second_older)))

inputs_from : (h : Hierarchy) (f : ℕ) (fs : List Face) → past_from h f fs ≡ None →
    All (λ (x : Face). x.input ≤ face_count h) fs
inputs_from h f [] none = All-nil (λ (x : Face). x.input ≤ face_count h)
inputs_from h f (x ∷ fs) none =
    grind (arith, common_steps, All-cons, ltb-false, passed, inputs_from h (f + 1) fs)

-- the input numbers of the faces are among as many as there are faces
pub face_inputs-le : (h : Hierarchy) → HasShape h → All (λ f. f.input ≤ face_count h) (faces_of h)
unfolding past_fault
face_inputs-le h shape = inputs_from h 0 (faces_of h) shape.inputs

pub input-le : (h : Hierarchy) → HasShape h → (f : ℕ) → f < face_count h
    → (corners_of h f).input ≤ face_count h
input-le h shape f l =
    grind (arith, common_steps, All-get_or, corners_of-faces_of, face_inputs-le, length-faces_of)

-- Once all records are split each leaf has a node of its own.
pub leaf_nodes_of_shape : (h : Hierarchy) → HasShape h → (x : ℕ) → x < leaf_count h →
    IsSingle (interval_of h (leaf_node_of h x))
leaf_nodes_of_shape h shape x l =
    leaf_nodes_are_single h (shape_of_nodes h shape) (roots_wide h shape)
    (record_count-roots h shape) x l
