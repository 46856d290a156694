-- What a front of the first records shows: the same nodes and faces as in the whole.
use Rattle.std.proofs.Common.{◌≡◌, ℕ, zero, suc, ◌+◌, ◌*◌, ◌<◌, ◌≤◌, Bool, false, List, ◌++◌}
use Rattle.std.proofs.Common.{filter, length, inl, inr, refl, sym, ap, ◌∙◌, arith}
use Rattle.std.proofs.lemmas.Bool.{cases_Bool, cases_lt}
use Rattle.std.specs.List.{flat_map, range_with_len}
use Rattle.pm_base.specs.Counts.{numbers_below}
use Rattle.pm_base.specs.Sides.{face_of}
use Rattle.pm_base.proofs.Search.{option_cases}
use Rattle.pm_forest.specs.Forest.{Hierarchy, record_count, node_count}
use Rattle.pm_forest.specs.Fronts.{IsFront, is_active, ancestor_of}
use Rattle.pm_forest.specs.Faces.{first_face, face_count, revealed_by, from_leaf}
use Rattle.pm_forest.specs.Kept.{is_kept}
use Rattle.pm_forest.specs.Rules.{HasShape}
use Rattle.pm_forest.proofs.FaceNumbers.{first_face-mono, revealed-parts}
use Rattle.pm_forest.proofs.HierarchyLaws.{revealed-base}
use Rattle.pm_forest.proofs.ShapeLaws.{shape_of_faces, shape_is_forest}
use Rattle.pm_forest.proofs.Shown.{kept-shown, shown_record}
use Rattle.pm_front.specs.Shown.{active_nodes, kept_faces}
use Rattle.pm_front.proofs.Counting.{passing_gap}
use Rattle.pm_frame.specs.Frame.{head_line, node_line, end_line, shown_node}
use Rattle.pm_frame.specs.Frame.{shown_face, node_lines, face_lines, frame_text}
use Rattle.pm_prefix.specs.Prefix.{first_records}
use Rattle.pm_prefix.specs.Laws.{IsAmong}
use Rattle.pm_prefix.proofs.Nodes.{nodes_of_shape}
use Rattle.pm_prefix.proofs.Parts.{node_count-first, place_of_node-first}
use Rattle.pm_prefix.proofs.FirstFaces.{face_count-first, from_leaf-first}
use Rattle.pm_prefix.proofs.FirstFronts.{later_unsplit, ancestor_of-first, front_of-first}
use Rattle.pm_prefix.proofs.FirstFronts.{is_active-first, later_inactive}

-- Two tests that agree on consecutive numbers pass the same of them,
same_numbers : (p q : ℕ → Bool) (a n : ℕ) → ((x : ℕ) → a ≤ x → x < a + n → p x ≡ q x)
    → filter p (range_with_len a n) ≡ filter q (range_with_len a n)
same_numbers p q a zero same = refl
same_numbers p q a (suc n) same =
    rw (
      same a (omega arith) (omega arith),
      same_numbers p q (a + 1) n (λ x low high. same x (omega arith) (omega arith)),
    ) refl

-- and the same lines come of those that pass.
same_lines : (f g : ℕ → List ℕ) (p : ℕ → Bool) (a n : ℕ)
    → ((x : ℕ) → a ≤ x → x < a + n → f x ≡ g x)
    → flat_map f (filter p (range_with_len a n)) ≡ flat_map g (filter p (range_with_len a n))
same_lines f g p a zero same = refl
same_lines f g p a (suc n) same =
    let rest = same_lines f g p (a + 1) n (λ x low high. same x (omega arith) (omega arith)) in
    elim (cases_Bool (p a)) [
      | inl e ↦ (rw (e, same a (omega arith) (omega arith), rest) refl)
      | inr e ↦ (rw (e, rest) refl)
    ]

module _ (h : Hierarchy) (shape : HasShape h) (n : ℕ) (l : n ≤ record_count h) (T : ℕ → Bool)
    (among : IsAmong n T) (front : IsFront (first_records h n) T) where
  abbrev first : Hierarchy
  first = first_records h n

  -- a corner keeps its ancestor
  corner-first : (e : ℕ) → e < 3 * first_face h n
      → ancestor_of first T (from_leaf first e) ≡ ancestor_of h T (from_leaf h e)
  corner-first e m =
      let all = first_face-mono h n (record_count h) l in
      let leaf = (shape_of_faces h shape).leaves e (omega arith) in
      ap (ancestor_of first T) (from_leaf-first h n l e m)
      ∙ ancestor_of-first h (nodes_of_shape h shape) n l T among (from_leaf h e) leaf

  is_kept-first : (f : ℕ) → f < first_face h n → is_kept first T f ≡ is_kept h T f
  unfolding is_kept
  is_kept-first f m =
      rw (
        corner-first (3 * f) (omega arith),
        corner-first (3 * f + 1) (omega arith),
        corner-first (3 * f + 2) (omega arith),
      ) refl

  -- no later face is kept
  later_hidden : (f : ℕ) → first_face h n ≤ f → f < face_count h → is_kept h T f ≡ false
  unfolding first_face
  later_hidden f m lt =
      let whole = front_of-first h (nodes_of_shape h shape) n l T among front in
      let shown = kept-shown h (shape_is_forest h shape) T whole f lt in
      let face : face_of (3 * f) ≡ f = omega arith in
      let bases = first_face-mono h 0 n (omega arith) in
      elim (option_cases (revealed_by h f)) [
        | inl none ↦ (let base = (revealed-base h f lt).0 none in absurd (omega arith))
        | inr (k, e) ↦
            let parts = revealed-parts h f k lt e in
            let later : n ≤ k = elim (cases_lt k n) [
              | inl a ↦ (let high = first_face-mono h (suc k) n a in absurd (omega arith))
              | inr a ↦ a
            ] in
            shown ∙ shown_record h T (3 * f) k (ap (revealed_by h) face ∙ e)
            ∙ later_unsplit h (nodes_of_shape h shape) n l T among k later
      ]

  same_nodes : active_nodes first T ≡ active_nodes h T
  same_nodes =
      let nodes = nodes_of_shape h shape in
      let count = length h.roots + 2 * n in
      ap (λ m. filter (is_active first T) (numbers_below m)) (node_count-first h n)
      ∙ same_numbers (is_active first T) (is_active h T) 0 count
      (λ v low high. is_active-first h nodes n l T among v (omega arith))
      ∙ sym (passing_gap (is_active h T) count (node_count h) (omega arith)
      (λ v low high. later_inactive h nodes n l T among v low high))

  same_faces : kept_faces first T ≡ kept_faces h T
  same_faces =
      let count = first_face h n in
      let all = first_face-mono h n (record_count h) l in
      ap (λ m. filter (is_kept first T) (numbers_below m)) (face_count-first h n)
      ∙ same_numbers (is_kept first T) (is_kept h T) 0 count
      (λ f low high. is_kept-first f (omega arith))
      ∙ sym (passing_gap (is_kept h T) count (face_count h) all
      (λ f low high. later_hidden f low high))

  same_node_lines : node_lines first T ≡ node_lines h T
  same_node_lines =
      ap (λ m. flat_map (shown_node first) (filter (is_active first T) (numbers_below m)))
      (node_count-first h n)
      ∙ same_lines (shown_node first) (shown_node h) (is_active first T) 0
      (length h.roots + 2 * n)
      (λ v low high. ap (node_line v) (place_of_node-first h n v (omega arith)))
      ∙ ap (λ m. flat_map (shown_node h) (filter (is_active first T) (numbers_below m)))
      (sym (node_count-first h n))
      ∙ ap (flat_map (shown_node h)) same_nodes

  shown_face-first : (f : ℕ) → f < first_face h n → shown_face first T f ≡ shown_face h T f
  shown_face-first f m =
      rw (
        corner-first (3 * f) (omega arith),
        corner-first (3 * f + 1) (omega arith),
        corner-first (3 * f + 2) (omega arith),
      ) refl

  same_face_lines : face_lines first T ≡ face_lines h T
  same_face_lines =
      ap (λ m. flat_map (shown_face first T) (filter (is_kept first T) (numbers_below m)))
      (face_count-first h n)
      ∙ same_lines (shown_face first T) (shown_face h T) (is_kept first T) 0 (first_face h n)
      (λ f low high. shown_face-first f (omega arith))
      ∙ ap (λ m. flat_map (shown_face h T) (filter (is_kept first T) (numbers_below m)))
      (sym (face_count-first h n))
      ∙ ap (flat_map (shown_face h T)) same_faces

  pub same_frame : frame_text first T ≡ frame_text h T
  unfolding frame_text
  same_frame =
      ap (λ vs. head_line (length vs) (length (kept_faces first T)) ++ node_lines first T
      ++ face_lines first T ++ end_line) same_nodes
      ∙ ap (λ fs. head_line (length (active_nodes h T)) (length fs) ++ node_lines first T
      ++ face_lines first T ++ end_line) same_faces
      ∙ ap (λ text. head_line (length (active_nodes h T)) (length (kept_faces h T)) ++ text
      ++ face_lines first T ++ end_line) same_node_lines
      ∙ ap (λ text. head_line (length (active_nodes h T)) (length (kept_faces h T))
      ++ node_lines h T ++ text ++ end_line) same_face_lines
