-- The text of a change, and the frame that a viewer comes to.
use Rattle.std.proofs.Common.{◌≡◌, ℕ, Bool, List, [], ◌∷◌, ◌++◌, map, filter, refl, sym, ap, ◌∙◌}
use Rattle.std.specs.List.{flat_map}
use Rattle.pm_base.specs.Counts.{numbers_below}
use Rattle.pm_forest.specs.Forest.{Hierarchy, node_count}
use Rattle.pm_forest.specs.Faces.{face_count}
use Rattle.pm_front.specs.Shown.{active_nodes, kept_faces}
use Rattle.pm_frame.specs.Frame.{frame_text, end_line}
use Rattle.pm_morph.specs.Laws.{shown_face_at}
use Rattle.pm_change.specs.Shown.{shown_node_at}
use Rattle.pm_change.specs.Changes.{is_new_node, is_put, new_nodes}
use Rattle.pm_change.specs.Texts.{change_text, line_of_node, line_of_face, first_change_line}
use Rattle.pm_change.specs.Texts.{gone_face_lines, gone_node_lines, put_face_lines, text_of}
use Rattle.pm_change.specs.Laws as laws
use Rattle.pm_change.proofs.Counting.{length-map}
use Rattle.pm_change.proofs.ChangeLaws.{there}

flat_map-map : {A : Type 0} (line : A → List ℕ) (f : ℕ → A) (l : List ℕ)
    → flat_map line (map f l) ≡ flat_map (λ i. line (f i)) l
flat_map-map line f [] = refl
flat_map-map line f (x ∷ xs) = ap (λ (rest : List ℕ). line (f x) ++ rest) (flat_map-map line f xs)

pub texts : laws.TextsTellChanges
unfolding change_text
texts h S G =
    let nodes = flat_map-map line_of_node (shown_node_at h)
    (filter (is_new_node h S G) (numbers_below (node_count h))) in
    let faces = flat_map-map line_of_face (shown_face_at h G)
    (filter (is_put h S G) (numbers_below (face_count h))) in
    ap (λ (l : List ℕ). first_change_line h G ++ gone_face_lines h S G ++ gone_node_lines h S G ++
    l ++ put_face_lines h S G ++ end_line) (sym nodes)
    ∙ ap (λ (l : List ℕ). first_change_line h G ++ gone_face_lines h S G ++ gone_node_lines h S G
    ++ flat_map line_of_node (new_nodes h S G) ++ l ++ end_line) (sym faces)

frame_is : (h : Hierarchy) (G : ℕ → Bool) → text_of (laws.mesh_of h G) ≡ frame_text h G
unfolding frame_text
frame_is h G =
    let n = length-map (shown_node_at h) (active_nodes h G) in
    let f = length-map (shown_face_at h G) (kept_faces h G) in
    let nodes = flat_map-map line_of_node (shown_node_at h) (active_nodes h G) in
    let faces = flat_map-map line_of_face (shown_face_at h G) (kept_faces h G) in
    rw (n, f, nodes, faces) refl

pub frames : laws.ChangesLeadToFrames
frames h S G = ap text_of (there h S G) ∙ frame_is h G
