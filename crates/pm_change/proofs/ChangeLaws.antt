-- The laws of changes, each from the lemmas on its subject.
use Rattle.std.proofs.Common.{◌≡◌, ℕ, ◌+◌, ◌*◌, ◌<◌, Bool, true, false, not, ◌&&◌, ◌||◌, List, map}
use Rattle.std.proofs.Common.{filter, refl, sym, ap, ◌∙◌, subst, arith}
use Rattle.std.proofs.lemmas.Bool.{and_parts, and_from, or_parts, not-false, not-true, both_ways}
use Rattle.std.proofs.lemmas.Bool.{eq-eqb}
use Rattle.pm_base.specs.Counts.{numbers_below}
use Rattle.pm_forest.specs.Forest.{Hierarchy, node_count}
use Rattle.pm_forest.specs.Fronts.{is_active, ancestor_of}
use Rattle.pm_forest.specs.Faces.{face_count, from_leaf}
use Rattle.pm_forest.specs.Kept.{is_kept}
use Rattle.pm_morph.specs.Laws.{ShownFace, shown_face_at, shown_faces}
use Rattle.pm_change.specs.Shown.{ShownNode, node_number, face_number, shown_node_at, shown_nodes}
use Rattle.pm_change.specs.Changes.{is_gone, is_new_node, is_put, has_moved, has_moved_corner}
use Rattle.pm_change.specs.Changes.{Change, gone_nodes, new_nodes, gone_faces, put_faces, change_of}
use Rattle.pm_change.specs.Applying.{IsIn, applied, put_all, Mesh, changed}
use Rattle.pm_change.specs.Laws as laws
use Rattle.pm_change.proofs.ApplyLaws.{without_gone, with_put}
use Rattle.pm_change.proofs.LeastLaws.{in_passing, map-own, must_go, must_be_put}
use Rattle.pm_change.proofs.CornerLaws.{stays_active, active_stays, moved_corner_new, same_corners}
use Rattle.pm_change.proofs.CornerLaws.{put_moved}

-- The law of a change, over any numbers: p tells what there was, q what there is, and t what is
-- put.
module _ {A : Type 0} (number : A → ℕ) (f g : ℕ → A) (ours : (i : ℕ) → number (f i) ≡ i)
    (own : (i : ℕ) → number (g i) ≡ i) (p q t : ℕ → Bool) where
  leads : (n : ℕ) → ((i : ℕ) → t i ≡ true → q i ≡ true)
      → ((i : ℕ) → q i ≡ true → t i ≡ false → (p i ≡ true) × (f i ≡ g i))
      → applied number (filter (is_gone p q) (numbers_below n))
      (map g (filter t (numbers_below n))) (map f (filter p (numbers_below n)))
      ≡ map g (filter q (numbers_below n))
  leads n now same =
      ap (put_all number (map g (filter t (numbers_below n)))) (without_gone number f ours p q 0 n)
      ∙ with_put number f g ours own (λ i. p i && q i) q t 0 n (λ i e. (and_parts (p i) (q i) e).1)
      now
      (λ i y z. let (w, e) = same i y z in (and_from (p i) (q i) w y, e))

module _ (h : Hierarchy) (S G : ℕ → Bool) where
  pub put_kept : (f : ℕ) → is_put h S G f ≡ true → is_kept h G f ≡ true
  unfolding is_put
  put_kept f e = (and_parts (is_kept h G f) (not (is_kept h S f) || has_moved_corner h S G f) e).0

  unput_same : (f : ℕ) → is_kept h G f ≡ true → is_put h S G f ≡ false → (is_kept h S f ≡ true)
      × (shown_face_at h S f ≡ shown_face_at h G f)
  unfolding is_put
  unput_same f y z =
      let both : not (is_kept h S f) || has_moved_corner h S G f ≡ false = sym (rw y refl) ∙ z in
      let (was, m) = or_parts (not (is_kept h S f)) (has_moved_corner h S G f) both in
      let same = same_corners h S G f m in
      (not-false (is_kept h S f) was, rw (same.a, same.b, same.c) refl)

  faces_there : applied face_number (gone_faces h S G) (put_faces h S G) (shown_faces h S)
      ≡ shown_faces h G
  faces_there = leads face_number (shown_face_at h S) (shown_face_at h G) (λ i. refl) (λ i. refl)
      (is_kept h S) (is_kept h G) (is_put h S G) (face_count h) put_kept unput_same

  new_active : (v : ℕ) → is_new_node h S G v ≡ true → is_active h G v ≡ true
  new_active v e = (and_parts (is_active h G v) (not (is_active h S v)) e).0

  old_same : (v : ℕ) → is_active h G v ≡ true → is_new_node h S G v ≡ false
      → (is_active h S v ≡ true) × (shown_node_at h v ≡ shown_node_at h v)
  old_same v y z = (not-false (is_active h S v) (sym (rw y refl) ∙ z), refl)

  nodes_there : applied node_number (gone_nodes h S G) (new_nodes h S G) (shown_nodes h S)
      ≡ shown_nodes h G
  nodes_there = leads node_number (shown_node_at h) (shown_node_at h) (λ i. refl) (λ i. refl)
      (is_active h S) (is_active h G) (is_new_node h S G) (node_count h) new_active old_same

pub there : laws.ChangesLeadThere
there h S G = ap (λ (ns : List ShownNode). record {
  nodes = ns;
  faces = applied face_number (gone_faces h S G) (put_faces h S G)
      (shown_faces h S);
}) (nodes_there h S G)
    ∙ ap (λ (fs : List ShownFace). record { nodes = shown_nodes h G; faces = fs })
    (faces_there h S G)

pub corners : laws.CornersMoveToNewNodes
corners h shape S G before x l = (
  stays_active h shape S G before x l,
  active_stays h shape S G
      before x l,
)

pub puts : laws.PutsAreAtNewNodes
puts h shape S G before f l = put_moved h S G f
    ∙ ap (λ b. is_kept h G f && b) (moved_corner_new h shape S G before f l)

-- The change is the least one.
module _ (h : Hierarchy) (S G : ℕ → Bool) where
  moved_differs : (e : ℕ) → ancestor_of h S (from_leaf h e) ≡ ancestor_of h G (from_leaf h e)
      → has_moved h S G e ≡ false
  moved_differs e is = rw (eq-eqb _ _ is) refl

  put_differs : (f : ℕ) → is_put h S G f ≡ true → is_kept h S f ≡ true
      → shown_face_at h S f ≡ shown_face_at h G f → ⊥
  unfolding is_put
  put_differs f e was same =
      let a = moved_differs (3 * f) (ap (λ (s : ShownFace). s.a) same) in
      let b = moved_differs (3 * f + 1) (ap (λ (s : ShownFace). s.b) same) in
      let c = moved_differs (3 * f + 2) (ap (λ (s : ShownFace). s.c) same) in
      let m = (and_parts (is_kept h G f) (not (is_kept h S f) || has_moved_corner h S G f) e).1 in
      both_ways (not (is_kept h S f) || has_moved_corner h S G f) (rw (was, a, b, c) refl) m

  module _ (other : Change) (leads : changed other (laws.mesh_of h S) ≡ laws.mesh_of h G) where
    of_nodes : applied node_number other.gone_nodes other.new_nodes (shown_nodes h S)
        ≡ shown_nodes h G
    of_nodes = ap (λ (m : Mesh). m.nodes) leads

    of_faces : applied face_number other.gone_faces other.put_faces (shown_faces h S)
        ≡ shown_faces h G
    of_faces = ap (λ (m : Mesh). m.faces) leads

    passing_own : (t : ℕ → Bool) (n i : ℕ) → IsIn i (filter t (numbers_below n)) → (i < n)
        × (t i ≡ true)
    passing_own t n i e =
        let (j, l, p, is) = in_passing (λ k. k) t 0 n i
        (subst (λ l. IsIn i l) (sym (map-own (filter t (numbers_below n)))) e) in
        (omega (arith, is), subst (λ k. t k ≡ true) (sym is) p)

    within : laws.IsWithin (change_of h S G) other
    within = record {
      gone_faces = λ n e.
          let (l, g) = passing_own (is_gone (is_kept h S) (is_kept h G)) (face_count h) n e in
          let (y, z) = and_parts (is_kept h S n) (not (is_kept h G n)) g in
          must_go face_number (shown_face_at h S) (shown_face_at h G) (λ i. refl) (λ i. refl)
          (is_kept h S) (is_kept h G) (face_count h) other.gone_faces other.put_faces of_faces
          n l y (not-true (is_kept h G n) z);
      gone_nodes = λ n e.
          let (l, g) = passing_own (is_gone (is_active h S) (is_active h G)) (node_count h) n e in
          let (y, z) = and_parts (is_active h S n) (not (is_active h G n)) g in
          must_go node_number (shown_node_at h) (shown_node_at h) (λ i. refl) (λ i. refl)
          (is_active h S) (is_active h G) (node_count h) other.gone_nodes other.new_nodes
          of_nodes n l y (not-true (is_active h G n) z);
      new_nodes = λ x e.
          let (i, l, t, is) = in_passing (shown_node_at h) (is_new_node h S G) 0 (node_count h) x
          e in
          let (y, z) = and_parts (is_active h G i) (not (is_active h S i)) t in
          subst (λ w. IsIn w other.new_nodes) (sym is)
          (must_be_put node_number (shown_node_at h) (shown_node_at h) (λ i. refl) (λ i. refl)
          (is_active h S) (is_active h G) (node_count h) other.gone_nodes other.new_nodes
          of_nodes i (omega arith) y
          (λ was same. both_ways (is_active h S i) (not-true (is_active h S i) z) was));
      put_faces = λ x e.
          let (i, l, t, is) = in_passing (shown_face_at h G) (is_put h S G) 0 (face_count h) x e in
          subst (λ w. IsIn w other.put_faces) (sym is)
          (must_be_put face_number (shown_face_at h S) (shown_face_at h G) (λ i. refl) (λ i. refl)
          (is_kept h S) (is_kept h G) (face_count h) other.gone_faces other.put_faces of_faces
          i (omega arith) (put_kept h S G i t)
          (put_differs i t));
    }

pub least : laws.ChangesAreLeast
least h S G other leads = within h S G other leads
