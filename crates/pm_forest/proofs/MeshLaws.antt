-- The leaf mesh and the input mesh: their tables, and that they are well formed.
use Rattle.std.proofs.Common.{◌≡◌, ◌≢◌, ℕ, suc, ◌+◌, ◌-◌, ◌<◌, ◌≤◌, eqb, List, length, get_or, inl}
use Rattle.std.proofs.lemmas.Grind.{common_steps}
use Rattle.std.proofs.Common.{inr, refl, sym, ap, ◌∙◌, arith, get_or-set_same}
use Rattle.std.proofs.Common.{get_or-set_other}
use Rattle.std.proofs.Math.ListN.{set}
use Rattle.std.proofs.lemmas.Bool.{cases_Bool, cases_eq, eqb-true, eq-eqb, ne_eqb, cond-true}
use Rattle.std.proofs.lemmas.Bool.{cond-false}
use Rattle.std.proofs.lemmas.List.{length-map, get_or-map}
use Rattle.std.proofs.lemmas.List.FromFn.{length-map-range_with_len, get_or-map-range_with_len}
use Rattle.std.specs.Option.{unwrap_or}
use Rattle.pm_base.specs.Sides.{find_below, no_corners}
use Rattle.pm_base.specs.Meshes.{IsFace, IsWellFormed}
use Rattle.pm_base.proofs.Search.{find_below-some, find_below-has, option_cases}
use Rattle.pm_forest.specs.Forest.{Hierarchy, leaf_count, s_of, t_of, u_of}
use Rattle.pm_forest.specs.Forest.{Holds}
use Rattle.pm_forest.specs.Faces.{no_face_corners, faces_of, face_count, corners_of, revealed_by}
use Rattle.pm_forest.specs.Faces.{is_left}
use Rattle.pm_forest.specs.Rules.{HasShape}
use Rattle.pm_forest.specs.Meshes.{leaf_place, leaf_input, face_input, leaf_corners, input_corners}
use Rattle.pm_forest.specs.Meshes.{leaf_mesh_of, face_of_input, input_place, input_face}
use Rattle.pm_forest.specs.Meshes.{input_mesh_of, NumbersEach, HasInputNumbers}
use Rattle.pm_base.specs.Place.{origin}
use Rattle.pm_forest.proofs.Nodes.{not_both, holds-s_from_t, holds-s_from_u}
use Rattle.pm_forest.proofs.FaceNumbers.{revealed-parts}
use Rattle.pm_forest.proofs.FaceLists.{length-faces_of, corners_of-faces_of}
use Rattle.pm_forest.proofs.Corners.{CornersFit, AreAlong, ways}
use Rattle.pm_forest.proofs.ShapeLaws.{leaf_count-le, shape_of_nodes, base_corners, new_corners}
use Rattle.pm_forest.proofs.ShapeLaws.{leaves_at}
use Rattle.pm_forest.proofs.FaceLimits.{face_count-most}
use Rattle.pm_forest.proofs.InputLaws.{some_input, input_most, leaf_input-once}
use Rattle.pm_forest.proofs.FaceInputs.{some_face_input, face_input_most, face_input-once}
use Rattle.pm_forest.proofs.OneToOne.{each_is_met}

-- What has the number i + 1, among the first n.
abbrev pub numbered_so : (ℕ → ℕ) → ℕ → ℕ → ℕ
numbered_so number n i = unwrap_or (find_below (λ x. eqb (number x) (i + 1)) n) 0

pub numbered_so-lt : (number : ℕ → ℕ) (n i : ℕ) → i < n → numbered_so number n i < n
numbered_so-lt number n i l = grind (arith, common_steps, find_below-some, option_cases)

-- A table of all so far takes the next one.
pub numbered_more : (number : ℕ → ℕ) (n most : ℕ) (table : List ℕ) → 0 < number n → number n ≤ most
    → length table ≡ most →
    ((i : ℕ) → i < most → get_or table i 0 ≡ numbered_so number n i) →
    (i : ℕ) → i < most → get_or (set table (number n - 1) n) i 0 ≡ numbered_so number (n + 1) i
numbered_more number n most table some fits len are i l =
    let next : n + 1 ≡ suc n = omega arith in
    elim (cases_eq (number n) (i + 1)) [
      | inl is ↦ grind (arith, common_steps, cond-true, eq-eqb, get_or-set_same)
      | inr other ↦
          let place : i ≢ number n - 1 = λ e. other (omega arith) in
          rw next (get_or-set_other table (number n - 1) i n 0 place ∙ are i l
          ∙ sym (ap (λ o. unwrap_or o 0) (cond-false _ _ _ (ne_eqb (number n) (i + 1) other))))
    ]

-- what has a number is found by it
pub numbered_so-found : (number : ℕ → ℕ) (n x : ℕ)
    → ((x y : ℕ) → x < n → y < n → number x ≡ number y → x ≡ y) → x < n → 0 < number x →
    numbered_so number n (number x - 1) ≡ x
numbered_so-found number n x once l some =
    let place : number x - 1 + 1 ≡ number x = omega arith in
    let (y, found) = find_below-has (λ y. eqb (number y) (number x - 1 + 1)) n x l
    (eq-eqb (number x) (number x - 1 + 1) (sym place)) in
    let p = find_below-some (λ y. eqb (number y) (number x - 1 + 1)) n y found in
    ap (λ o. unwrap_or o 0) found
    ∙ once y x p.1 l (eqb-true (number y) (number x - 1 + 1) p.0 ∙ place)

pub numbers_each : (number : ℕ → ℕ) (n : ℕ) → ((x : ℕ) → x < n → 0 < number x)
    → ((x : ℕ) → x < n → number x ≤ n) →
    ((x y : ℕ) → x < n → y < n → number x ≡ number y → x ≡ y) → NumbersEach number n
numbers_each number n some most once = record {
  some = some;
  most = most;
  once = once;
  each = λ i l.
      let same : (x y : ℕ) → x < n → y < n → number x - 1 ≡ number y - 1 → x ≡ y = λ x y a b e.
      (let p = some x a in let q = some y b in once x y a b (omega arith)) in
      let below : (x : ℕ) → x < n → number x - 1 < n =
      λ x a. (let p = some x a in let q = most x a in omega arith) in
      let (x, a, is) = each_is_met (λ x. number x - 1) n same below i l in
      let p = some x a in
      (x, a, omega arith);
}

module _ (h : Hierarchy) (shape : HasShape h) where
  pub corners_in : (f : ℕ) → f < face_count h →
      ((corners_of h f).a < leaf_count h) × ((corners_of h f).b < leaf_count h)
      × ((corners_of h f).c < leaf_count h)
  corners_in f l = leaves_at h shape f l (revealed_by h f) refl

  along_apart : (k p q x y z : ℕ) → ((w : ℕ) → Holds h p w → Holds h (s_of h k) w)
      → ((w : ℕ) → Holds h p w → Holds h q w → ⊥) →
      ((w : ℕ) → Holds h q w → Holds h (s_of h k) w) → AreAlong h p q (s_of h k) x y z
      → (x ≢ y) × (y ≢ z) × (z ≢ x)
  along_apart k p q x y z inside apart other a = grind (arith, common_steps)

  new_apart : (k p q f : ℕ) → ((w : ℕ) → Holds h p w → Holds h (s_of h k) w)
      → ((w : ℕ) → Holds h p w → Holds h q w → ⊥) →
      ((w : ℕ) → Holds h q w → Holds h (s_of h k) w) → CornersFit h p q (s_of h k) (corners_of h f)
      →
      ((corners_of h f).a ≢ (corners_of h f).b) × ((corners_of h f).b ≢ (corners_of h f).c)
      × ((corners_of h f).c ≢ (corners_of h f).a)
  new_apart k p q f inside apart other fits =
      grind (arith, common_steps, along_apart k p q, ways h p q (s_of h k))

  -- a face has three different leaves
  pub corners_apart : (f : ℕ) → f < face_count h →
      ((corners_of h f).a ≢ (corners_of h f).b) × ((corners_of h f).b ≢ (corners_of h f).c)
      × ((corners_of h f).c ≢ (corners_of h f).a)
  corners_apart f l =
      let nodes = shape_of_nodes h shape in
      elim (option_cases (revealed_by h f)) [
        | inl none ↦ grind (arith, common_steps, base_corners)
        | inr (k, own) ↦
            let known = (revealed-parts h f k l own).0 in
            let under_t : (w : ℕ) → Holds h (t_of h k) w → Holds h (s_of h k) w =
            λ w e. holds-s_from_t h nodes k w known e in
            let under_u : (w : ℕ) → Holds h (u_of h k) w → Holds h (s_of h k) w =
            λ w e. holds-s_from_u h nodes k w known e in
            let fits = new_corners h shape f k l own in
            elim (cases_Bool (is_left h k f)) [
              | inl left ↦
                  new_apart k (t_of h k) (u_of h k) f under_t
                  (λ w e g. not_both h nodes k w known e g) under_u (rw left at fits)
              | inr right ↦
                  new_apart k (u_of h k) (t_of h k) f under_u
                  (λ w e g. not_both h nodes k w known g e) under_t (rw right at fits)
            ]
      ]

  pub leaf_mesh_formed : IsWellFormed (leaf_mesh_of h)
  unfolding leaf_mesh_of
  leaf_mesh_formed =
      let points = length-map-range_with_len (leaf_place h) 0 (leaf_count h) in
      let faces = length-map (faces_of h) leaf_corners in
      record {
        points = omega (arith, leaf_count-le h shape);
        faces = omega (arith, length-faces_of h, face_count-most h shape);
        corners = λ f d l.
            let there : f < face_count h = omega (arith, length-faces_of h) in
            let is = get_or-map leaf_corners (faces_of h) f no_face_corners d (omega arith)
            ∙ ap leaf_corners (sym (corners_of-faces_of h f there)) in
            let inside = corners_in f there in
            let apart = corners_apart f there in
            rw (is, points) (record {
              a = inside.0;
              b = inside.1;
              c = inside.2;
              ab = apart.0;
              bc = apart.1;
              ca = apart.2;
            });
      }

  -- two leaves are two vertices of the input
  pub vertex_below : (x : ℕ) → x < leaf_count h → leaf_input h x - 1 < leaf_count h
  vertex_below x l = let some = some_input h shape x l in let most =
      input_most h shape x l in omega arith

  vertex-once : (x y : ℕ) → x < leaf_count h → y < leaf_count h → x ≢ y
      → leaf_input h x - 1 ≢ leaf_input h y - 1
  vertex-once x y l m differ e = grind (arith, common_steps, leaf_input-once, some_input)

  face_fits : (f : ℕ) → f < face_count h → IsFace (leaf_count h) (input_corners h (corners_of h f))
  face_fits f l = grind (arith, common_steps, corners_apart, corners_in, vertex-once, vertex_below)

  pub input_mesh_formed : IsWellFormed (input_mesh_of h)
  unfolding input_mesh_of
  input_mesh_formed =
      let points = length-map-range_with_len (input_place h) 0 (leaf_count h) in
      let face = input_face h in
      let faces = length-map-range_with_len face 0 (face_count h) in
      record {
        points = omega (arith, leaf_count-le h shape);
        faces = omega (arith, face_count-most h shape);
        corners = λ i d l.
            let there : i < face_count h = omega arith in
            let is = get_or-map-range_with_len face 0 (face_count h) i i d there (omega arith) in
            rw (is, points)
            (face_fits (face_of_input h i)
            (numbered_so-lt (face_input h) (face_count h) i there));
      }

  pub has_input_numbers : HasInputNumbers h
  unfolding input_mesh_of
  has_input_numbers =
      let leaves =
      numbers_each (leaf_input h) (leaf_count h) (some_input h shape) (input_most h shape)
      (leaf_input-once h shape) in
      let faces = numbers_each (face_input h) (face_count h) (some_face_input h shape)
      (face_input_most h shape) (face_input-once h shape) in
      let point = input_place h in
      let face = input_face h in
      record {
        leaves = leaves;
        faces = faces;
        mesh = record {
          points = length-map-range_with_len point 0 (leaf_count h);
          faces = length-map-range_with_len face 0 (face_count h);
          vertex = λ x l.
              get_or-map-range_with_len point 0 (leaf_count h) (leaf_input h x - 1)
              (leaf_input h x - 1) origin (vertex_below x l) (omega arith)
              ∙ ap (leaf_place h)
              (numbered_so-found (leaf_input h) (leaf_count h) x leaves.once l
              (leaves.some x l));
          face = λ f l.
              let there : face_input h f - 1 < face_count h =
              (let some = faces.some f l in let most = faces.most f l in omega arith) in
              get_or-map-range_with_len face 0 (face_count h) (face_input h f - 1)
              (face_input h f - 1) no_corners there (omega arith)
              ∙ ap (λ g. input_corners h (corners_of h g))
              (numbered_so-found (face_input h) (face_count h) f faces.once l (faces.some f l));
        };
      }
