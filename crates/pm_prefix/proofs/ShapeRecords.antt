-- The records of the first records have no fault.
use Rattle.std.proofs.Common.{◌≡◌, ℕ, ◌+◌, ◌*◌, ◌-◌, ◌<◌, ◌≤◌, true, false, [], ◌++◌}
use Rattle.std.proofs.lemmas.Grind.{common_steps}
use Rattle.std.proofs.Common.{◌∷◌, length, All, ◌&&◌, Option, None, Some, is_some, refl}
use Rattle.std.proofs.Common.{sym, ap, ◌∙◌, subst, arith}
use Rattle.std.proofs.lemmas.Bool.{or_parts, not-false}
use Rattle.std.proofs.lemmas.List.{append-nil}
use Rattle.std.proofs.lemmas.List.Elements.{All-append, All-map, All-weaker}
use Rattle.pm_base.specs.Counts.{one_if}
use Rattle.pm_base.specs.Place.{is_place, place_of}
use Rattle.pm_forest.specs.declared.parts.Face.{Face}
use Rattle.pm_forest.specs.declared.parts.Head.{Head}
use Rattle.pm_forest.specs.declared.parts.NewFace.{NewFace}
use Rattle.pm_forest.specs.declared.parts.Record.{Record}
use Rattle.pm_forest.specs.Forest.{Hierarchy, no_record, record_at, record_count, leaf_count, s_of}
use Rattle.pm_forest.specs.Forest.{t_of, u_of, interval_of, holds}
use Rattle.pm_forest.specs.Faces.{face_in as faces_at, faces_in, faces_of, first_face}
use Rattle.pm_forest.specs.Rules.{vertex_input_is_bad, face_inputs, node_inputs}
use Rattle.pm_forest.specs.Rules.{split_is_bad, presence_is_bad, head_is_bad, children_fault}
use Rattle.pm_forest.specs.Rules.{head_fault, runs, new_face_fault, bare, left_only, with_record}
use Rattle.pm_forest.specs.Rules.{word_of, head_of, face_fault, record_fault, record_fault_after}
use Rattle.pm_forest.specs.Rules.{AllFit}
use Rattle.pm_forest.proofs.Nodes.{interval_of-t, interval_of-u}
use Rattle.pm_forest.proofs.UnitLaws.{passed}
use Rattle.pm_forest.proofs.Corners.{CornersFit}
use Rattle.pm_forest.proofs.Prefix.{cut, faces_of-with_record}
use Rattle.pm_forest.proofs.NewFaces.{NewFaceFits, new_face_fits, coming_face_count}
use Rattle.pm_prefix.specs.Prefix.{interval_in, width_in, face_in}
use Rattle.pm_prefix.specs.Prefix.{new_face_in, record_in}
use Rattle.pm_prefix.proofs.ShapeTests.{AllFit-from, face_input_passes}
use Rattle.pm_prefix.proofs.ShapeNext.{same_interval, split_not_bad, new_face_unfaulted}
use Rattle.pm_prefix.proofs.ShapeNodes.{AreUnits, AreFirst, wide, t_passes, u_passes}
use Rattle.pm_prefix.proofs.ShapeFaces.{one_numbered, faces_numbered}

-- Heads

-- what a head that has no fault says of presence and places
head_parts : (h : Hierarchy) (d : Head) → head_fault h d ≡ None →
    (presence_is_bad d.presence ≡ false)
    × (is_place (place_of d.t) && is_place (place_of d.u) ≡ true)
unfolding head_fault head_is_bad
head_parts h d fits = grind (arith, common_steps, or_parts, passed, not-false)

head_unfaulted : (h : Hierarchy) (d : Head) → split_is_bad h d.s d.width ≡ false →
    presence_is_bad d.presence ≡ false →
    is_place (place_of d.t) && is_place (place_of d.u) ≡ true →
    vertex_input_is_bad (leaf_count h) (node_inputs h) d.width d.t_input ≡ false →
    vertex_input_is_bad (leaf_count h) (node_inputs h ++ d.t_input ∷ [])
    ((interval_of h d.s).until - (interval_of h d.s).from - d.width) d.u_input ≡ false →
    head_fault h d ≡ None
unfolding head_fault head_is_bad children_fault
head_unfaulted h d split presence places t u = rw (split, presence, places, t, u) refl

same_there : (h : Hierarchy) (n f : ℕ) (o : Option NewFace) →
    is_some (new_face_in h n f o) ≡ is_some o
same_there h n f None = refl
same_there h n f (Some x) = refl

module _ (h : Hierarchy) (units : AreUnits h) (n : ℕ) (g : Hierarchy) (are : AreFirst h n g)
    (k : ℕ) (m : k < n) where
  there : k < record_count h
  there = let most = are.most in omega arith

  there_g : k < record_count g
  there_g = let count = are.count in omega arith

  -- the leaves of the second child
  rest_width : (interval_of (cut g k) (s_of h k)).until - (interval_of (cut g k) (s_of h k)).from
      - width_in h n (interval_of h (t_of h k))
      ≡ width_in h n (interval_of h (u_of h k))
  rest_width =
      let nodes = units.forest in
      let older = nodes.older k there in
      let t = interval_of-t h nodes k there in
      let u = interval_of-u h nodes k there in
      let wide_t = rw t at (wide h units n g are (t_of h k) (omega arith)) in
      let is : interval_of (cut g k) (s_of h k) ≡ interval_in h n (interval_of h (s_of h k)) =
      ap (interval_of (cut g k)) (sym (are.nodes k m))
      ∙ same_interval g are.forest k there_g
      ∙ ap (interval_of g) (are.nodes k m) ∙ are.intervals (s_of h k) (omega arith) in
      rw (is, t, u) (omega arith)

  head_fits : head_fault (cut g k) (head_of (record_in h n k)) ≡ None
  unfolding record_in s_of
  head_fits =
      let r = record_at h k in
      let f = first_face h k in
      let split = rw (are.nodes k m, are.records k m) at
      (split_not_bad g are.forest k there_g) in
      let parts = head_parts (cut h k) (head_of r) (units.records k there).head in
      let presence = rw (
        ← same_there h n f r.left,
        ← same_there h n (f + one_if (is_some r.left)) r.right,
      ) at parts.0 in
      head_unfaulted (cut g k) (head_of (record_in h n k)) split presence parts.1
      (t_passes h units n g are k m) (rw rest_width (u_passes h units n g are k m))

  -- New faces

  runs_same : (p q s i : ℕ) (f : Face) → p < length h.roots + 2 * n → q < length h.roots + 2 * n
      → s < length h.roots + 2 * n → CornersFit h p q s f
      → CornersFit g p q s (face_in h n i f)
  unfolding runs holds
  runs_same p q s i f l_p l_q l_s fits =
      let leaves = are.leaves in
      record {
        a = omega (arith, are.leaf f.a fits.a);
        b = omega (arith, are.leaf f.b fits.b);
        c = omega (arith, are.leaf f.c fits.c);
        runs = rw (
          are.intervals p l_p,
          are.intervals q l_q,
          are.intervals s l_s,
          are.held p f.a l_p fits.a,
          are.held p f.b l_p fits.b,
          are.held p f.c l_p fits.c,
          are.held q f.a l_q fits.a,
          are.held q f.b l_q fits.b,
          are.held q f.c l_q fits.c,
          are.held s f.a l_s fits.a,
          are.held s f.b l_s fits.b,
          are.held s f.c l_s fits.c,
        ) fits.runs;
      }

  same_t : t_of g k ≡ t_of h k
  same_t = omega (arith, are.root_count)

  new_face_moved : (p q i first second : ℕ) (f : Face) → p < length h.roots + 2 * n
      → q < length h.roots + 2 * n → NewFaceFits h k p q f first second
      → NewFaceFits g k p q (face_in h n i f) first second
  new_face_moved p q i first second f l_p l_q fits =
      let older = units.forest.older k there in
      let same = are.faces k (omega arith) in
      let a = fits.first_older in
      let b = fits.second_older in
      record {
        corners = rw (are.nodes k m)
            (runs_same p q (s_of h k) i f l_p l_q (omega arith) fits.corners);
        first_older = omega arith;
        second_older = omega arith;
      }

  node_is : (record_in h n k).s ≡ s_of g k
  unfolding record_in s_of
  node_is = sym (are.nodes k m)

  width_is : (record_in h n k).width ≡ (record_at g k).width
  width_is = ap (λ (r : Record). r.width) (sym (are.records k m))

  -- the input numbers of the faces before the left face, and before the right face
  before_left : All (λ i. i ≤ first_face h k)
      (face_inputs (faces_of (with_record (cut g k) (bare (record_in h n k)))))
  before_left =
      let P : Face → Type 0 = λ x. x.input ≤ first_face h k in
      All-map (λ i. i ≤ first_face h k) (λ (x : Face). x.input)
      (faces_of (with_record (cut g k) (bare (record_in h n k))))
      (rw (
        faces_of-with_record (cut g k) (bare (record_in h n k)),
        append-nil (faces_of (cut g k)),
      )
      (faces_numbered h units n g are k (omega arith)))

  before_right : All (λ i. i ≤ first_face h k + one_if (is_some (record_at h k).left))
      (face_inputs (faces_of (with_record (cut g k) (left_only (record_in h n k)))))
  unfolding record_in
  before_right =
      let r = left_only (record_in h n k) in
      let f = first_face h k in
      let next = f + one_if (is_some (record_at h k).left) in
      let P : Face → Type 0 = λ x. x.input ≤ next in
      let more : (x : Face) → x.input ≤ f → P x = λ x a. omega arith in
      let old = All-weaker (λ (x : Face). x.input ≤ f) P more (faces_of (cut g k))
      (faces_numbered h units n g are k (omega arith)) in
      let left = one_numbered h n f next (record_at h k).left (omega arith) in
      let new : All P (faces_in r) =
      rw (append-nil (faces_at (new_face_in h n f (record_at h k).left))) left in
      All-map (λ i. i ≤ next) (λ (x : Face). x.input) (faces_of (with_record (cut g k) r))
      (rw (faces_of-with_record (cut g k) r)
      (All-append P (faces_of (cut g k)) (faces_in r) old new))

  left_fits : (o : Option NewFace) → (record_at h k).left ≡ o →
      face_fault (with_record (cut g k) (bare (record_in h n k))) true
      (new_face_in h n (first_face h k) o) ≡ None
  unfolding s_of
  left_fits None is = refl
  left_fits (Some x) is =
      let f = first_face h k in
      let q = bare (record_in h n k) in
      let fits : new_face_fault (with_record (cut h k) (bare (record_at h k))) true x.face
      (word_of x.first) (word_of x.second) ≡ None =
      rw is at (units.records k there).left in
      let both = new_face_fits h units.forest k there (bare (record_at h k)) refl refl true x.face
      (word_of x.first) (word_of x.second) fits in
      let count = coming_face_count h units.forest k there (bare (record_at h k)) refl refl in
      let count_g = coming_face_count g are.forest k there_g q node_is width_is in
      let same = are.faces k (omega arith) in
      let moved = new_face_moved (t_of h k) (u_of h k) f (word_of x.first) (word_of x.second)
      x.face (omega arith) (omega arith) both.0 in
      let most : f < 1048576 = omega (arith, both.1) in
      new_face_unfaulted g are.forest k there_g q node_is width_is true
      (face_in h n f x.face) (word_of x.first) (word_of x.second) (rw same_t moved)
      (omega arith) (face_input_passes _ f most before_left)

  right_fits : (o : Option NewFace) → (record_at h k).right ≡ o →
      face_fault (with_record (cut g k) (left_only (record_in h n k))) false
      (new_face_in h n (first_face h k + one_if (is_some (record_at h k).left)) o) ≡ None
  unfolding s_of record_in
  right_fits None is = refl
  right_fits (Some x) is =
      let f = first_face h k + one_if (is_some (record_at h k).left) in
      let q = left_only (record_in h n k) in
      let fits : new_face_fault (with_record (cut h k) (left_only (record_at h k))) false x.face
      (word_of x.first) (word_of x.second) ≡ None =
      rw is at (units.records k there).right in
      let both = new_face_fits h units.forest k there (left_only (record_at h k)) refl refl false
      x.face (word_of x.first) (word_of x.second) fits in
      let count = coming_face_count h units.forest k there (left_only (record_at h k)) refl refl in
      let count_g = coming_face_count g are.forest k there_g q node_is width_is in
      let left = ap one_if (same_there h n (first_face h k) (record_at h k).left) in
      let same = are.faces k (omega arith) in
      let moved = new_face_moved (u_of h k) (t_of h k) f (word_of x.first) (word_of x.second)
      x.face (omega arith) (omega arith) both.0 in
      let most : f < 1048576 = omega (arith, both.1) in
      new_face_unfaulted g are.forest k there_g q node_is width_is false
      (face_in h n f x.face) (word_of x.first) (word_of x.second) (rw same_t moved)
      (omega arith) (face_input_passes _ f most before_right)

  record_fits_in : record_fault (cut g k) (record_in h n k) ≡ None
  unfolding record_fault record_in
  record_fits_in =
      rw (
        head_fits,
        left_fits (record_at h k).left refl,
        right_fits (record_at h k).right refl,
      ) refl

module _ (h : Hierarchy) (units : AreUnits h) (n : ℕ) (g : Hierarchy) (are : AreFirst h n g) where
  pub records_fit_in : AllFit (record_fault_after g.roots g.bases) [] g.records
  records_fit_in =
      AllFit-from (record_fault_after g.roots g.bases) [] g.records no_record
      (λ k a.
      let m : k < n = omega (arith, are.count) in
      subst (λ (r : Record). record_fault (cut g k) r ≡ None) (sym (are.records k m))
      (record_fits_in h units n g are k m))
