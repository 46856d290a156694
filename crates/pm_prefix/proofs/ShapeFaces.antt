-- The faces of the first records: the base faces have no fault, and no input number passes the
-- number of faces.
use Rattle.std.proofs.Common.{◌≡◌, ℕ, zero, suc, ◌+◌, ◌<◌, ◌≤◌, false, List, [], ◌∷◌, length}
use Rattle.std.proofs.Common.{get_or, take, All, Option, None, Some, is_some, refl, sym, ap, ◌∙◌}
use Rattle.std.proofs.Common.{arith, subst}
use Rattle.std.proofs.lemmas.Bool.{le-ltb}
use Rattle.std.proofs.lemmas.List.{get_or-take, length-take-le, append-nil}
use Rattle.std.proofs.lemmas.List.Elements.{All-append, All-cons, All-nil, All-head, All-tail}
use Rattle.std.proofs.lemmas.List.Elements.{All-map, All-from_get_or, All-weaker}
use Rattle.pm_base.specs.Counts.{one_if}
use Rattle.pm_forest.specs.declared.parts.Root.{Root}
use Rattle.pm_forest.specs.declared.parts.Face.{Face}
use Rattle.pm_forest.specs.declared.parts.NewFace.{NewFace}
use Rattle.pm_forest.specs.Forest.{Hierarchy, record_at}
use Rattle.pm_forest.specs.Faces.{face_in as faces_at, faces_in, faces_of, first_face, face_count}
use Rattle.pm_forest.specs.Faces.{no_face_corners}
use Rattle.pm_forest.specs.Rules.{base_is_bad, base_fault, face_inputs}
use Rattle.pm_forest.specs.Rules.{face_input_is_bad, past_from, past_fault, AllFit}
use Rattle.pm_forest.proofs.UnitLaws.{BaseFits}
use Rattle.pm_forest.proofs.Prefix.{cut}
use Rattle.pm_forest.proofs.FaceLists.{faces_of-cut_more, faces_of-cut_all}
use Rattle.pm_prefix.specs.Prefix.{face_in, new_face_in, base_in, record_in}
use Rattle.pm_prefix.proofs.ShapeTests.{AllFit-from, base_passes, face_input_passes}
use Rattle.pm_prefix.proofs.ShapeNodes.{AreUnits, AreFirst}

-- Faults

base_unfaulted : (roots : List Root) (before : List Face) (f : Face)
    → base_is_bad roots f ≡ false →
    face_input_is_bad (face_inputs before) f.input ≡ false → base_fault roots before f ≡ None
unfolding base_fault
base_unfaulted roots before f base input = rw (base, input) refl

past_unfaulted : (g : Hierarchy) (f : ℕ) (xs : List Face) →
    All (λ x. x.input ≤ face_count g) xs → past_from g f xs ≡ None
past_unfaulted g f [] all = refl
past_unfaulted g f (x ∷ xs) all =
    let P : Face → Type 0 = λ x. x.input ≤ face_count g in
    rw (le-ltb (face_count g) x.input (All-head P x xs all))
    (past_unfaulted g (f + 1) xs (All-tail P x xs all))

-- the face that is there has the number after those before it
pub one_numbered : (h : Hierarchy) (n f m : ℕ) (o : Option NewFace) → f + one_if (is_some o) ≤ m →
    All (λ x. x.input ≤ m) (faces_at (new_face_in h n f o))
one_numbered h n f m None most = All-nil (λ (x : Face). x.input ≤ m)
one_numbered h n f m (Some x) most =
    All-cons (λ (y : Face). y.input ≤ m) (face_in h n f x.face) [] (omega arith)
    (All-nil (λ (y : Face). y.input ≤ m))

record_numbered : (h : Hierarchy) (n k : ℕ) →
    All (λ x. x.input ≤ first_face h (suc k)) (faces_in (record_in h n k))
unfolding record_in first_face
record_numbered h n k =
    let m = first_face h (suc k) in
    let r = record_at h k in
    let f = first_face h k in
    All-append (λ (x : Face). x.input ≤ m) (faces_at (new_face_in h n f r.left))
    (faces_at (new_face_in h n (f + one_if (is_some r.left)) r.right))
    (one_numbered h n f m r.left (omega arith))
    (one_numbered h n (f + one_if (is_some r.left)) m r.right (omega arith))

module _ (h : Hierarchy) (units : AreUnits h) (n : ℕ) (g : Hierarchy) (are : AreFirst h n g) where
  -- Base faces

  base_fits : (f : ℕ) → f < length h.bases → BaseFits g.roots (base_in h n f)
  unfolding base_in
  base_fits f m =
      let x = get_or h.bases f no_face_corners in
      let fits : BaseFits h.roots x = units.bases f no_face_corners m in
      let leaves = are.leaves in
      record {
        a = omega (arith, are.leaf x.a fits.a);
        b = omega (arith, are.leaf x.b fits.b);
        c = omega (arith, are.leaf x.c fits.c);
        ab = rw (are.owners x.a fits.a, are.owners x.b fits.b) fits.ab;
        bc = rw (are.owners x.b fits.b, are.owners x.c fits.c) fits.bc;
        ca = rw (are.owners x.c fits.c, are.owners x.a fits.a) fits.ca;
      }

  base_number : (f : ℕ) → f < length h.bases → (get_or g.bases f no_face_corners).input ≡ f + 1
  unfolding base_in
  base_number f m = ap (λ (x : Face). x.input) (are.bases f m)

  bases_numbered : (f : ℕ) → f ≤ length h.bases →
      All (λ x. x.input ≤ f) (take f g.bases)
  bases_numbered f m =
      let count = are.base_count in
      let total = length-take-le f g.bases (omega arith) in
      All-from_get_or (λ (x : Face). x.input ≤ f) (take f g.bases) no_face_corners
      (λ i a. rw (get_or-take f g.bases i no_face_corners (omega arith))
      (omega (arith, base_number i (omega arith))))

  base_input : (f : ℕ) → f < length h.bases →
      face_input_is_bad (face_inputs (take f g.bases)) (base_in h n f).input ≡ false
  unfolding base_in
  base_input f m =
      face_input_passes (face_inputs (take f g.bases)) f (omega (arith, units.base_most))
      (All-map (λ i. i ≤ f) (λ (x : Face). x.input) (take f g.bases)
      (bases_numbered f (omega arith)))

  pub bases_fit_in : AllFit (base_fault g.roots) [] g.bases
  bases_fit_in =
      AllFit-from (base_fault g.roots) [] g.bases no_face_corners
      (λ f m.
      let there : f < length h.bases = omega (arith, are.base_count) in
      rw (are.bases f there)
      (base_unfaulted g.roots (take f g.bases) (base_in h n f)
      (base_passes g.roots (base_in h n f) (base_fits f there)) (base_input f there)))

  -- Input numbers

  pub faces_numbered : (k : ℕ) → k ≤ n → All (λ x. x.input ≤ first_face h k) (faces_of (cut g k))
  unfolding faces_of first_face
  faces_numbered zero m =
      let P : Face → Type 0 = λ x. x.input ≤ length h.bases in
      subst (λ (xs : List Face). All P xs) (sym (append-nil g.bases))
      (All-from_get_or P g.bases no_face_corners
      (λ f a. omega (arith, are.base_count, base_number f (omega (arith, are.base_count)))))
  faces_numbered (suc k) m =
      let P : Face → Type 0 = λ x. x.input ≤ first_face h (suc k) in
      let more : (x : Face) → x.input ≤ first_face h k → P x = λ x a. omega arith in
      let count = are.count in
      let new : All P (faces_in (record_at g k)) =
      rw (are.records k (omega arith)) (record_numbered h n k) in
      rw (faces_of-cut_more g k (omega arith))
      (All-append P (faces_of (cut g k)) (faces_in (record_at g k))
      (All-weaker (λ (x : Face). x.input ≤ first_face h k) P more (faces_of (cut g k))
      (faces_numbered k (omega arith))) new)

  pub none_past : past_fault g ≡ None
  unfolding past_fault
  none_past =
      let P : Face → Type 0 = λ x. x.input ≤ face_count g in
      let count = are.count in
      let all : All (λ x. x.input ≤ first_face h n) (faces_of (cut g n)) =
      faces_numbered n (omega arith) in
      let same : face_count g ≡ first_face h n =
      ap (first_face g) count ∙ are.faces n (omega arith) in
      let cut_all : faces_of (cut g n) ≡ faces_of g =
      ap (λ k. faces_of (cut g k)) (sym count) ∙ faces_of-cut_all g in
      past_unfaulted g 0 (faces_of g)
      (subst (λ (m : ℕ). All (λ x. x.input ≤ m) (faces_of g)) (sym same)
      (subst (λ (xs : List Face). All (λ x. x.input ≤ first_face h n) xs) cut_all all))
