-- Input numbers of faces: each is above 0, and no two faces have the same one.
use Rattle.std.proofs.Common.{◌≡◌, ◌≢◌, ℕ, zero, suc, ◌<◌, ◌≤◌, eqb, ltb, Bool, true, false, ◌||◌}
use Rattle.std.proofs.Common.{List, [], ◌∷◌, ◌++◌, length, get_or, Option, None, Some, inl, inr}
use Rattle.std.proofs.Common.{sym, ap, ◌∙◌, subst, arith, append_assoc}
use Rattle.std.proofs.lemmas.Bool.{cases_lt, cases_order, eqb-false, or_parts}
use Rattle.std.proofs.lemmas.List.{append-nil, get_or_append_left, get_or_push, get_or-map}
use Rattle.std.proofs.lemmas.List.{length_push, length-map}
use Rattle.pm_forest.specs.declared.parts.Root.{Root}
use Rattle.pm_forest.specs.declared.parts.Face.{Face}
use Rattle.pm_forest.specs.declared.parts.NewFace.{NewFace}
use Rattle.pm_forest.specs.Marks.{is_used}
use Rattle.pm_forest.specs.Forest.{Hierarchy, record_at, record_count}
use Rattle.pm_forest.specs.Faces.{no_face_corners, face_in, faces_of, face_count}
use Rattle.pm_forest.specs.Rules.{face_inputs, face_input_is_bad, base_is_bad, base_fault}
use Rattle.pm_forest.specs.Rules.{new_face_is_bad, new_face_fault, face_fault, bare, left_only}
use Rattle.pm_forest.specs.Rules.{with_record, word_of, AllFit, HasShape}
use Rattle.pm_forest.specs.Meshes.{face_input}
use Rattle.pm_forest.proofs.Prefix.{cut, faces_of-with_record}
use Rattle.pm_forest.proofs.UnitLaws.{passed}
use Rattle.pm_forest.proofs.FaceLists.{length-faces_of, faces_of-cut_more, faces_of-cut_all}
use Rattle.pm_forest.proofs.FaceLists.{corners_of-faces_of}
use Rattle.pm_forest.proofs.ShapeLaws.{record_fits}
use Rattle.pm_forest.proofs.FaceLimits.{input-le}
use Rattle.pm_forest.proofs.InputLaws.{unused}

-- The number of face f of a list.
abbrev number_in : List Face → ℕ → ℕ
number_in fs f = (get_or fs f no_face_corners).input

-- No face of the list has the number 0, and no two have the same.
record AreNumbered (fs : List Face) : Type 0 where
  some : (f : ℕ) → f < length fs → 0 < number_in fs f
  once : (g f : ℕ) → g < f → f < length fs → number_in fs g ≢ number_in fs f

none_numbered : AreNumbered []
none_numbered =
    record { some = λ f l. absurd (omega arith); once = λ g f m l. absurd (omega arith) }

-- one face more, that the rules pass
push_numbered : (fs : List Face) (x : Face) → AreNumbered fs
    → face_input_is_bad (face_inputs fs) x.input ≡ false → AreNumbered (fs ++ x ∷ [])
unfolding face_input_is_bad
push_numbered fs x are fits =
    let p = or_parts (eqb x.input 0 || ltb 1048576 x.input) (is_used (face_inputs fs) x.input)
    fits in
    let nonzero = eqb-false x.input 0 (or_parts (eqb x.input 0) (ltb 1048576 x.input) p.0).0 in
    let old : (f : ℕ) → f < length fs → number_in (fs ++ x ∷ []) f ≡ number_in fs f = λ f l.
    ap (λ (y : Face). y.input) (get_or_append_left fs (x ∷ []) no_face_corners f l) in
    let new : (f : ℕ) → length fs ≡ f → number_in (fs ++ x ∷ []) f ≡ x.input =
    λ f is. ap (λ (y : Face). y.input) (get_or_push fs x no_face_corners f is) in
    let len = length_push fs x in
    record {
      some = λ f l. elim (cases_lt f (length fs)) [
        | inl a ↦ (rw (old f a) (are.some f a))
        | inr a ↦ (let last : length fs ≡ f = omega arith in rw (new f last) (omega arith))
      ];
      once = λ g f m l. elim (cases_lt f (length fs)) [
        | inl a ↦ (λ e. are.once g f m a (sym (old g (omega arith)) ∙ e ∙ old f a))
        | inr a ↦ (λ e.
            let last : length fs ≡ f = omega arith in
            let there : g < length (face_inputs fs) =
            omega (arith, length-map fs (λ (y : Face). y.input)) in
            unused (face_inputs fs) x.input g p.1 there
            (get_or-map (λ (y : Face). y.input) fs g no_face_corners 0 (omega arith)
            ∙ sym (old g (omega arith)) ∙ e ∙ new f last))
      ];
    }

base_judged : (roots : List Root) (before : List Face) (f : Face) → base_fault roots before f ≡ None
    →
    face_input_is_bad (face_inputs before) f.input ≡ false
unfolding base_fault
base_judged roots before f fits =
    (passed (face_input_is_bad (face_inputs before) f.input) _ _
    (passed (base_is_bad roots f) _ _ fits).1).0

bases_numbered : (roots : List Root) (before fs : List Face) → AreNumbered before
    → AllFit (base_fault roots) before fs → AreNumbered (before ++ fs)
bases_numbered roots before [] are fit = rw (append-nil before) are
bases_numbered roots before (x ∷ fs) are fit =
    subst AreNumbered (append_assoc before (x ∷ []) fs)
    (bases_numbered roots (before ++ x ∷ []) fs
    (push_numbered before x are (base_judged roots before x fit.0)) fit.1)

new_judged : (h : Hierarchy) (left : Bool) (f : Face) (first second : ℕ)
    → new_face_fault h left f first second ≡ None →
    face_input_is_bad (face_inputs (faces_of h)) f.input ≡ false
unfolding new_face_fault
new_judged h left f first second fits =
    (passed (face_input_is_bad (face_inputs (faces_of h)) f.input) _ _
    (passed (new_face_is_bad h left f first second) _ _ fits).1).0

-- with the left or the right face of a record, where it has one
face_numbered : (h : Hierarchy) (left : Bool) (o : Option NewFace) → AreNumbered (faces_of h)
    → face_fault h left o ≡ None → AreNumbered (faces_of h ++ face_in o)
face_numbered h left None are fits = rw (append-nil (faces_of h)) are
face_numbered h left (Some n) are fits =
    push_numbered (faces_of h) n.face are
    (new_judged h left n.face (word_of n.first) (word_of n.second) fits)

cut_numbered : (h : Hierarchy) → HasShape h → (k : ℕ) → k ≤ record_count h
    → AreNumbered (faces_of (cut h k))
unfolding faces_of
cut_numbered h shape zero l =
    rw (append-nil h.bases) (bases_numbered h.roots [] h.bases none_numbered shape.bases)
cut_numbered h shape (suc k) l =
    let r = record_at h k in
    let g = cut h k in
    let fits = record_fits h shape k l in
    let before = cut_numbered h shape k (omega arith) in
    let no_face : faces_of (with_record g (bare r)) ≡ faces_of g =
    faces_of-with_record g (bare r) ∙ append-nil (faces_of g) in
    let one_face : faces_of (with_record g (left_only r)) ≡ faces_of g ++ face_in r.left =
    faces_of-with_record g (left_only r)
    ∙ ap (λ fs. faces_of g ++ fs) (append-nil (face_in r.left)) in
    let left = rw no_face at (face_numbered (with_record g (bare r)) true r.left (rw no_face before)
    fits.left) in
    let right = rw one_face at
    (face_numbered (with_record g (left_only r)) false r.right (rw one_face left) fits.right) in
    rw (faces_of-cut_more h k l, ← append_assoc (faces_of g) (face_in r.left) (face_in r.right))
    right

module _ (h : Hierarchy) (shape : HasShape h) where
  numbered : AreNumbered (faces_of h)
  numbered = rw (← faces_of-cut_all h) (cut_numbered h shape (record_count h) (omega arith))

  number_is : (f : ℕ) → f < face_count h → face_input h f ≡ number_in (faces_of h) f
  number_is f l = ap (λ (y : Face). y.input) (corners_of-faces_of h f l)

  pub some_face_input : (f : ℕ) → f < face_count h → 0 < face_input h f
  some_face_input f l = rw (number_is f l) (numbered.some f (omega (arith, length-faces_of h)))

  pub face_input_most : (f : ℕ) → f < face_count h → face_input h f ≤ face_count h
  face_input_most f l = input-le h shape f l

  pub face_input-once : (f g : ℕ) → f < face_count h → g < face_count h
      → face_input h f ≡ face_input h g → f ≡ g
  face_input-once f g l m same =
      let numbers = sym (number_is f l) ∙ same ∙ number_is g m in
      elim (cases_order f g) [
        | inl is ↦ is
        | inr other ↦ elim other [
          | inl a ↦ absurd (numbered.once f g a (omega (arith, length-faces_of h)) numbers)
          | inr a ↦ absurd (numbered.once g f a (omega (arith, length-faces_of h)) (sym numbers))
        ]
      ]
