-- The numbers of a run's faces.
use Rattle.std.proofs.lemmas.Grind.{common_steps}
use Rattle.std.proofs.Common.{suc, zero, ◌≡◌, ◌≢◌, ℕ, ◌+◌, ◌-◌, ◌<◌, ◌≤◌, true, false, cond}
use Rattle.std.proofs.Common.{is_none, is_some, Option, Some, None, length, inl, inr, refl, sym, ap}
use Rattle.std.proofs.Common.{◌∙◌, subst, arith}
use Rattle.std.proofs.lemmas.Bool.{cases_order, or_cases, or_left, or_right, eqb-true, eq-eqb}
use Rattle.std.proofs.lemmas.Bool.{lt-leb, cond-true, cond-false, false≢true, false_from_ne_true}
use Rattle.std.proofs.lemmas.Option.{none-some, same_Some}
use Rattle.std.proofs.lemmas.List.{length-map}
use Rattle.pm_base.proofs.Search.{find_below-some, find_below-has, option_cases}
use Rattle.pm_base.specs.Counts.{one_if}
use Rattle.pm_base.specs.Sides.{face_of, Net, Stands}
use Rattle.pm_base.specs.declared.ids.Side.{Side}
use Rattle.pm_base.specs.declared.log.Gone.{Gone}
use Rattle.pm_beyond.specs.Walks.{number_of}
use Rattle.pm_forest.proofs.FaceNumbers.{first_face-mono}
use Rattle.pm_forest.proofs.Sides.{three_sides}
use Rattle.pm_forest.specs.Faces.{first_face, revealed_after}
use Rattle.pm_forest.specs.Forest.{Hierarchy, record_at}
use Rattle.pm_number.proofs.NodeNumbers.{record-at}
use Rattle.pm_number.proofs.Positions.{picked-has}
use Rattle.pm_number.proofs.RunLaws.{stood_before, gone_for_good}
use Rattle.pm_number.specs.Numbering.{place_in, is_gone, drops, dropped_by, base_faces, step_of}
use Rattle.pm_number.specs.Numbering.{faces_before, face_at, face_number, numbered_face}
use Rattle.pm_number.specs.Numbering.{numbered_side, numbered_gone, hierarchy_of}
use Rattle.pm_number.specs.Shown.{SameGone}
use Rattle.pm_number.specs.Stages.{side_moved, Run, steps, entry_at, net_of_run_after, IsGone}
use Rattle.pm_number.specs.Stages.{IsMerging, side_by}
use Rattle.pm_runs.specs.Pairs.{Runs, Links}

is_gone-parts : (f : ℕ) (g : Option Gone) → is_gone f g ≡ true → (x : Gone) × (g ≡ Some x)
    × (x.face.0 ≡ f)
is_gone-parts f None e = absurd (false≢true e)
is_gone-parts f (Some x) e = (x, refl, eqb-true _ _ e)

is_gone-from : (f : ℕ) (g : Option Gone) (x : Gone) → g ≡ Some x → x.face.0 ≡ f → is_gone f g ≡ true
is_gone-from f g x e is = ap (is_gone f) e ∙ eq-eqb x.face.0 f is

pub gone-side : (m : Net) (p q : ℕ) (g : Option Gone) (x : Gone) → IsGone m p q g → g ≡ Some x
    → (e : ℕ) × Runs m e p q × (face_of e ≡ x.face.0)
gone-side m p q None x a e = absurd (none-some x e)
gone-side m p q (Some g) x a e = (a.0, a.1, a.2 ∙ ap (λ z. z.face.0) (same_Some g x e))

pub numbered-some : (r : Run) (g : Option Gone) → is_some (numbered_gone r g) ≡ is_some g
numbered-some r None = refl
numbered-some r (Some g) = refl

pub some_gone : (g : Option Gone) → is_some g ≡ true → (x : Gone) × (g ≡ Some x)
some_gone None e = absurd (false≢true e)
some_gone (Some x) e = (x, refl)

-- base faces have no record
pub base-none : (h : Hierarchy) (n f : ℕ) → f < first_face h 0 → revealed_after h n f ≡ None
unfolding revealed_after
base-none h zero f l = refl
base-none h (suc n) f l =
    let m = first_face-mono h 0 n (omega arith) in
    cond-false _ (Some n) (revealed_after h n f) (lt-leb (first_face h n) f (omega arith))
    ∙ base-none h n f l

module _ (r : Run) (run : IsMerging r) where
  -- A face is dropped where it holds both ends, and so once
  drops-links : (i f : ℕ) → i < steps r → drops r f i ≡ true
      → (x : ℕ) × Links (net_of_run_after r i) x (entry_at r i).t (entry_at r i).u × (face_of x ≡ f)
  drops-links i f l e =
      let logged = run.logged i l in
      elim (or_cases _ _ e) [
        | inl a ↦
            let (g, g_is, on) = is_gone-parts f (entry_at r i).left a in
            let (x, runs, face_is) =
            gone-side (net_of_run_after r i) _ _ (entry_at r i).left g logged.left g_is in
            (x, inl runs, face_is ∙ on)
        | inr a ↦
            let (g, g_is, on) = is_gone-parts f (entry_at r i).right a in
            let (x, runs, face_is) = gone-side (net_of_run_after r i) _ _ (entry_at r i).right g
            logged.right g_is in
            (x, inr runs, face_is ∙ on)
      ]

  links-stands : (i x : ℕ) → Links (net_of_run_after r i) x (entry_at r i).t (entry_at r i).u
      → Stands (net_of_run_after r i) x
  links-stands i x links = elim links [ inl w ↦ w.stands | inr w ↦ w.stands ]

  not_before : (i j f : ℕ) → i < steps r → j < i → drops r f i ≡ true → drops r f j ≡ true → ⊥
  not_before i j f l m a b =
      let (x, links, on) = drops-links i f l a in
      let (y, links', on') = drops-links j f (omega arith) b in
      gone_for_good r run j y x (omega arith) links' (on ∙ sym on')
      (stood_before r run i (suc j) x m (omega arith) (links-stands i x links))

  dropped-by : (i f : ℕ) → i < steps r → drops r f i ≡ true → dropped_by r f ≡ Some i
  unfolding dropped_by
  dropped-by i f l e =
      let (j, is) = find_below-has (drops r f) (steps r) i l e in
      let p = find_below-some (drops r f) (steps r) j is in
      let same : j ≡ i = elim (cases_order j i) [
        | inl q ↦ q
        | inr other ↦
            elim other [
              | inl c ↦ absurd (not_before i j f l c e p.0)
              | inr c ↦
                  absurd (not_before j i f p.1 c p.0 e)
            ]
      ] in
      is ∙ ap Some same

  dropped-parts : (i f : ℕ) → dropped_by r f ≡ Some i → (i < steps r) × (drops r f i ≡ true)
  unfolding dropped_by
  dropped-parts i f e = let p = find_below-some (drops r f) (steps r) i e in (p.1, p.0)

  -- the two faces of one collapse differ
  two_faces : (i : ℕ) (g g' : Gone) → i < steps r → (entry_at r i).left ≡ Some g
      → (entry_at r i).right ≡ Some g' → g.face.0 ≢ g'.face.0
  two_faces i g g' l a b z =
      grind (arith, common_steps, gone-side, three_sides)

  -- Numbers of faces, read

  pub left-number : (i : ℕ) (g : Gone) → i < steps r → (entry_at r i).left ≡ Some g
      → face_number r g.face.0 ≡ faces_before r (steps r - suc i)
  unfolding face_number
  left-number i g l e =
      let a = is_gone-from g.face.0 (entry_at r i).left g e refl in
      let none : cond (is_gone g.face.0 (entry_at r i).left) 0
      (one_if (is_some (entry_at r i).left)) ≡ 0 =
      cond-true _ 0 (one_if (is_some (entry_at r i).left)) a in
      let k = faces_before r (steps r - suc i) in
      ap (face_at r g.face.0) (dropped-by i g.face.0 l (or_left _ _ a)) ∙ ap (λ n. k + n) none
      ∙ (let plain : k + 0 ≡ k = omega arith in plain)

  pub right-number : (i : ℕ) (g : Gone) → i < steps r → (entry_at r i).right ≡ Some g
      → face_number r g.face.0
      ≡ faces_before r (steps r - suc i) + one_if (is_some (entry_at r i).left)
  unfolding face_number
  right-number i g l e =
      let a = is_gone-from g.face.0 (entry_at r i).right g e refl in
      let not_left : is_gone g.face.0 (entry_at r i).left ≡ false =
      false_from_ne_true _ (λ t. let (x, x_is, on) =
      is_gone-parts g.face.0 (entry_at r i).left t in two_faces i x g l x_is e on) in
      let k = faces_before r (steps r - suc i) in
      ap (face_at r g.face.0) (dropped-by i g.face.0 l (or_right _ _ a))
      ∙ ap (λ n. k + n) (cond-false _ 0 (one_if (is_some (entry_at r i).left)) not_left)

  pub data FaceIs (f : ℕ) : Type 0 where
    is_base : place_in f (base_faces r) < length (base_faces r)
        → face_number r f ≡ place_in f (base_faces r) → FaceIs f
    is_left_of : (i : ℕ) (g : Gone) → i < steps r → (entry_at r i).left ≡ Some g → g.face.0 ≡ f
        → face_number r f ≡ faces_before r (steps r - suc i) → FaceIs f
    is_right_of : (i : ℕ) (g : Gone) → i < steps r → (entry_at r i).right ≡ Some g → g.face.0 ≡ f
        → face_number r f ≡ faces_before r (steps r - suc i) + one_if (is_some (entry_at r i).left)
        → FaceIs f

  pub none-number : (f : ℕ) → dropped_by r f ≡ None → face_number r f ≡ place_in f (base_faces r)
  unfolding face_number
  none-number f e = ap (face_at r f) e

  none-place : (f : ℕ) → f < r.net.faces → dropped_by r f ≡ None
      → place_in f (base_faces r) < length (base_faces r)
  unfolding base_faces
  none-place f l e =
      picked-has (λ f. is_none (dropped_by r f)) 0 r.net.faces f (omega arith) (omega arith)
      (ap is_none e)

  pub face_is : (f : ℕ) → f < r.net.faces → FaceIs f
  face_is f l =
      elim (option_cases (dropped_by r f)) [
        | inl e ↦ is_base (none-place f l e) (none-number f e)
        | inr (i, e) ↦
            let p = dropped-parts i f e in
            elim (or_cases _ _ p.1) [
              | inl a ↦ (let (g, g_is, on) = is_gone-parts f (entry_at r i).left a in
                  is_left_of i g p.0 g_is on (ap (face_number r) (sym on)
                  ∙ left-number i g p.0 g_is))
              | inr a ↦ (let (g, g_is, on) = is_gone-parts f (entry_at r i).right a in
                  is_right_of i g p.0 g_is on (ap (face_number r) (sym on)
                  ∙ right-number i g p.0 g_is))
            ]
      ]

  -- The hierarchy counts faces in the same way
  pub first-face : (k : ℕ) → k ≤ steps r → first_face (hierarchy_of r) k ≡ faces_before r k
  unfolding first_face faces_before
  first-face zero l = length-map (base_faces r) (numbered_face r)
  first-face (suc k) l =
      let h = hierarchy_of r in
      let c = step_of r k in
      let old = first-face k (omega arith) in
      let a : is_some (record_at h k).left ≡ is_some c.left =
      ap (λ x. is_some x.left) (record-at r k l) ∙ numbered-some r c.left in
      let b : is_some (record_at h k).right ≡ is_some c.right =
      ap (λ x. is_some x.right) (record-at r k l) ∙ numbered-some r c.right in
      let a' = ap one_if a in
      let b' = ap one_if b in
      omega arith

  pub first-base : first_face (hierarchy_of r) 0 ≡ length (base_faces r)
  unfolding first_face
  first-base = length-map (base_faces r) (numbered_face r)

  pub first-next : (k : ℕ) → k < steps r → first_face (hierarchy_of r) (suc k)
      ≡ first_face (hierarchy_of r) k + one_if (is_some (step_of r k).left) + one_if
      (is_some (step_of r k).right)
  unfolding first_face
  first-next k l =
      grind (arith, common_steps, numbered-some, record-at)

  same-side : (e : Option Side)
      → number_of (numbered_side r e) ≡ side_moved (λ e. side_by (face_number r) e) (number_of e)
  same-side None = refl
  same-side (Some e) = refl

  same-gone : (f : ℕ) (g : Option Gone) → ((x : Gone) → g ≡ Some x → face_number r x.face.0 ≡ f)
      → SameGone (face_number r) f g (numbered_gone r g)
  same-gone f None is = tt
  same-gone f (Some x) is = (is x refl, same-side x.first, same-side x.second)

  pub face-left : (i k : ℕ) → i + suc k ≡ steps r
      → SameGone (face_number r) (first_face (hierarchy_of r) k) (entry_at r i).left
      (record_at (hierarchy_of r) k).left
  face-left i k is =
      let at : steps r - suc k ≡ i = omega arith in
      let back : steps r - suc i ≡ k = omega arith in
      let k_lt : k < steps r = omega arith in
      let record_is : (record_at (hierarchy_of r) k).left ≡ numbered_gone r (entry_at r i).left =
      ap (λ c. c.left) (record-at r k k_lt)
      ∙ ap (λ n. numbered_gone r (entry_at r n).left) at in
      subst (SameGone (face_number r) (first_face (hierarchy_of r) k) (entry_at r i).left)
      (sym record_is)
      (same-gone (first_face (hierarchy_of r) k) (entry_at r i).left
      (λ x e. left-number i x (omega arith) e ∙ ap (faces_before r) back
      ∙ sym (first-face k (omega arith))))

  pub face-right : (i k : ℕ) → i + suc k ≡ steps r
      → SameGone (face_number r)
      (first_face (hierarchy_of r) k + one_if (is_some (record_at (hierarchy_of r) k).left))
      (entry_at r i).right (record_at (hierarchy_of r) k).right
  face-right i k is =
      let h = hierarchy_of r in
      let at : steps r - suc k ≡ i = omega arith in
      let back : steps r - suc i ≡ k = omega arith in
      let k_lt : k < steps r = omega arith in
      let record_is : (record_at h k).right ≡ numbered_gone r (entry_at r i).right =
      ap (λ c. c.right) (record-at r k k_lt)
      ∙ ap (λ n. numbered_gone r (entry_at r n).right) at in
      let left_is : is_some (record_at h k).left ≡ is_some (entry_at r i).left =
      ap (λ c. is_some c.left) (record-at r k k_lt) ∙ numbered-some r (step_of r k).left
      ∙ ap (λ n. is_some (entry_at r n).left) at in
      let first_is = first-face k (omega arith) in
      let one = ap one_if left_is in
      subst (SameGone (face_number r) (first_face h k + one_if (is_some (record_at h k).left))
      (entry_at r i).right) (sym record_is)
      (same-gone (first_face h k + one_if (is_some (record_at h k).left)) (entry_at r i).right
      (λ x e.
      let n = right-number i x (omega arith) e in
      let b = ap (faces_before r) back in
      omega arith))
