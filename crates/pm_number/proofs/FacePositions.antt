-- Where the numbers of a run's faces lie in its hierarchy, and that each is taken once.
use Rattle.std.proofs.Common.{suc, ◌≡◌, ℕ, ◌+◌, ◌-◌, ◌*◌, ◌%◌, ◌<◌, ◌≤◌, true, false}
use Rattle.std.proofs.lemmas.Grind.{common_steps}
use Rattle.std.proofs.Common.{is_none, is_some, unwrap_or, Option, Some, None, length, get_or, inl}
use Rattle.std.proofs.Common.{inr, sym, ap, ◌∙◌, arith}
use Rattle.std.proofs.lemmas.Bool.{cases_Bool, and_from, and_left, and_right}
use Rattle.std.proofs.lemmas.Bool.{eq-eqb, ne_eqb, cond-true, cond-false, false≢true}
use Rattle.std.proofs.lemmas.Option.{none-some, same_Some}
use Rattle.std.proofs.lemmas.List.{get_or-map}
use Rattle.pm_base.proofs.Search.{option_cases}
use Rattle.pm_base.specs.Counts.{one_if}
use Rattle.pm_base.specs.declared.log.Gone.{Gone}
use Rattle.pm_forest.proofs.FaceNumbers.{first_face-mono, revealed-parts, revealed-from, which_face}
use Rattle.pm_forest.specs.Faces.{no_face_corners, no_face, first_face, face_count, revealed_by}
use Rattle.pm_forest.specs.Faces.{is_left, corners_told_by, corners_of, from_leaf}
use Rattle.pm_forest.specs.Forest.{record_count, record_at}
use Rattle.pm_number.proofs.NodeNumbers.{count, record-at}
use Rattle.pm_number.proofs.Positions.{at_place, place-once, picked-at}
use Rattle.pm_number.proofs.Stages.{side-face, base-first}
use Rattle.pm_number.specs.Numbering.{place_in, dropped_by, base_faces, step_of, faces_before}
use Rattle.pm_number.specs.Numbering.{face_number, leaf_number, numbered_face, numbered_gone}
use Rattle.pm_number.specs.Numbering.{hierarchy_of}
use Rattle.pm_number.specs.Stages.{Run, steps, entry_at, net_of_run_after, IsGone, IsMerging}
use Rattle.pm_number.specs.Stages.{side_by}
use Rattle.pm_number.proofs.NumberedFaces.{gone-side, numbered-some, some_gone, base-none}
use Rattle.pm_number.proofs.NumberedFaces.{left-number, right-number, none-number, face_is}
use Rattle.pm_number.proofs.NumberedFaces.{first-face, first-base, first-next, is_base, is_left_of}
use Rattle.pm_number.proofs.NumberedFaces.{is_right_of}

module _ (r : Run) (run : IsMerging r) where
  -- Where a face's number lies
  pub data Lies (f : ℕ) : Type 0 where
    base_at : face_number r f < first_face (hierarchy_of r) 0
        → face_number r f ≡ place_in f (base_faces r)
        → place_in f (base_faces r) < length (base_faces r) → Lies f
    left_at : (k : ℕ) (g : Gone) → k < steps r → (step_of r k).left ≡ Some g → g.face.0 ≡ f
        → face_number r f ≡ first_face (hierarchy_of r) k
        → face_number r f < first_face (hierarchy_of r) (suc k) → Lies f
    right_at : (k : ℕ) (g : Gone) → k < steps r → (step_of r k).right ≡ Some g → g.face.0 ≡ f
        → face_number r f ≡ first_face (hierarchy_of r) k + one_if (is_some (step_of r k).left)
        → face_number r f < first_face (hierarchy_of r) (suc k) → Lies f

  pub lies : (f : ℕ) → f < r.net.faces → Lies f
  lies f l =
      let h = hierarchy_of r in
      let base = first-base r run in
      elim (face_is r run f l) [
        | is_base a b ↦ base_at (omega arith) b a
        | is_left_of i g i_lt is on n ↦
            let k = steps r - suc i in
            let back : steps r - suc k ≡ i = omega arith in
            let k_lt : k < steps r = omega arith in
            let first_is = first-face r run k (omega arith) in
            let up = first-next r run k k_lt in
            let here : (step_of r k).left ≡ Some g = ap (λ n. (entry_at r n).left) back ∙ is in
            let one : one_if (is_some (step_of r k).left) ≡ 1 = ap (λ x. one_if (is_some x)) here in
            left_at k g k_lt here on (omega arith) (omega arith)
        | is_right_of i g i_lt is on n ↦
            let k = steps r - suc i in
            let back : steps r - suc k ≡ i = omega arith in
            let k_lt : k < steps r = omega arith in
            let first_is = first-face r run k (omega arith) in
            let up = first-next r run k k_lt in
            let here : (step_of r k).right ≡ Some g = ap (λ n. (entry_at r n).right) back ∙ is in
            let one : one_if (is_some (step_of r k).right) ≡ 1 =
            ap (λ x. one_if (is_some x)) here in
            let left_is : one_if (is_some (step_of r k).left)
            ≡ one_if (is_some (entry_at r i).left) =
            ap (λ n. one_if (is_some (entry_at r n).left)) back in
            right_at k g k_lt here on (omega arith) (omega arith)
      ]

  pub face-there : (f : ℕ) → f < r.net.faces → face_number r f < face_count (hierarchy_of r)
  face-there f l =
      grind (arith, common_steps, base_at, count, first_face-mono, left_at, lies, right_at)

  same-record : (j k n : ℕ) → first_face (hierarchy_of r) j ≤ n
      → n < first_face (hierarchy_of r) (suc j) → first_face (hierarchy_of r) k ≤ n
      → n < first_face (hierarchy_of r) (suc k) → j ≡ k
  same-record j k n a b c d = grind (arith, common_steps, first_face-mono)

  pub face-once : (f g : ℕ) → f < r.net.faces → g < r.net.faces → face_number r f ≡ face_number r g
      → f ≡ g
  face-once f g l m e =
      grind (
        arith,
        common_steps,
        base_at,
        first_face-mono,
        left_at,
        lies,
        place-once,
        right_at,
        same-record,
        same_Some,
      )

  pub gone-lt : (k : ℕ) (p q : ℕ) (g : Option Gone) (x : Gone) → IsGone (net_of_run_after r k) p q g
      → g ≡ Some x → x.face.0 < r.net.faces
  gone-lt k p q g x a e = let (y, runs, on) = gone-side (net_of_run_after r k) p q g x a e in
      let l = runs.stands.is_side in omega arith

  pub face-back : (f : ℕ) → f < face_count (hierarchy_of r) → (g : ℕ) × (g < r.net.faces)
      × (face_number r g ≡ f)
  unfolding base_faces
  face-back f l =
      let h = hierarchy_of r in
      let c = count r in
      elim (option_cases (revealed_by h f)) [
        | inl e ↦
            let b = base-first h (record_count h) f l e in
            let base = first-base r run in
            let (passes, low, high, place) =
            picked-at (λ f. is_none (dropped_by r f)) 0 r.net.faces f (omega arith) in
            let v = get_or (base_faces r) f 0 in
            let free : dropped_by r v ≡ None =
            grind (arith, common_steps, false≢true, is_none, option_cases) in
            (v, omega arith, none-number r run v free ∙ place)
        | inr (k, e) ↦
            let k_lt = (revealed-parts h f k l e).0 in
            let i = steps r - suc k in
            let i_lt : i < steps r = omega arith in
            let back : steps r - suc i ≡ k = omega arith in
            let s_lt : k < steps r = omega arith in
            let logged = run.logged i i_lt in
            let first_is = first-face r run k (omega arith) in
            let again = ap (faces_before r) back in
            let left_is : is_some (record_at h k).left ≡ is_some (entry_at r i).left =
            ap (λ c. is_some c.left) (record-at r k s_lt)
            ∙ numbered-some r (entry_at r i).left in
            let right_is : is_some (record_at h k).right ≡ is_some (entry_at r i).right =
            ap (λ c. is_some c.right) (record-at r k s_lt)
            ∙ numbered-some r (entry_at r i).right in
            let one = ap one_if left_is in
            elim (which_face h f k l e) [
              | inl p ↦
                  let (g, g_is) = some_gone (entry_at r i).left (sym left_is ∙ p.0) in
                  let n = left-number r run i g i_lt g_is in
                  let q = p.1 in
                  (g.face.0, gone-lt i _ _ (entry_at r i).left g logged.left g_is, omega arith)
              | inr p ↦
                  let (g, g_is) = some_gone (entry_at r i).right (sym right_is ∙ p.0) in
                  let n = right-number r run i g i_lt g_is in
                  let q = p.1 in
                  (g.face.0, gone-lt i _ _ (entry_at r i).right g logged.right g_is, omega arith)
            ]
      ]

  -- The corners of a face are the leaves of its corners
  face_of_some : (g : Option Gone) (x : Gone) → g ≡ Some x
      → (unwrap_or (numbered_gone r g) no_face).face ≡ numbered_face r x.face.0
  face_of_some None x e = absurd (none-some x e)
  face_of_some (Some g) x e = ap (λ z. numbered_face r z.face.0) (same_Some g x e)

  pub corners : (f : ℕ) → f < r.net.faces → corners_of (hierarchy_of r) (face_number r f)
      ≡ numbered_face r f
  unfolding corners_of is_left
  corners f l =
      let h = hierarchy_of r in
      let n = face_number r f in
      let c = count r in
      elim (lies f l) [
        | base_at a b d ↦
            let e : revealed_by h n ≡ None = base-none h (record_count h) n a in
            ap (corners_told_by h n) e
            ∙ get_or-map (numbered_face r) (base_faces r) n 0 no_face_corners (omega arith)
            ∙ ap (λ j. numbered_face r (get_or (base_faces r) j 0)) b
            ∙ ap (numbered_face r) (at_place f 0 (base_faces r) d)
        | left_at k g k_lt is on is_n top ↦
            let e = revealed-from h n k (omega arith) (omega arith) top in
            let has : is_some (record_at h k).left ≡ true =
            ap (λ c. is_some c.left) (record-at r k k_lt) ∙ numbered-some r (step_of r k).left
            ∙ ap is_some is in
            let left : is_left h k n ≡ true = and_from _ _ has (eq-eqb n (first_face h k) is_n) in
            let x = unwrap_or (record_at h k).left no_face in
            let y = unwrap_or (record_at h k).right no_face in
            ap (corners_told_by h n) e ∙ ap (λ z. z.face) (cond-true _ x y left)
            ∙ ap (λ c. (unwrap_or c.left no_face).face) (record-at r k k_lt)
            ∙ face_of_some (step_of r k).left g is ∙ ap (numbered_face r) on
        | right_at k g k_lt is on is_n top ↦
            let e = revealed-from h n k (omega arith) (omega arith) top in
            let left_is : is_some (record_at h k).left ≡ is_some (step_of r k).left =
            ap (λ c. is_some c.left) (record-at r k k_lt)
            ∙ numbered-some r (step_of r k).left in
            let left : is_left h k n ≡ false =
            elim (cases_Bool (is_some (record_at h k).left)) [
              | inl t ↦ (let one : one_if (is_some (step_of r k).left) ≡ 1 =
                  ap one_if (sym left_is ∙ t) in
                  and_right (is_some (record_at h k).left) _
                  (ne_eqb n (first_face h k) (omega arith)))
              | inr t ↦ and_left (is_some (record_at h k).left) _ t
            ] in
            let x = unwrap_or (record_at h k).left no_face in
            let y = unwrap_or (record_at h k).right no_face in
            ap (corners_told_by h n) e ∙ ap (λ z. z.face) (cond-false _ x y left)
            ∙ ap (λ c. (unwrap_or c.right no_face).face) (record-at r k k_lt)
            ∙ face_of_some (step_of r k).right g is ∙ ap (numbered_face r) on
      ]

  side-corner : (e : ℕ) → side_by (face_number r) e % 3 ≡ e % 3
  unfolding side_by
  side-corner e = omega arith

  pub corner : (e : ℕ) → e < 3 * r.net.faces
      → from_leaf (hierarchy_of r) (side_by (face_number r) e) ≡ leaf_number r (r.net.from e)
  unfolding from_leaf
  corner e l =
      grind (
        arith,
        common_steps,
        cond-false,
        cond-true,
        corners,
        eq-eqb,
        ne_eqb,
        side-corner,
        side-face,
      )
