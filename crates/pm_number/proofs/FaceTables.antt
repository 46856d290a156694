-- The table of a run's face numbers, one record more at a time.
use Rattle.std.proofs.lemmas.Grind.{common_steps}
use Rattle.std.proofs.Common.{suc, ◌≡◌, ℕ, ◌+◌, ◌-◌, ◌<◌, ◌≤◌, List, length, get_or, Option, None}
use Rattle.std.proofs.Common.{Some, is_some, inl, inr, refl, sym, ap, ◌∙◌, subst, arith}
use Rattle.std.proofs.lemmas.Bool.{cases_lt, false≢true}
use Rattle.std.proofs.lemmas.List.{length-set, get_or_read}
use Rattle.pm_base.proofs.Search.{option_cases}
use Rattle.pm_base.specs.Counts.{one_if}
use Rattle.pm_base.specs.declared.log.Gone.{Gone}
use Rattle.pm_base.specs.declared.log.Collapse.{Collapse}
use Rattle.pm_forest.specs.Forest.{record_count}
use Rattle.pm_forest.proofs.FaceNumbers.{first_face-mono}
use Rattle.pm_number.specs.Stages.{Run, steps, entry_at, IsMerging}
use Rattle.pm_number.specs.Numbering.{place_in, base_faces, step_of, faces_before}
use Rattle.pm_number.specs.Numbering.{face_number, hierarchy_of}
use Rattle.pm_number.specs.Tables.{IsSmallRun, HasNumbers, RootsHave, GoneHas, with_gone}
use Rattle.pm_number.proofs.Positions.{at_place, picked-at}
use Rattle.pm_number.proofs.NodeNumbers.{count}
use Rattle.pm_number.proofs.NumberedFaces.{none-number, is_base, is_left_of, is_right_of, face_is}
use Rattle.pm_number.proofs.NumberedFaces.{left-number, right-number, first-face}
use Rattle.pm_number.proofs.FacePositions.{gone-lt}
use Rattle.pm_number.proofs.RunCounts.{face-count}
use Rattle.pm_number.proofs.NumberLaws.{set_keeps, set_makes}

pub bases_inside : (r : Run) → IsMerging r → (j : ℕ) → j < length (base_faces r)
    → (get_or (base_faces r) j 0 < r.net.faces) × (face_number r (get_or (base_faces r) j 0) ≡ j)
unfolding base_faces
bases_inside r run j l =
    grind (arith, common_steps, false≢true, none-number, option_cases, picked-at)

pub with_gone-len : (table : List ℕ) (g : Option Gone) (number : ℕ)
    → length (with_gone table g number) ≡ length table
with_gone-len table None number = refl
with_gone-len table (Some g) number = length-set table g.face.0 number

-- the number of a dropped face is the right one
abbrev pub GoneFits : (ℕ → ℕ) → Option Gone → ℕ → ℕ → Type 0
GoneFits number None n faces = Unit {0}
GoneFits number (Some g) n faces = (n ≡ number g.face.0) × (g.face.0 < faces)

pub gone_keeps : (table : List ℕ) (number : ℕ → ℕ) (g : Option Gone) (n v : ℕ)
    → GoneFits number g n (length table) → get_or table v 0 ≡ number v
    → get_or (with_gone table g n) v 0 ≡ number v
gone_keeps table number None n v fits has = has
gone_keeps table number (Some g) n v fits has =
    set_keeps table number g.face.0 n v fits.0 has fits.1

pub gone_has : (table : List ℕ) (number : ℕ → ℕ) (g : Option Gone) (n : ℕ)
    → GoneFits number g n (length table) → GoneHas (with_gone table g n) number g
gone_has table number None n fits = tt
gone_has table number (Some g) n fits = set_makes table number g.face.0 n fits.0 fits.1

gone_stays : (table : List ℕ) (number : ℕ → ℕ) (g o : Option Gone) (n : ℕ)
    → GoneFits number g n (length table) → GoneHas table number o
    → GoneHas (with_gone table g n) number o
gone_stays table number g None n fits has = tt
gone_stays table number g (Some x) n fits has = gone_keeps table number g n x.face.0 fits has

fits_from : (number : ℕ → ℕ) (g : Option Gone) (n faces : ℕ)
    → ((x : Gone) → g ≡ Some x → (number x.face.0 ≡ n) × (x.face.0 < faces))
    → GoneFits number g n faces
fits_from number None n faces each = tt
fits_from number (Some x) n faces each = let p = each x refl in (sym p.0, p.1)

-- The faces of the collapses that became the first records.
abbrev pub RecordsHave : Run → List ℕ → ℕ → Type 0
RecordsHave r table d =
    (j : ℕ) → j < d → GoneHas table (face_number r) (step_of r j).left
    × GoneHas table (face_number r) (step_of r j).right

pub dropped_fit : (r : Run) → IsMerging r → (d : ℕ) → d < steps r → (n : ℕ) → n ≡ faces_before r d →
    GoneFits (face_number r) (step_of r d).left n r.net.faces
    × GoneFits (face_number r) (step_of r d).right (n + one_if (is_some (step_of r d).left))
    r.net.faces
dropped_fit r run d l n is =
    let i = steps r - suc d in
    let i_lt : i < steps r = omega arith in
    let back : steps r - suc i ≡ d = omega arith in
    let logged = run.logged i i_lt in (
      fits_from (face_number r) (step_of r d).left n r.net.faces
          (λ x x_is. (
            left-number r run i x i_lt x_is ∙ ap (faces_before r) back
                ∙ sym is,
            gone-lt r run i _ _ (entry_at r i).left x logged.left x_is,
          )),
      fits_from (face_number r) (step_of r d).right (n + one_if (is_some (step_of r d).left))
          r.net.faces (λ x x_is. (
            right-number r run i x i_lt x_is
                ∙ ap (λ k. faces_before r k + one_if (is_some (entry_at r i).left)) back
                ∙ ap (λ k. k + one_if (is_some (entry_at r i).left)) (sym is),
            gone-lt r run i _ _ (entry_at r i).right x logged.right x_is,
          )),
    )

pub faces_next : (r : Run) (d : ℕ)
    → faces_before r (d + 1) ≡ faces_before r d + one_if (is_some (step_of r d).left) + one_if
    (is_some (step_of r d).right)
unfolding faces_before
faces_next r d = let next : d + 1 ≡ suc d = omega arith in rw next refl

pub faces_before-le : (r : Run) → IsMerging r → (d : ℕ) → d ≤ steps r
    → faces_before r d ≤ r.net.faces
faces_before-le r run d l =
    let h = hierarchy_of r in
    let is = first-face r run d l in
    let all = count r in
    let top = first_face-mono h d (record_count h) (omega arith) in
    let faces = face-count r run in
    omega arith

pub faces_start : (r : Run) → faces_before r 0 ≡ length (base_faces r)
unfolding faces_before
faces_start r = refl

pub few_bases : {r : Run} {bases : List ℕ} → IsSmallRun r → bases ≡ base_faces r
    → length bases ≤ 1048576
few_bases {r} {bases} small is =
    let most = faces_before-le r small.merging 0 (omega arith) in
    let start = faces_start r in
    let few = small.few_faces in
    let len = ap length is in
    omega arith

-- what is read of the list of base faces
pub base_read : {r : Run} {bases : List ℕ} {i f : ℕ} → IsMerging r → bases ≡ base_faces r
    → i < length bases → f ≡ get_or bases i f → f < r.net.faces
base_read {r} {bases} {i} {f} run is l read =
    rw (get_or_read bases i f l read 0 ∙ ap (λ xs. get_or xs i 0) is)
    (bases_inside r run i (rw is at l)).0

-- A table of faces once the base faces and those of d records are numbered, and the next number.
pub record HasDropped (r : Run) (table : List ℕ) (n d : ℕ) : Type 0 where
  pub len : length table ≡ r.net.faces
  pub next : n ≡ faces_before r d
  pub bases : (j : ℕ) → j < length (base_faces r)
      → RootsHave table (face_number r) (base_faces r) j
  pub records : RecordsHave r table d

pub next_small : {r : Run} {table : List ℕ} {next d : ℕ} → IsSmallRun r
    → HasDropped r table next d → d ≤ steps r → next ≤ 1048576
next_small {r} {table} {next} {d} small has l =
    grind (arith, common_steps, faces_before-le)

pub dropped_more : {r : Run} {table : List ℕ} {n d : ℕ} {c : Collapse} → IsMerging r
    → HasDropped r table n d → c ≡ step_of r d → d < steps r
    → HasDropped r (with_gone (with_gone table c.left n) c.right (n + one_if (is_some c.left)))
    (n + one_if (is_some c.left) + one_if (is_some c.right)) (d + 1)
dropped_more {r} {table} {n} {d} {c} run was c_is l =
    let len = was.len in
    let m = n + one_if (is_some c.left) in
    let fits : GoneFits (face_number r) c.left n r.net.faces
    × GoneFits (face_number r) c.right (n + one_if (is_some c.left)) r.net.faces =
    subst (λ (x : Collapse). GoneFits (face_number r) x.left n r.net.faces
    × GoneFits (face_number r) x.right (n + one_if (is_some x.left)) r.net.faces) (sym c_is)
    (dropped_fit r run d l n was.next) in
    let middle = with_gone table c.left n in
    let middle_len = with_gone-len table c.left n in
    let first : GoneFits (face_number r) c.left n (length table) = rw len fits.0 in
    let second : GoneFits (face_number r) c.right m (length middle) = rw (middle_len, len) fits.1 in
    let keeps : (v : ℕ) → get_or table v 0 ≡ face_number r v
    → get_or (with_gone middle c.right m) v 0 ≡ face_number r v = λ v has.
    gone_keeps middle (face_number r) c.right m v second
    (gone_keeps table (face_number r) c.left n v first has) in
    let stays : (o : Option Gone) → GoneHas table (face_number r) o
    → GoneHas (with_gone middle c.right m) (face_number r) o = λ o has.
    gone_stays middle (face_number r) c.right o m second
    (gone_stays table (face_number r) c.left o n first has) in
    let own : GoneHas (with_gone middle c.right m) (face_number r) c.left
    × GoneHas (with_gone middle c.right m) (face_number r) c.right = (
      gone_stays middle (face_number r) c.right c.left m second
          (gone_has table (face_number r) c.left n first),
      gone_has middle (face_number r) c.right m
          second,
    ) in
    record {
      len = with_gone-len middle c.right m ∙ middle_len ∙ len;
      next = rw c_is (ap (λ k. k + one_if (is_some (step_of r d).left) + one_if
          (is_some (step_of r d).right)) was.next ∙ sym (faces_next r d));
      bases = λ j b. keeps (get_or (base_faces r) j 0) (was.bases j b);
      records = λ j j_lt. elim (cases_lt j d) [
        | inl a ↦ (let old =
            was.records j a in (stays (step_of r j).left old.0, stays (step_of r j).right old.1))
        | inr a ↦
            let j_is : j ≡ d = omega arith in
            subst (λ k. GoneHas (with_gone middle c.right m) (face_number r) (step_of r k).left
            × GoneHas (with_gone middle c.right m) (face_number r) (step_of r k).right)
            (sym j_is)
            (subst (λ (x : Collapse). GoneHas (with_gone middle c.right m) (face_number r) x.left
            × GoneHas (with_gone middle c.right m) (face_number r) x.right) c_is own)
      ];
    }

gone_read : (table : List ℕ) (number : ℕ → ℕ) (g : Option Gone) (x : Gone) → g ≡ Some x
    → GoneHas table number g → get_or table x.face.0 0 ≡ number x.face.0
gone_read table number g x is has = subst (GoneHas table number) is has

pub faces_all : {r : Run} {table : List ℕ} {n : ℕ} → IsMerging r → HasDropped r table n (steps r)
    → HasNumbers table (face_number r) r.net.faces
faces_all {r} {table} run has = record {
  len = has.len;
  each = λ f l. elim (face_is r run f l) [
    | is_base place is ↦
        subst (λ w. get_or table w 0 ≡ face_number r w) (at_place f 0 (base_faces r) place)
        (has.bases (place_in f (base_faces r)) place)
    | is_left_of i g i_lt g_is on is ↦
        let back : steps r - suc (steps r - suc i) ≡ i = omega arith in
        rw (← on) (gone_read table (face_number r) (step_of r (steps r - suc i)).left g
        (ap (λ k. (entry_at r k).left) back ∙ g_is) (has.records (steps r - suc i) (omega arith)).0)
    | is_right_of i g i_lt g_is on is ↦
        let back : steps r - suc (steps r - suc i) ≡ i = omega arith in
        rw (← on) (gone_read table (face_number r) (step_of r (steps r - suc i)).right g
        (ap (λ k. (entry_at r k).right) back ∙ g_is)
        (has.records (steps r - suc i) (omega arith)).1)
  ];
}
