-- What a table of faces gives, as its rows change.
use Rattle.std.proofs.Common.{◌≡◌, ◌≢◌, ℕ, ◌*◌, ◌%◌, ◌<◌, Option, None, List, length, get_or, set}
use Rattle.std.proofs.lemmas.Grind.{common_steps}
use Rattle.std.proofs.Common.{inl, inr, sym, ap, ◌∙◌, subst, arith, get_or-set_other}
use Rattle.std.proofs.Common.{get_or-set_same}
use Rattle.std.proofs.lemmas.List.{length-set, length-map, get_or-map, get_or_read, ext_get_or}
use Rattle.std.proofs.lemmas.List.FromFn.{length-map-range_with_len, get_or-map-range_with_len}
use Rattle.std.proofs.lemmas.Bool.{cases_eq}
use Rattle.pm_base.specs.declared.mesh.Corners.{Corners}
use Rattle.pm_base.specs.Sides.{face_of}
use Rattle.pm_shrink.specs.declared.faces.Row.{Row}
use Rattle.pm_shrink.specs.FaceRows.{Faces, across_in, no_row, face_row, row_corners, across_of}

pub length-row_corners : (rows : List Row) → length (row_corners rows) ≡ length rows
length-row_corners rows = length-map rows (λ r. r.corners)

pub length-across_of : (rows : List Row) → length (across_of rows) ≡ 3 * length rows
unfolding across_of
length-across_of rows =
    length-map-range_with_len (λ e. across_in (face_row rows (face_of e)) (e % 3)) 0
    (3 * length rows)

-- A number in the lists that contracts see is one in the rows.
pub row_in : (rows : List Row) {t : Faces} (f : ℕ)
    → record { faces = row_corners rows; across = across_of rows } ≡ t → f < length t.faces
    → f < length rows
row_in rows f is low =
    omega (arith, length-row_corners rows, ap (λ (x : Faces). length x.faces) is)

pub side_in : (rows : List Row) {t : Faces} (e : ℕ)
    → record { faces = row_corners rows; across = across_of rows } ≡ t → e < length t.across
    → e < 3 * length rows
side_in rows e is low =
    omega (arith, length-across_of rows, ap (λ (x : Faces). length x.across) is)

pub corners_at : (rows : List Row) (f : ℕ) → f < length rows
    → get_or (row_corners rows) f None ≡ (face_row rows f).corners
corners_at rows f l = get_or-map (λ r. r.corners) rows f no_row None l

pub across_at : (rows : List Row) (e : ℕ) → e < 3 * length rows
    → get_or (across_of rows) e None ≡ across_in (face_row rows (face_of e)) (e % 3)
unfolding across_of
across_at rows e l =
    get_or-map-range_with_len (λ e. across_in (face_row rows (face_of e)) (e % 3)) 0
    (3 * length rows) e e None l (omega arith)

-- A list that has at each side what the rows have there.
pub across_is : (rows : List Row) (table : List (Option ℕ)) → length table ≡ 3 * length rows →
    ((e : ℕ) → e < 3 * length rows → across_in (face_row rows (face_of e)) (e % 3)
    ≡ get_or table e None) → across_of rows ≡ table
across_is rows table len each =
    ext_get_or None (across_of rows) table (length-across_of rows ∙ sym len)
    (λ e l. let low : e < 3 * length rows = subst (λ (n : ℕ). e < n) (length-across_of rows) l in
    across_at rows e low ∙ each e low)

-- A list that has for each face the corners that the rows have there.
pub corners_are : (rows : List Row) (faces : List (Option Corners)) → length faces ≡ length rows →
    ((f : ℕ) → f < length rows → (face_row rows f).corners ≡ get_or faces f None)
    → row_corners rows ≡ faces
corners_are rows faces len each =
    ext_get_or None (row_corners rows) faces (length-row_corners rows ∙ sym len)
    (λ f l. let low : f < length rows = subst (λ (n : ℕ). f < n) (length-row_corners rows) l in
    corners_at rows f low ∙ each f low)

-- What another row says after a write is as it was.
other_row : (rows : List Row) (f g i : ℕ) (r : Row) → g ≢ f
    → across_in (face_row (set rows f r) g) i ≡ across_in (face_row rows g) i
other_row rows f g i r ne = ap (λ (k : Row). across_in k i) (get_or-set_other rows f g r no_row ne)

this_row : (rows : List Row) (f g i : ℕ) (r : Row) → f < length rows → g ≡ f
    → across_in (face_row (set rows f r) g) i ≡ across_in r i
this_row rows f g i r low is =
    ap (λ (n : ℕ). across_in (face_row (set rows f r) n) i) is
    ∙ ap (λ (k : Row). across_in k i) (get_or-set_same rows f r no_row low)

-- A row with other corners.
pub across_kept : (rows : List Row) (f : ℕ) (old r : Row) → f < length rows
    → old ≡ get_or rows f old →
    ((i : ℕ) → across_in r i ≡ across_in old i) → across_of (set rows f r) ≡ across_of rows
across_kept rows f old r low value same =
    let len : length (set rows f r) ≡ length rows = length-set rows f r in
    let was : old ≡ face_row rows f = get_or_read rows f old low value no_row in
    across_is (set rows f r) (across_of rows) (length-across_of rows
    ∙ ap (λ (n : ℕ). 3 * n) (sym len))
    (λ e l.
    elim (cases_eq (face_of e) f) [
      | inl is ↦ this_row rows f (face_of e) (e % 3) r low is ∙ same (e % 3)
          ∙ ap (λ (k : Row). across_in k (e % 3)) (was ∙ ap (face_row rows) (sym is))
          ∙ sym (across_at rows e (omega arith))
      | inr ne ↦ other_row rows f (face_of e) (e % 3) r ne ∙ sym (across_at rows e (omega arith))
    ])

-- Another side across one side of a face.
pub across_written : (rows : List Row) (e : ℕ) (old r : Row) (to : Option ℕ) → e < 3 * length rows
    → old ≡ get_or rows (face_of e) old → across_in r (e % 3) ≡ to →
    ((i : ℕ) → i < 3 → i ≢ e % 3 → across_in r i ≡ across_in old i)
    → across_of (set rows (face_of e) r) ≡ set (across_of rows) e to
across_written rows e old r to low value here others =
    let f : ℕ = face_of e in
    let in_rows : f < length rows = omega arith in
    let len : length (set rows f r) ≡ length rows = length-set rows f r in
    let all : length (across_of rows) ≡ 3 * length rows = length-across_of rows in
    let was : old ≡ face_row rows f = get_or_read rows f old in_rows value no_row in
    across_is (set rows f r) (set (across_of rows) e to) (length-set (across_of rows) e to ∙ all
    ∙ ap (λ (n : ℕ). 3 * n) (sym len))
    (λ g l.
    elim (cases_eq g e) [
      | inl is ↦ grind (arith, common_steps, get_or, get_or-set_same, this_row)
      | inr ne ↦
          elim (cases_eq (face_of g) f) [
            | inl is ↦
                this_row rows f (face_of g) (g % 3) r in_rows is
                ∙ others (g % 3) (omega arith) (λ same. ne (omega (arith, is, same)))
                ∙ ap (λ (k : Row). across_in k (g % 3)) (was ∙ ap (face_row rows) (sym is))
            | inr off ↦ other_row rows f (face_of g) (g % 3) r off
          ]
          ∙ sym (across_at rows g (omega arith))
          ∙ sym (get_or-set_other (across_of rows) e g to None ne)
    ])
