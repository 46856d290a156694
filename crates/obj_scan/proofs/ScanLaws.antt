-- Laws of what lines gave.
use Rattle.std.proofs.Common.{◌≡◌, ℕ, zero, suc, ◌+◌, ◌-◌, ◌<◌, ◌≤◌, Bool, true, false, ◌==◌}
use Rattle.std.proofs.Common.{nat_lt, List, [], ◌∷◌, ◌++◌, length, take, drop, Option, Result, refl}
use Rattle.std.proofs.Common.{sym, ◌∙◌, ap, subst, arith, length-append}
use Rattle.std.specs.List.{All}
use Rattle.std.proofs.lemmas.Bool.{ltb-true}
use Rattle.std.proofs.lemmas.List.{take-append-drop}
use Rattle.std.proofs.lemmas.List.Elements.{All-append, All-cons, All-nil, All-take, All-drop}
use Rattle.std.proofs.Math.Seq.{take-append-add}
use Rattle.pm_base.specs.declared.mesh.Corners.{Corners}
use Rattle.pm_base.specs.Place.{Place}
use Rattle.pm_ears.specs.declared.recut.Polygon.{Polygon}
use Rattle.pm_ears.specs.Recutting.{IsPolygonWithin}
use Rattle.obj_lines.specs.Text.{is_continued}
use Rattle.obj_read.specs.declared.fault.ObjFault.{ObjFault}
use Rattle.obj_read.specs.declared.fault.ObjFail.{ObjFail}
use Rattle.obj_read.specs.declared.fault.ObjFail.TheVariants as fails
use Rattle.obj_read.specs.Fails.{IsLineFault}
use Rattle.obj_lines.specs.declared.fault.LineFault.{LineFault}
use Rattle.obj_lines.specs.declared.fault.TextFail.{TextFail}
use Rattle.obj_lines.specs.declared.fault.TextFail.TheVariants as text_fails
use Rattle.obj_lines.specs.Fails.{IsLineFault as IsTextFault}
use Rattle.obj_scan.specs.Polygons.{before_least, begun_least, fan, fan_of, triangles}
use Rattle.obj_scan.specs.declared.fault.ScanFault.{ScanFault}
use Rattle.obj_scan.specs.declared.passed.Kind.{Kind}
use Rattle.obj_scan.specs.Judged.{Scanned, Found, in_line, inexact_after, polygons_after}
use Rattle.obj_scan.specs.Judged.{with_scanned}
use Rattle.obj_scan.specs.Meaning.{IsWithinLimits}
use Rattle.obj_scan.specs.Passing.{passed_count}
use Rattle.obj_scan.specs.Refusals.{of_line}
use Rattle.obj_prepare.specs.Named.{AreVerticesBelow}
use Rattle.obj_scan.specs.Reading.{IsScanning, given, ended}

-- A polygon of n corners has n - 2 triangles.

fan_length : (a : ℕ) (rest : List ℕ) → length (fan a rest) ≡ length rest - 1
fan_length a [] = refl
fan_length a (b ∷ []) = refl
fan_length a (b ∷ c ∷ rest) = omega (arith, fan_length a (c ∷ rest))

fan_of_length : (corners : List ℕ) → length (fan_of corners) ≡ length corners - 2
fan_of_length [] = refl
fan_of_length (a ∷ rest) = omega (arith, fan_length a rest)

turned_length : (n : ℕ) (corners : List ℕ) → length (drop n corners ++ take n corners)
    ≡ length corners
turned_length n corners =
    omega (
      arith,
      length-append (drop n corners) (take n corners),
      length-append (take n corners)
          (drop n corners),
      ap length (take-append-drop n corners),
    )

triangles_case : (points : List Place) (corners : List ℕ) (b : Bool) → (length corners == 3) ≡ b
    → length (triangles points corners) ≡ length corners - 2
unfolding triangles begun_least
triangles_case points corners true is = rw is (fan_of_length corners)
triangles_case points corners false is =
    let n = before_least points corners corners in
    rw is (fan_of_length (drop n corners ++ take n corners)
    ∙ ap (λ k. k - 2) (turned_length n corners))

triangles_length : (points : List Place) (corners : List ℕ) → length (triangles points corners)
    ≡ length corners - 2
triangles_length points corners = triangles_case points corners (length corners == 3) refl

-- Their corners are those of the polygon.

fan_corners : (n a : ℕ) (rest : List ℕ) → a < n → All (λ (c : ℕ). c < n) rest
    → All (AreVerticesBelow n) (fan a rest)
fan_corners n a [] lt all = All-nil (AreVerticesBelow n)
fan_corners n a (b ∷ []) lt all = All-nil (AreVerticesBelow n)
fan_corners n a (b ∷ c ∷ rest) lt all = first_and (record { a = a; b = b; c = c })
    (fan a (c ∷ rest))
    (record { a = lt; b = all 0 0 (omega arith); c = all 1 0 (omega arith) })
    (fan_corners n a (c ∷ rest) lt (λ i d l. all (suc i) d (omega (arith, l))))
  where
    first_and : (f : Corners) (fs : List Corners) → AreVerticesBelow n f
        → All (AreVerticesBelow n) fs → All (AreVerticesBelow n) (f ∷ fs)
    first_and f fs here later zero d l = here
    first_and f fs here later (suc i) d l = later i d (omega (arith, l))

fan_of_corners : (n : ℕ) (corners : List ℕ) → All (λ (c : ℕ). c < n) corners
    → All (AreVerticesBelow n) (fan_of corners)
fan_of_corners n [] all = All-nil (AreVerticesBelow n)
fan_of_corners n (a ∷ rest) all =
    fan_corners n a rest (all 0 0 (omega arith)) (λ i d l. all (suc i) d (omega (arith, l)))

corners_case : (points : List Place) (n : ℕ) (corners : List ℕ) (b : Bool)
    → (length corners == 3) ≡ b → All (λ (c : ℕ). c < n) corners
    → All (AreVerticesBelow n) (triangles points corners)
unfolding triangles begun_least
corners_case points n corners true is all = rw is (fan_of_corners n corners all)
corners_case points n corners false is all =
    let k = before_least points corners corners in
    let P : ℕ → Type 0 = λ c. c < n in
    rw is (fan_of_corners n (drop k corners ++ take k corners)
    (All-append P (drop k corners) (take k corners) (All-drop P k corners all)
    (All-take P k corners all)))

-- What the lines gave stays within the limits.

wider : (n k : ℕ) (fs : List Corners) → n ≤ k → All (AreVerticesBelow n) fs
    → All (AreVerticesBelow k) fs
wider n k fs le all = λ i d l. let f =
    all i d l in
    record { a = omega (arith, f.a, le); b = omega (arith, f.b, le); c = omega (arith, f.c, le) }

inexact_few : (n k : ℕ) (exact : Bool) → n ≤ k → inexact_after n exact ≤ k + 1
inexact_few n k true le = omega (arith, le)
inexact_few n k false le = omega (arith, le)

pub vertex_within : (s : Scanned) (line : ℕ) (p : Place) (exact : Bool) (kind : Option Kind)
    → IsWithinLimits s → length s.points < 1048576
    → IsWithinLimits (with_scanned s line (Found.vertex p exact kind))
vertex_within s line p exact kind within room = record {
  points = omega (arith, room, length-append s.points (p ∷ []));
  inexact = omega (
    arith,
    inexact_few s.inexact (length s.points) exact within.inexact,
    length-append s.points (p ∷ []),
  );
  faces = within.faces;
  corners = wider (length s.points) (length (s.points ++ p ∷ [])) s.faces
      (omega (arith, length-append s.points (p ∷ []))) within.corners;
  polygons = within.polygons;
  polygons_few = within.polygons_few;
}

pub vertex_scanning : (s t : Scanned) (line : ℕ) (p : Place) (exact : Bool) (kind : Option Kind)
    → IsScanning line s → length s.points < 1048576
    → t ≡ with_scanned s line (Found.vertex p exact kind) → passed_count t.passed < line + 1
    → IsScanning (line + 1) t
vertex_scanning s t line p exact kind scanning room is few = record {
  within = subst IsWithinLimits (sym is) (vertex_within s line p exact kind scanning.within room);
  passed = few;
}

-- One polygon more is at most so many triangles more, and is among them.
polygons_case : (ps : List Polygon) (faces : ℕ) (corners : List ℕ) (b : Bool)
    → nat_lt 3 (length corners) ≡ b → length ps ≤ faces
    → length (polygons_after ps faces corners) ≤ faces + (length corners - 2)
polygons_case ps faces corners true some le =
    let p : Polygon = record { first = faces; triangles = length corners - 2 } in
    rw some (omega (arith, ltb-true 3 (length corners) some, le, length-append ps (p ∷ [])))
polygons_case ps faces corners false few le = rw few (omega (arith, le))

polygons_within : (ps : List Polygon) (faces : ℕ) (corners : List ℕ) (b : Bool)
    → nat_lt 3 (length corners) ≡ b → All (IsPolygonWithin faces) ps
    → All (IsPolygonWithin (faces + (length corners - 2))) (polygons_after ps faces corners)
polygons_within ps faces corners true some all =
    let n = faces + (length corners - 2) in
    let p : Polygon = record { first = faces; triangles = length corners - 2 } in
    rw some (All-append (IsPolygonWithin n) ps (p ∷ []) (λ i d l. omega (arith, all i d l))
    (All-cons (IsPolygonWithin n) p [] (omega arith) (All-nil (IsPolygonWithin n))))
polygons_within ps faces corners false few all = rw few (λ i d l. omega (arith, all i d l))

pub polygon_kept : (s : Scanned) (line : ℕ) (corners : List ℕ) → IsWithinLimits s
    → All (λ (c : ℕ). c < length s.points) corners → length s.faces + (length corners - 2) ≤ 1048576
    → IsWithinLimits (with_scanned s line (Found.polygon corners))
polygon_kept s line corners limits within room =
    let all = s.faces ++ triangles s.points corners in
    let n : length all ≡ length s.faces + (length corners - 2) =
    omega (
      arith,
      length-append s.faces (triangles s.points corners),
      triangles_length s.points
          corners,
    ) in
    record {
      points = limits.points;
      inexact = limits.inexact;
      faces = omega (arith, n, room);
      corners = All-append (AreVerticesBelow (length s.points)) s.faces
          (triangles s.points corners) limits.corners
          (corners_case s.points (length s.points) corners (length corners == 3) refl within);
      polygons = subst (λ k. All (IsPolygonWithin k)
          (polygons_after s.polygons (length s.faces) corners)) (sym n)
          (polygons_within s.polygons (length s.faces) corners (nat_lt 3 (length corners)) refl
          limits.polygons);
      polygons_few = omega (
        arith,
        n,
        polygons_case s.polygons (length s.faces) corners
            (nat_lt 3 (length corners)) refl limits.polygons_few,
      );
    }

pub polygon_scanning : (s t : Scanned) (line : ℕ) (corners : List ℕ) → IsScanning line s
    → All (λ (c : ℕ). c < length s.points) corners → length s.faces + (length corners - 2) ≤ 1048576
    → t ≡ with_scanned s line (Found.polygon corners) → IsScanning (line + 1) t
polygon_scanning s t line corners scanning within room is = rw is (record {
  within = polygon_kept s line corners scanning.within within room;
  passed = omega (arith, scanning.passed);
})

-- A fault of what a text gives is the line's.
pub given_fault : (s : Scanned) (r : Result Found ObjFault) (fail : ObjFail) (line : ℕ)
    → IsLineFault fail line r → IsTextFault (of_line fail) (given s line (in_line r))
given_fault s r fails.Read line fault = fault
given_fault s r fails.OutOfMemory line fault = tt
given_fault s r (fails.Fault e l) line (at, is) =
    rw at (ap (λ (f : Result Found ObjFault). given s line (in_line f)) is)

pub ended_fault : (r : Result Scanned (LineFault ScanFault)) (fail : TextFail ScanFault)
    → IsTextFault fail r → IsTextFault fail (ended r)
ended_fault r text_fails.Read fault = fault
ended_fault r text_fails.OutOfMemory fault = tt
ended_fault r (text_fails.Fault e) is = ap ended is

-- A text without its backslash, after another.
last_case : (begun text : List ℕ) → 0 < length text
    → take (length (begun ++ text) - 1) (begun ++ text) ≡ begun ++ take (length text - 1) text
last_case begun text some =
    let n : length (begun ++ text) - 1 ≡ length begun + (length text - 1) =
    omega (arith, length-append begun text, some) in
    ap (λ k. take k (begun ++ text)) n ∙ take-append-add begun text (length text - 1)

some_continued : (text : List ℕ) → is_continued text ≡ true → 0 < length text
unfolding is_continued
some_continued [] is = let e : false ≡ true = is in cc
some_continued (b ∷ text) is = omega arith

pub without_last : (begun text after : List ℕ) (n : ℕ) → is_continued text ≡ true
    → n ≡ length text - 1 → after ≡ begun ++ take n text
    → after ++ 32 ∷ [] ≡ take (length (begun ++ text) - 1) (begun ++ text) ++ 32 ∷ []
without_last begun text after n is at after_is =
    ap (λ l. l ++ 32 ∷ []) (after_is ∙ ap (λ k. begun ++ take k text) at
    ∙ sym (last_case begun text (some_continued text is)))
