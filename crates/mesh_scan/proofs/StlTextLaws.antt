-- What an STL file gives is within the limits, and each of its points is at most 10^32 units away
-- from 0 on each axis.
use Rattle.std.proofs.Common.{◌≡◌, ℕ, ◌+◌, ◌<◌, ◌≤◌, Bool, true, false, nat_le}
use Rattle.std.proofs.Common.{List, [], ◌∷◌, ◌++◌, length, Option, Some, None, refl, subst}
use Rattle.std.specs.Prelude.{ℤ, ◌^◌, ◌||◌, not, nat_lt}
use Rattle.std.proofs.Common.{codes, arith, Ok, Err, inl, inr, length-append, if◌then◌else◌}
use Rattle.std.proofs.lemmas.Bool.{cases_Bool, leb-false}
use Rattle.pm_base.specs.declared.mesh.Corners.{Corners}
use Rattle.pm_base.specs.Place.{Place}
use Rattle.obj_prepare.specs.Exact.{AreExact}
use Rattle.obj_prepare.specs.Named.{AreVerticesBelow}
use Rattle.obj_prepare.specs.Numbers.{decimal_coordinate, is_decimal, exponent, units_of_text}
use Rattle.obj_read.specs.Coordinates.{is_negative, without_sign, with_sign}
use Rattle.obj_read.specs.declared.fault.ObjFault.TheVariants as decimals
use Rattle.obj_read.specs.Fields.{fields}
use Rattle.obj_scan.specs.Meaning.{IsWithinLimits}
use Rattle.stl_read.specs.declared.fault.Refused.{Refused}
use Rattle.stl_read.specs.declared.stage.Stage.{Stage}
use Rattle.stl_read.specs.declared.stage.Stage.TheVariants as stages
use Rattle.stl_read.specs.Vertices.{Triangles, corner_of}
use Rattle.stl_read.specs.Binary.{binary_meaning}
use Rattle.stl_read.specs.Ascii.{SoFar, is_word, with_vertex, at_stage, with_corner, three}
use Rattle.stl_read.specs.Ascii.{of_decimal, with_point_at, point_of, vertex_of, vertex_line}
use Rattle.stl_read.specs.Ascii.{end_line, by_stage}
use Rattle.stl_read.specs.Ascii.{stage_after, after_words, after_text, ended, from_line, at_start}
use Rattle.stl_read.specs.Ascii.{texts, text_meaning, without_cr}
use Rattle.stl_read.specs.Stl.{is_text, stl_meaning_of}
use Rattle.mesh_scan.specs.Meaning.{stl_scanned}
use Rattle.mesh_scan.proofs.ExactLaws.{IsSound, decimal_exact}
use Rattle.mesh_scan.proofs.StlLaws.{bind_ok, if_ok, below_wider, corner_fits, IsFit}
use Rattle.mesh_scan.proofs.StlLaws.{with_face, fit_sound, nothing_fits, binary_sound}

-- The vertices that a stage holds are among so many.
abbrev HoldsBelow : ℕ → Stage → Type 0
HoldsBelow n (stages.Second a) = a < n
HoldsBelow n (stages.Third a b) = (a < n) × (b < n)
HoldsBelow n (stages.Full f) = AreVerticesBelow n f
HoldsBelow n (stages.Done f) = AreVerticesBelow n f
HoldsBelow n _ = Unit {0}

record IsFitSoFar (s : SoFar) : Type 0 where
  triangles : IsFit s.triangles
  few : length s.triangles.faces ≤ 1048576
  stage : HoldsBelow (length s.triangles.points) s.stage

vertex_held : (n k v : ℕ) (stage next : Stage) → n ≤ k → v < k → HoldsBelow n stage
    → with_vertex stage v ≡ Some next → HoldsBelow k next
vertex_held n k v stages.First next le lt held is =
    let e : stages.Second v ≡ next = cc in subst (HoldsBelow k) e lt
vertex_held n k v (stages.Second a) next le lt held is =
    let e : stages.Third a v ≡ next = cc in subst (HoldsBelow k) e (omega (arith, held), lt)
vertex_held n k v (stages.Third a b) next le lt held is =
    let f : Corners = record { a = a; b = b; c = v } in
    let e : stages.Full f ≡ next = cc in
    subst (HoldsBelow k) e
    (record { a = omega (arith, held.0); b = omega (arith, held.1); c = lt })
vertex_held n k v stages.Outside next le lt held is = absurd (cc)
vertex_held n k v stages.Solid next le lt held is = absurd (cc)
vertex_held n k v stages.Facet next le lt held is = absurd (cc)
vertex_held n k v (stages.Full f) next le lt held is = absurd (cc)
vertex_held n k v (stages.Done f) next le lt held is = absurd (cc)

at_ok : (line : ℕ) (t : Triangles) (o : Option Stage) (s : SoFar) → at_stage line t o ≡ Ok s
    → (stage : Stage) × (o ≡ Some stage) × (record { stage = stage; triangles = t } ≡ s)
at_ok line t (Some stage) s is =
    let made : SoFar = record { stage = stage; triangles = t } in
    let e : made ≡ s = cc in (stage, refl, e)
at_ok line t None s is = absurd (cc)

decimal_case : (line : ℕ) (bad far : Bool) (y x : ℤ)
    → of_decimal line (if bad then Err decimals.BadNumber
    else if far then Err decimals.OutOfRange else Ok y) ≡ Ok x
    → (if bad then Err decimals.BadNumber
    else if far then Err decimals.OutOfRange else Ok y) ≡ Ok x
decimal_case line true far y x is = absurd (cc)
decimal_case line false true y x is = absurd (cc)
decimal_case line false false y x is = let same : y ≡ x = cc in cc

decimal_ok : (line : ℕ) (field : List ℕ) (x : ℤ)
    → of_decimal line (decimal_coordinate field) ≡ Ok x → decimal_coordinate field ≡ Ok x
unfolding decimal_coordinate
decimal_ok line field x is =
    decimal_case line (not (is_decimal (without_sign field)))
    (nat_lt 999 (exponent (without_sign field))
    || nat_lt (10 ^ 32) (units_of_text (without_sign field)))
    (with_sign (is_negative field) (units_of_text (without_sign field))) x is

point_exact : (line : ℕ) (a b c : List ℕ) (p : Place) → point_of line a b c ≡ Ok p → AreExact p
unfolding point_of
point_exact line a b c p is =
    let (x, first, more) = bind_ok (of_decimal line (decimal_coordinate a)) _ p is in
    let (y, second, last) = bind_ok (of_decimal line (decimal_coordinate b)) _ p more in
    let (z, third, made) = bind_ok (of_decimal line (decimal_coordinate c)) _ p last in
    let q : Place = record { x = x; y = y; z = z } in
    let e : q ≡ p = cc in
    subst AreExact e (
      decimal_exact a x (decimal_ok line a x first),
      decimal_exact b y (decimal_ok line b y second),
      decimal_exact c z (decimal_ok line c z third),
    )

point_line_fits : (line : ℕ) (s t : SoFar) (p : Place) → IsFitSoFar s → AreExact p
    → with_point_at line s p ≡ Ok t → IsFitSoFar t
unfolding with_point_at
point_line_fits line s t p fit exact is =
    let (c, made, placed) = bind_ok (corner_of line s.triangles.points p) (with_corner line s) t
    is in
    let (below, grown) = corner_fits line s.triangles.points p c fit.triangles.points
    fit.triangles.exact exact made in
    let all : Triangles = record s.triangles { points = c.points } in
    let (stage, next, e) = at_ok line all (with_vertex s.stage c.vertex) t placed in
    subst IsFitSoFar e (record {
      triangles = record {
        points = grown.few;
        exact = grown.exact;
        corners = λ i d l. below_wider (length s.triangles.points) (length c.points) _ grown.more
            (fit.triangles.corners i d l);
      };
      few = fit.few;
      stage = vertex_held (length s.triangles.points) (length c.points) c.vertex s.stage stage
          grown.more below fit.stage next;
    })

vertex_of_fits : (line : ℕ) (s t : SoFar) (w : Option (List ℕ × List ℕ × List ℕ)) → IsFitSoFar s
    → vertex_of line s w ≡ Ok t → IsFitSoFar t
vertex_of_fits line s t (Some w) fit is =
    let (p, read, placed) = bind_ok (point_of line w.0 w.1 w.2) (with_point_at line s) t is in
    point_line_fits line s t p fit (point_exact line w.0 w.1 w.2 p read) placed
vertex_of_fits line s t None fit is = absurd (cc)

vertex_line_fits : (line : ℕ) (s t : SoFar) (word : List ℕ) (more : List (List ℕ)) → IsFitSoFar s
    → vertex_line line s word more ≡ Ok t → IsFitSoFar t
unfolding vertex_line
vertex_line_fits line s t word more fit is =
    vertex_of_fits line s t (three more) fit (if_ok _ _ _ t is)

end_case : (a b : Bool) (e f : Refused) (s t : SoFar)
    → (if a then if b then Err e else Ok s else Err f) ≡ Ok t → (b ≡ false) × (s ≡ t)
end_case false b e f s t is = absurd (cc)
end_case true true e f s t is = absurd (cc)
end_case true false e f s t is = let same : s ≡ t = cc in (refl, same)

end_line_fits : (line : ℕ) (s t : SoFar) (f : Corners) (words : List (List ℕ)) → IsFitSoFar s
    → AreVerticesBelow (length s.triangles.points) f
    → end_line line s.triangles f words ≡ Ok t → IsFitSoFar t
unfolding end_line
end_line_fits line s t f words fit below is =
    let after : SoFar = record {
      stage = stages.Solid;
      triangles = record s.triangles { faces = s.triangles.faces ++ f ∷ [] };
    } in
    let (room, e) = end_case _ (nat_le 1048576 (length s.triangles.faces)) _ _ after t is in
    let less : length s.triangles.faces < 1048576 = leb-false _ _ room in
    subst IsFitSoFar e (record {
      triangles = with_face s.triangles s.triangles.points f s.triangles.attributes fit.triangles
          (record {
            more = omega arith;
            few = fit.triangles.points;
            exact = fit.triangles.exact;
          }) below;
      few = omega (arith, less, length-append s.triangles.faces (f ∷ []));
      stage = tt;
    })

-- A line that holds no vertex more.

some_held : (n : ℕ) (test : Bool) (some next : Stage) → HoldsBelow n some
    → (if test then Some some else None) ≡ Some next → HoldsBelow n next
some_held n true some next held is = let e : some ≡ next = cc in subst (HoldsBelow n) e held
some_held n false some next held is = absurd (cc)

stage_held : (n : ℕ) (stage next : Stage) (word : List ℕ) (more : List (List ℕ))
    → HoldsBelow n stage → stage_after stage word more ≡ Some next → HoldsBelow n next
unfolding stage_after
stage_held n stages.Outside next word more held is = some_held n _ stages.Solid next tt is
stage_held n stages.Solid next word more held is =
    elim (cases_Bool (is_word (codes "facet") word)) [
      | inl facet ↦ some_held n true stages.Facet next tt (rw facet at is)
      | inr other ↦ some_held n (is_word (codes "endsolid") word) stages.Outside next tt
          (rw other at is)
    ]
stage_held n stages.Facet next word more held is = some_held n _ stages.First next tt is
stage_held n (stages.Full f) next word more held is = some_held n _ (stages.Done f) next held is
stage_held n stages.First next word more held is = absurd (cc)
stage_held n (stages.Second a) next word more held is = absurd (cc)
stage_held n (stages.Third a b) next word more held is = absurd (cc)
stage_held n (stages.Done f) next word more held is = absurd (cc)

stage_fits : (line : ℕ) (s t : SoFar) (word : List ℕ) (more : List (List ℕ)) → IsFitSoFar s
    → at_stage line s.triangles (stage_after s.stage word more) ≡ Ok t → IsFitSoFar t
stage_fits line s t word more fit is =
    let (stage, next, e) = at_ok line s.triangles (stage_after s.stage word more) t is in
    subst IsFitSoFar e (record {
      triangles = fit.triangles;
      few = fit.few;
      stage = stage_held (length s.triangles.points) s.stage stage word more fit.stage next;
    })

by_stage_fits : (line : ℕ) (s t : SoFar) (stage : Stage) (word : List ℕ) (more : List (List ℕ))
    → s.stage ≡ stage → IsFitSoFar s → by_stage stage line s word more ≡ Ok t → IsFitSoFar t
by_stage_fits line s t stages.First word more at fit is =
    vertex_line_fits line s t word more fit is
by_stage_fits line s t (stages.Second a) word more at fit is =
    vertex_line_fits line s t word more fit is
by_stage_fits line s t (stages.Third a b) word more at fit is =
    vertex_line_fits line s t word more fit is
by_stage_fits line s t (stages.Done f) word more at fit is =
    end_line_fits line s t f (word ∷ more) fit
    (subst (HoldsBelow (length s.triangles.points)) at fit.stage) is
by_stage_fits line s t stages.Outside word more at fit is =
    stage_fits line s t word more fit (rw at is)
by_stage_fits line s t stages.Solid word more at fit is =
    stage_fits line s t word more fit (rw at is)
by_stage_fits line s t stages.Facet word more at fit is =
    stage_fits line s t word more fit (rw at is)
by_stage_fits line s t (stages.Full f) word more at fit is =
    stage_fits line s t word more fit (rw at is)

words_fit : (line : ℕ) (s t : SoFar) (ws : List (List ℕ)) → IsFitSoFar s
    → after_words line s ws ≡ Ok t → IsFitSoFar t
words_fit line s t [] fit is = let e : s ≡ t = cc in subst IsFitSoFar e fit
words_fit line s t (word ∷ more) fit is = by_stage_fits line s t s.stage word more refl fit is

text_fits : (line : ℕ) (s t : SoFar) (text : List ℕ) → IsFitSoFar s
    → after_text line s text ≡ Ok t → IsFitSoFar t
unfolding after_text
text_fits line s t text fit is = words_fit line s t (fields (without_cr text)) fit is

ended_fits : (line : ℕ) (s : SoFar) (stage : Stage) (t : Triangles) → IsFitSoFar s
    → ended line s stage ≡ Ok t → IsSound (stl_scanned t)
ended_fits line s stages.Outside t fit is =
    let e : s.triangles ≡ t = cc in
    subst (λ (x : Triangles). IsSound (stl_scanned x)) e
    (fit_sound s.triangles fit.triangles fit.few)
ended_fits line s stages.First t fit is = absurd (cc)
ended_fits line s (stages.Second a) t fit is = absurd (cc)
ended_fits line s (stages.Third a b) t fit is = absurd (cc)
ended_fits line s (stages.Done f) t fit is = absurd (cc)
ended_fits line s stages.Solid t fit is = absurd (cc)
ended_fits line s stages.Facet t fit is = absurd (cc)
ended_fits line s (stages.Full f) t fit is = absurd (cc)

lines_fit : (line : ℕ) (s : SoFar) (ls : List (List ℕ)) (t : Triangles) → IsFitSoFar s
    → from_line line s ls ≡ Ok t → IsSound (stl_scanned t)
lines_fit line s [] t fit is = ended_fits line s s.stage t fit is
lines_fit line s (text ∷ more) t fit is =
    let (u, taken, later) = bind_ok (after_text line s text) _ t is in
    lines_fit (line + 1) u more t (text_fits line s u text fit taken) later

text_sound : (bytes : List ℕ) (t : Triangles) → text_meaning bytes ≡ Ok t
    → IsSound (stl_scanned t)
unfolding text_meaning
text_sound bytes t is =
    lines_fit 1 at_start (texts bytes) t
    (record { triangles = nothing_fits; few = omega arith; stage = tt }) is

either_sound : (bytes : List ℕ) (t : Triangles) (text : Bool)
    → (if text then text_meaning bytes else binary_meaning bytes) ≡ Ok t
    → IsSound (stl_scanned t)
either_sound bytes t true is = text_sound bytes t is
either_sound bytes t false is = binary_sound bytes t is

pub stl_sound : (bytes : List ℕ) (t : Triangles) → stl_meaning_of bytes ≡ Ok t
    → IsSound (stl_scanned t)
unfolding stl_meaning_of
stl_sound bytes t is = either_sound bytes t (is_text bytes) is

pub stl_within : (bytes : List ℕ) (t : Triangles) → stl_meaning_of bytes ≡ Ok t
    → IsWithinLimits (stl_scanned t)
stl_within bytes t is = (stl_sound bytes t is).within
