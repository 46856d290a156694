-- Laws of the last corners.
use Rattle.std.proofs.Common.{◌≡◌, ℕ, ◌+◌, ◌<◌, ◌≤◌, inl, inr, refl, sym, ap, ◌∙◌, Some}
use Rattle.std.proofs.Common.{List, [], ◌∷◌, length, Ok, Option, None, ◌==◌, arith}
use Rattle.std.proofs.Common.{Result, Err}
use Rattle.std.proofs.lemmas.Bool.{cases_Bool, cases_lt, cond-true, cond-false}
use Rattle.std.proofs.lemmas.Bool.{lt-ltb, le-ltb}
use Rattle.std.proofs.lemmas.List.{length_push}
use Rattle.std.proofs.lemmas.List.Elements.{All-weaker}
use Rattle.pm_base.specs.declared.limits.TheConstants.{MOST_VERTICES}
use Rattle.pm_base.specs.Place.{Place}
use Rattle.stl_read.specs.declared.recent.Words.{Words}
use Rattle.stl_read.specs.declared.recent.Known.{Known}
use Rattle.stl_read.specs.declared.fault.Refused.{Refused}
use Rattle.stl_read.specs.declared.fault.StlFault.TheVariants as faults
use Rattle.stl_read.specs.Refusals.{refused}
use Rattle.stl_read.specs.Vertices.{Corner, is_same, number_of, with_point, corner_of}
use Rattle.stl_read.specs.Binary.{coordinate_at, point_at, corner_at}
use Rattle.stl_read.specs.Recent.{words_at, AreWordsOf, IsKnown, IsSlot, AreKnown}
use Rattle.stl_read.proofs.VertexLaws.{more_old, more_new, number_within, corner_old, number_there}
use Rattle.stl_read.proofs.VertexLaws.{same_itself}

never_both : (r : Result Corner Refused) (c : Corner) (e : Refused) → r ≡ Ok c → r ≡ Err e → ⊥
never_both r c e a b = cc

same_corner : (r : Result Corner Refused) (c d : Corner) → r ≡ Ok c → r ≡ Ok d → c ≡ d
same_corner r c d a b = cc

-- What a corner gives is its number, and the points with it.
corner_is : (place : ℕ) (points more : List Place) (p : Place) (v : ℕ)
    → corner_of place points p ≡ Ok (record { vertex = v; points = more })
    → (number_of points p ≡ v) × (with_point points p ≡ more)
unfolding corner_of
corner_is place points more p v is =
    let made : Corner = record { vertex = number_of points p; points = with_point points p } in
    let given : Corner = record { vertex = v; points = more } in
    elim (cases_Bool (number_of points p == MOST_VERTICES)) [
      | inl full ↦
          let no : corner_of place points p ≡ refused faults.TooManyVertices place =
          cond-true _ _ _ full in
          absurd (never_both _ _ _ is no)
      | inr room ↦
          let so : corner_of place points p ≡ Ok made = cond-false _ _ _ room in
          let same : made ≡ given = same_corner _ made given so is in
          (ap (λ (c : Corner). c.vertex) same, ap (λ (c : Corner). c.points) same)
    ]

-- A point that is there keeps its number.
pub number_kept : (points : List Place) (p q : Place) → number_of points q < length points
    → (number_of (with_point points p) q ≡ number_of points q)
    × (length points ≤ length (with_point points p))
number_kept points p q there =
    elim (cases_lt (number_of points p) (length points)) [
      | inl old ↦ rw (lt-ltb _ _ old) (refl, omega arith)
      | inr new ↦
          rw (le-ltb _ _ new) (
            more_old points p q there,
            omega (arith, length_push points p),
          )
    ]

-- A point that was put down is there.
pub number_put : (points : List Place) (p : Place)
    → (number_of (with_point points p) p ≡ number_of points p)
    × (number_of points p < length (with_point points p))
number_put points p =
    elim (cases_lt (number_of points p) (length points)) [
      | inl old ↦ rw (lt-ltb _ _ old) (refl, old)
      | inr new ↦
          let last : number_of points p ≡ length points =
          omega (arith, number_within points p, new) in
          let first : number_of (p ∷ []) p ≡ 0 =
          cond-true (is_same p p) 0 (1 + 0) (same_itself p) in
          rw (le-ltb _ _ new) (
            omega (arith, more_new points p p last, first, last),
            omega (arith, last, length_push points p),
          )
    ]

pub corner_known : (place : ℕ) (points more : List Place) (p : Place) (v : ℕ) (words : Words)
    → corner_of place points p ≡ Ok (record { vertex = v; points = more })
    → AreWordsOf words p → IsKnown more words v
corner_known place points more p v words is told =
    let (number, made) = corner_is place points more p v is in
    let (kept, there) = number_put points p in
    record {
      place = p;
      told = told;
      there = rw (made, number) at there;
      number = rw (made, number) at kept;
    }

slot_kept : (points : List Place) (p : Place) (slot : Option Known) → IsSlot points slot
    → IsSlot (with_point points p) slot
slot_kept points p None is = is
slot_kept points p (Some k) is =
    let there : number_of points is.place < length points =
    omega (arith, is.there, is.number) in
    let (kept, more) = number_kept points p is.place there in
    record {
      place = is.place;
      told = is.told;
      there = omega (arith, is.there, more);
      number = kept ∙ is.number;
    }

pub still_known : (place : ℕ) (points more : List Place) (p : Place) (v : ℕ)
    (slots : List (Option Known))
    → corner_of place points p ≡ Ok (record { vertex = v; points = more })
    → AreKnown points slots → AreKnown more slots
still_known place points more p v slots is known =
    let (number, made) = corner_is place points more p v is in
    rw (sym made) (record {
      some = known.some;
      each = All-weaker (IsSlot points) (IsSlot (with_point points p)) (slot_kept points p) slots
          known.each;
    })

-- A corner that is known gives its vertex.
pub corner_met : (bytes : List ℕ) (at : ℕ) (points : List Place) (v : ℕ)
    → IsKnown points (words_at bytes at) v → length points ≤ MOST_VERTICES
    → corner_at bytes at points ≡ Ok (record { vertex = v; points = points })
unfolding corner_at point_at coordinate_at
corner_met bytes at points v known few =
    let there : number_of points known.place < length points =
    omega (arith, known.there, known.number) in
    rw (known.told.x, known.told.y, known.told.z)
    (corner_old at points known.place v few
    (number_there points known.place there ∙ ap (λ (n : ℕ). Some n) known.number))
