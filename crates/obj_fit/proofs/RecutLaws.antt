-- What polygons that are cut anew leave as it was.
use Rattle.std.proofs.Common.{◌≡◌, ℕ, ◌<◌, Bool, true, false, not, List, [], ◌∷◌, length}
use Rattle.std.proofs.lemmas.Grind.{common_steps}
use Rattle.std.proofs.Common.{Option, refl, sym, ap, ◌∙◌, inl, inr, arith}
use Rattle.std.specs.List.{All}
use Rattle.std.proofs.lemmas.Bool.{cases_Bool, and_parts, cond-true, cond-false, eqb-true, or_cases}
use Rattle.std.proofs.lemmas.Bool.{or_right, true≢false}
use Rattle.std.proofs.lemmas.List.Elements.{All-nil, All-cons, All-head, All-tail}
use Rattle.pm_base.specs.declared.mesh.Corners.{Corners}
use Rattle.pm_fans.specs.Kept.{is_corner, is_flat}
use Rattle.pm_ears.specs.Recutting.{names_three, ears_over}
use Rattle.pm_ears.proofs.RecutLaws.{HasCorners, ears_have}
use Rattle.pm_ears.proofs.Recuts.{all_hold, recut_long}
use Rattle.obj_scan.specs.Judged.{Scanned}
use Rattle.obj_scan.specs.Meaning.{IsWithinLimits}
use Rattle.obj_prepare.specs.Named.{AreVerticesBelow, IsWithinMesh, is_some_corner, of_three}
use Rattle.obj_prepare.proofs.PieceLaws.{corners_named}
use Rattle.obj_fit.specs.Outcome.{cut_in, places_in}

-- As many triangles.
pub cut_long : (size : Option ℕ) (s : Scanned) → IsWithinLimits s
    → length (cut_in size s) ≡ length s.faces
cut_long size s within = recut_long (places_in size s) s.faces s.polygons within.polygons

-- Of the same vertices.
below_has : (n : ℕ) (fs : List Corners) → All (AreVerticesBelow n) fs
    → All (HasCorners (λ v. v < n)) fs
below_has n fs all = λ i d l. let f = all i d l in record { a = f.a; b = f.b; c = f.c }

has_below : (n : ℕ) (fs : List Corners) → All (HasCorners (λ v. v < n)) fs
    → All (AreVerticesBelow n) fs
has_below n fs all = λ i d l. let f = all i d l in record { a = f.a; b = f.b; c = f.c }

pub cut_below : (size : Option ℕ) (s : Scanned) → IsWithinLimits s
    → All (AreVerticesBelow (length s.points)) (cut_in size s)
cut_below size s within =
    let n = length s.points in
    let places = places_in size s in
    all_hold places s.faces (AreVerticesBelow n) within.corners
    (λ fan three all. has_below n (ears_over places fan)
    (ears_have (λ v. v < n) places fan (below_has n fan all))) s.faces s.polygons within.corners

pub cut_within : (size : Option ℕ) (s : Scanned) → IsWithinLimits s
    → IsWithinMesh (length s.points) (cut_in size s)
cut_within size s within =
    grind (arith, common_steps, cut_below size s within, cut_long size s within)

-- Vertices that triangles of three vertices name then were named by such ones before.
corner_has : (P : ℕ → Type 0) (f : Corners) (v : ℕ) → HasCorners P f → is_corner f v ≡ true → P v
corner_has P f v has is = grind (arith, common_steps, eqb-true, or_cases)

-- Where each triangle of three vertices has corners of a kind, so has each vertex that they name.
three_has : (P : ℕ → Type 0) (fs : List Corners)
    → All (λ (f : Corners). is_flat f ≡ false → HasCorners P f) fs
    → (v : ℕ) → is_some_corner (of_three fs) v ≡ true → P v
three_has P [] all v is = absurd (true≢false (sym is))
three_has P (f ∷ fs) all v is =
    let Q : Corners → Type 0 = λ f. is_flat f ≡ false → HasCorners P f in
    let more = three_has P fs (All-tail Q f fs all) v in
    elim (cases_Bool (is_flat f)) [
      | inl t ↦
          more (ap (λ (l : List Corners). is_some_corner l v)
          (sym (cond-false (not (is_flat f)) (f ∷ of_three fs) (of_three fs) (ap not t))) ∙ is)
      | inr n ↦
          let named : is_some_corner (f ∷ of_three fs) v ≡ true =
          ap (λ (l : List Corners). is_some_corner l v)
          (sym (cond-true (not (is_flat f)) (f ∷ of_three fs) (of_three fs) (ap not n))) ∙ is in
          elim (or_cases (is_corner f v) (is_some_corner (of_three fs) v) named) [
            | inl here ↦ corner_has P f v (All-head Q f fs all n) here
            | inr later ↦ more later
          ]
    ]

-- Each triangle of three vertices has such corners.
IsNamedIn : List Corners → ℕ → Type 0
IsNamedIn faces v = is_some_corner faces v ≡ true

three_named : (whole fs : List Corners)
    → ((v : ℕ) → IsNamedIn (of_three fs) v → IsNamedIn whole v)
    → All (λ (f : Corners). is_flat f ≡ false → HasCorners (IsNamedIn whole) f) fs
unfolding IsNamedIn
three_named whole [] sub =
    All-nil (λ (f : Corners). is_flat f ≡ false → HasCorners (IsNamedIn whole) f)
three_named whole (f ∷ fs) sub =
    let Q : Corners → Type 0 = λ f. is_flat f ≡ false → HasCorners (IsNamedIn whole) f in
    let here : Q f = λ n.
    let all : of_three (f ∷ fs) ≡ f ∷ of_three fs =
    cond-true (not (is_flat f)) (f ∷ of_three fs) (of_three fs) (ap not n) in
    let in_all : (v : ℕ) → IsNamedIn (f ∷ of_three fs) v → IsNamedIn whole v =
    λ v is. sub v (ap (λ (l : List Corners). is_some_corner l v) all ∙ is) in
    let own = corners_named (f ∷ of_three fs) 0 (omega arith) in
    record { a = in_all f.a own.a; b = in_all f.b own.b; c = in_all f.c own.c } in
    All-cons Q f fs here (three_named whole fs (λ v is. sub v (later_named f fs v is)))
  where
    later_named : (f : Corners) (fs : List Corners) (v : ℕ) → IsNamedIn (of_three fs) v
        → IsNamedIn (of_three (f ∷ fs)) v
    later_named f fs v is =
        elim (cases_Bool (is_flat f)) [
          | inl t ↦
              ap (λ (l : List Corners). is_some_corner l v)
              (cond-false (not (is_flat f)) (f ∷ of_three fs) (of_three fs) (ap not t)) ∙ is
          | inr n ↦
              ap (λ (l : List Corners). is_some_corner l v)
              (cond-true (not (is_flat f)) (f ∷ of_three fs) (of_three fs) (ap not n))
              ∙ or_right (is_corner f v) (is_some_corner (of_three fs) v) is
        ]

fan_named : (P : ℕ → Type 0) (fan : List Corners) → names_three fan ≡ true
    → All (λ (f : Corners). is_flat f ≡ false → HasCorners P f) fan → All (HasCorners P) fan
fan_named P [] three all = All-nil (HasCorners P)
fan_named P (f ∷ fan) three all =
    let Q : Corners → Type 0 = λ f. is_flat f ≡ false → HasCorners P f in
    let (first, rest) = and_parts (not (is_flat f)) (names_three fan) three in
    All-cons (HasCorners P) f fan
    (All-head Q f fan all (not_true (is_flat f) first))
    (fan_named P fan rest (All-tail Q f fan all))
  where
    not_true : (b : Bool) → not b ≡ true → b ≡ false
    not_true true e = absurd (true≢false (sym e))
    not_true false e = refl

pub cut_named : (size : Option ℕ) (s : Scanned) (v : ℕ)
    → is_some_corner (of_three (cut_in size s)) v ≡ true
    → is_some_corner (of_three s.faces) v ≡ true
unfolding IsNamedIn
cut_named size s v is =
    let places = places_in size s in
    let P : ℕ → Type 0 = IsNamedIn (of_three s.faces) in
    let Q : Corners → Type 0 = λ f. is_flat f ≡ false → HasCorners P f in
    let each : All Q s.faces = three_named (of_three s.faces) s.faces (λ v is. is) in
    let given : (fan : List Corners) → names_three fan ≡ true → All Q fan
    → All Q (ears_over places fan) =
    λ fan three all i d l n. ears_have P places fan (fan_named P fan three all) i d l in
    three_has P (cut_in size s) (all_hold places s.faces Q each given s.faces s.polygons each) v is
