-- Polygons cut anew: as many triangles, of the same corners.
use Rattle.std.proofs.Common.{◌≡◌, ℕ, ◌+◌, ◌<◌, ◌≤◌, true, false}
use Rattle.std.proofs.Common.{List, [], ◌∷◌, length, map, drop, get_or, refl, sym, ap}
use Rattle.std.proofs.Common.{◌∙◌, subst, arith}
use Rattle.std.specs.List.{All}
use Rattle.std.proofs.lemmas.Bool.{true≢false}
use Rattle.std.proofs.lemmas.List.{length-map, length-take, length-drop}
use Rattle.std.proofs.lemmas.List.Elements.{All-nil, All-cons, All-head, All-tail}
use Rattle.pm_base.specs.declared.mesh.Corners.{Corners}
use Rattle.pm_base.specs.Place.{Place, origin}
use Rattle.pm_ears.specs.declared.cut.CutKind.TheVariants as kinds
use Rattle.pm_ears.specs.declared.recut.Polygon.{Polygon}
use Rattle.pm_ears.specs.declared.spots.Triangle.{Triangle}
use Rattle.pm_ears.specs.Planes.{plane_of, spots_of}
use Rattle.pm_ears.specs.Cutting.{pieces_of, named}
use Rattle.pm_ears.specs.Laws.{IsInOrder}
use Rattle.pm_ears.specs.Recutting.{fan_at, corners_of, places_of, pieces_over}
use Rattle.pm_ears.specs.Recutting.{names_three, gives_way, stays_overlapping}
use Rattle.pm_ears.specs.Recutting.{by_corners, ears_over}
use Rattle.pm_ears.specs.Recutting.{AreBelow}
use Rattle.pm_ears.proofs.Rows.{as_many_spots}
use Rattle.pm_ears.proofs.CutLaws.{two_fewer}
use Rattle.pm_ears.proofs.PieceLaws.{pieces_are_cuts}

-- How many corners a polygon has.
pub corners_few : (fan : List Corners) → length (corners_of fan) ≤ length fan + 2
corners_few [] = omega arith
corners_few (f ∷ fan) = omega (arith, length-map fan (λ g. g.c))

corners_long : (f : Corners) (fan : List Corners)
    → length (corners_of (f ∷ fan)) ≡ length (f ∷ fan) + 2
corners_long f fan = omega (arith, length-map fan (λ g. g.c))

-- A polygon without triangles has nothing to give way.
none_gives_way : (places : List Place) → gives_way places [] ≡ false
unfolding gives_way pieces_of
none_gives_way places = refl

-- As many triangles come.
pub ears_long : (places : List Place) (fan : List Corners) → gives_way places fan ≡ true
    → length (ears_over places fan) ≡ length fan
ears_long places [] e = absurd (true≢false (sym e ∙ none_gives_way places))
ears_long places (f ∷ fan) e =
    let at : List Place = places_of places (corners_of (f ∷ fan)) in
    let long : length at ≡ length (f ∷ fan) + 2 =
    length-map (corners_of (f ∷ fan)) (λ v. get_or places v origin) ∙ corners_long f fan in
    let ts : List Triangle = (pieces_of (spots_of at)).triangles in
    let fewer = two_fewer (spots_of at) ts (pieces_are_cuts at (omega (arith, long))).0 in
    let renamed = length-map (map named ts) (by_corners (corners_of (f ∷ fan))) in
    let mapped = length-map ts named in
    omega (arith, long, fewer, renamed, mapped, as_many_spots (plane_of at) 0 at)

-- A polygon's triangles are among the others.
pub fan_fits : (faces : List Corners) (p : Polygon) → p.first + p.triangles ≤ length faces
    → p.first + length (fan_at faces p) ≤ length faces
fan_fits faces p l =
    omega (arith, l, length-take p.triangles (drop p.first faces), length-drop p.first faces)

-- Positions of a cut are below the number of corners.
in_order_below : (n : ℕ) (ts : List Triangle) → All (IsInOrder n) ts
    → All (AreBelow n) (map named ts)
in_order_below n [] all = All-nil (AreBelow n)
in_order_below n (t ∷ ts) all =
    let is = All-head (IsInOrder n) t ts all in
    All-cons (AreBelow n) (named t) (map named ts)
    (record {
      a = omega (arith, is.first, is.second, is.below);
      b = omega (arith, is.second, is.below);
      c = is.below;
    })
    (in_order_below n ts (All-tail (IsInOrder n) t ts all))

pieces_below : (places : List Place) (fan : List Corners) → 2 ≤ length (corners_of fan)
    → All (AreBelow (length (corners_of fan))) (map named (pieces_over places fan).triangles)
pieces_below places fan l =
    let at : List Place = places_of places (corners_of fan) in
    let long : length at ≡ length (corners_of fan) =
    length-map (corners_of fan) (λ v. get_or places v origin) in
    let order = (pieces_are_cuts at (omega (arith, long, l))).1 in
    let below = in_order_below (length at) (pieces_of (spots_of at)).triangles order in
    subst (λ n. All (AreBelow n) (map named (pieces_of (spots_of at)).triangles)) long below

none_below : (places : List Place) → All (AreBelow 0) (map named (pieces_over places []).triangles)
unfolding pieces_of
none_below places = All-nil (AreBelow 0)

pub cut_below : (places : List Place) (fan : List Corners)
    → All (AreBelow (length (corners_of fan))) (map named (pieces_over places fan).triangles)
cut_below places [] = none_below places
cut_below places (f ∷ fan) = pieces_below places (f ∷ fan) (omega (arith, corners_long f fan))

-- A polygon's corners are those of its triangles.
module _ (P : ℕ → Type 0) where
  pub record HasCorners (f : Corners) : Type 0 where
    pub a : P f.a
    pub b : P f.b
    pub c : P f.c

  thirds : (fan : List Corners) → All HasCorners fan → All P (map (λ g. g.c) fan)
  thirds [] all = All-nil P
  thirds (f ∷ fan) all =
      All-cons P f.c (map (λ g. g.c) fan) (All-head HasCorners f fan all).c
      (thirds fan (All-tail HasCorners f fan all))

  pub corners_have : (fan : List Corners) → All HasCorners fan → All P (corners_of fan)
  corners_have [] all = All-nil P
  corners_have (f ∷ fan) all =
      let is = All-head HasCorners f fan all in
      All-cons P f.a (f.b ∷ map (λ g. g.c) (f ∷ fan)) is.a
      (All-cons P f.b (map (λ g. g.c) (f ∷ fan)) is.b (thirds (f ∷ fan) all))

  mapped_have : (corners : List ℕ) (ts : List Corners) → All P corners
      → All (AreBelow (length corners)) ts → All HasCorners (map (by_corners corners) ts)
  mapped_have corners [] all below = All-nil HasCorners
  mapped_have corners (t ∷ ts) all below =
      let l = All-head (AreBelow (length corners)) t ts below in
      All-cons HasCorners (by_corners corners t) (map (by_corners corners) ts)
      (record { a = all t.a 0 l.a; b = all t.b 0 l.b; c = all t.c 0 l.c })
      (mapped_have corners ts all (All-tail (AreBelow (length corners)) t ts below))

  -- So are the corners of what it gives way to.
  pub ears_have : (places : List Place) (fan : List Corners) → All HasCorners fan
      → All HasCorners (ears_over places fan)
  ears_have places fan all =
      mapped_have (corners_of fan) (map named (pieces_over places fan).triangles)
      (corners_have fan all) (cut_below places fan)

below_has : (n : ℕ) (fan : List Corners) → All (AreBelow n) fan
    → All (HasCorners (λ v. v < n)) fan
below_has n fan all = λ i d l. let f = all i d l in record { a = f.a; b = f.b; c = f.c }

pub corners_below : (n : ℕ) (fan : List Corners) → All (AreBelow n) fan
    → All (λ (v : ℕ). v < n) (corners_of fan)
corners_below n fan all = corners_have (λ v. v < n) fan (below_has n fan all)

-- What becomes of a fan, by how the polygon of its corners is cut.
pub pieces_at : (places : List Place) (fan : List Corners) (corners : List ℕ) (at : List Place)
    → corners ≡ corners_of fan → at ≡ places_of places corners
    → pieces_of (spots_of at) ≡ pieces_over places fan
pieces_at places fan corners at are placed =
    ap (λ (l : List Place). pieces_of (spots_of l)) (placed ∙ ap (places_of places) are)

module _ (places : List Place) (fan : List Corners) where
  pub fan_stays : (pieces_over places fan).kind ≡ kinds.Fan
      → (gives_way places fan ≡ false) × (stays_overlapping places fan ≡ false)
  unfolding gives_way stays_overlapping
  fan_stays is = rw is (refl, refl)

  pub ears_come : (pieces_over places fan).kind ≡ kinds.Ears → names_three fan ≡ true
      → (gives_way places fan ≡ true) × (stays_overlapping places fan ≡ false)
  unfolding gives_way stays_overlapping
  ears_come is three = rw (is, three) (refl, refl)
