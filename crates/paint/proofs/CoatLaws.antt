-- The first of a list that passes, and where the parts of a coat stand.
use Rattle.std.proofs.Common.{◌≡◌, ℕ, ◌<◌, ◌≤◌, ◌+◌, ◌*◌, ◌/◌, if◌then◌else◌, drop, List, length}
use Rattle.std.proofs.Common.{get_or, Bool, true, false, Some, None, nat_lt, refl, arith}
use Rattle.std.proofs.lemmas.Bool.Decides.{nat_tests}
use Rattle.std.specs.List.{position}
use Rattle.std.proofs.lemmas.List.{length-take}
use Rattle.std.proofs.lemmas.List.FromFn.{length-map-range_with_len}
use Rattle.std.proofs.lemmas.List.Sums.{position_or_len_is}
use Rattle.pm_base.specs.declared.limits.TheConstants.{MOST_VERTICES}
use Rattle.paint.specs.declared.sizes.Sizes.{Sizes}
use Rattle.paint.specs.Coat.{colour_bytes, page_bytes, coordinate_bytes, filler, colours_end}
use Rattle.paint.specs.Coat.{part, signed_at, signed_numbers, coordinates_of, has_coordinates}
use Rattle.paint.specs.Coat.{AreSizes}
use Rattle.paint.specs.Coat.{coordinates_from, pages_from, pages_end, coat_end}

-- It is found where none before it passes,
pub position_found : {X : Type 0} (p : X → Bool) (xs : List X) (i : ℕ) (d : X)
    → ((k : ℕ) → k < i → p (get_or xs k d) ≡ false) → i < length xs → p (get_or xs i d) ≡ true
    → position p xs ≡ Some i
position_found p xs i d before below here =
    let is = position_or_len_is p xs i d (omega (arith, below)) before (λ l. here) in
    let test : nat_lt i (length xs) ≡ true = grind (arith, nat_tests, below) in
    rw (is, test) refl

-- and there is none where none of all passes.
pub position_none : {X : Type 0} (p : X → Bool) (xs : List X) (i : ℕ) (d : X) → length xs ≤ i
    → ((k : ℕ) → k < i → p (get_or xs k d) ≡ false) → position p xs ≡ None
position_none p xs i d all before =
    let is = position_or_len_is p xs (length xs) d (omega arith)
    (λ k l. before k (omega (arith, l, all))) (λ l. absurd (omega (arith, l))) in
    let test : nat_lt (length xs) (length xs) ≡ false = grind (arith, nat_tests) in
    rw (is, test) refl

-- The parts end where the next begins, or before.
pub colours_within : (s : Sizes) → colours_end s + filler (colour_bytes s) ≤ coat_end s
unfolding coordinates_from pages_from pages_end coat_end
colours_within s = omega arith

pub colours_in : (s : Sizes) → 20 + colour_bytes s ≤ coat_end s
unfolding colours_end coordinates_from pages_from pages_end coat_end
colours_in s = omega arith

pub coordinates_within : (s : Sizes) → coordinates_from s + coordinate_bytes s ≤ coat_end s
unfolding pages_from pages_end coat_end
coordinates_within s = omega arith

pub pages_within : (s : Sizes) → pages_from s + page_bytes s ≤ coat_end s
unfolding pages_end coat_end
pages_within s = omega arith

pub fillers_within : (s : Sizes) → pages_end s + filler (page_bytes s) ≤ coat_end s
unfolding coat_end
fillers_within s = omega arith

-- There are no more texture coordinates than bytes for them.
number_count : (bytes : List ℕ) → length (signed_numbers bytes) ≡ length bytes / 4
unfolding signed_numbers
number_count bytes = length-map-range_with_len (signed_at bytes) 0 (length bytes / 4)

at_most : (b : Bool) (n : ℕ) → (if b then n else 0) ≤ n
at_most true n = omega arith
at_most false n = omega arith

most_bytes : (s : Sizes) → coordinate_bytes s ≤ 8 * s.vertices
unfolding coordinate_bytes
most_bytes s = at_most (has_coordinates s) (8 * s.vertices)

pub coordinates_few : (s : Sizes) (bytes : List ℕ) → AreSizes s
    → 4 * length (coordinates_of s bytes) ≤ 8 * MOST_VERTICES
unfolding coordinates_of
coordinates_few s bytes small =
    let are = number_count (part (coordinates_from s) (coordinate_bytes s) bytes) in
    let len = length-take (coordinate_bytes s) (drop (coordinates_from s) bytes) in
    omega (arith, are, len, most_bytes s, small.0)
