-- What each node has of a number that goes with places, as a place in a texture: that of the linear
-- map which fits the numbers of its leaves best, at the node's own place.
use Rattle.std.specs.Prelude.{ℕ, zero, suc, ◌+◌, ◌-◌, ◌*◌, ◌<◌, ◌≤◌, List, Bool, length, map}
use Rattle.std.specs.Prelude.{slice_index_or, ℤ, pos, ◌+ℤ◌, ◌-ℤ◌, unsigned_abs}
use Rattle.std.specs.Int.{int_min, int_max}
use Rattle.std.specs.List.{range_with_len}
use Rattle.pm_forest.specs.Forest.{Hierarchy, leaf_count, holds, interval_of}
use Rattle.pm_forest.specs.Fronts.{every}
use Rattle.pm_forest.specs.Places.{place_of_node}
use Rattle.pm_forest.specs.Tables.{leaf_node_of}
use Rattle.pm_forest.specs.Meshes.{leaf_input}
use Rattle.pm_paint.specs.Means.{sum_over, count_under}
use Rattle.pm_fit.specs.declared.moments.Moments.{Moments}
use Rattle.pm_fit.specs.declared.moments.NumberSums.{NumberSums}
use Rattle.pm_fit.specs.declared.moments.PlaceSums.{PlaceSums}
use Rattle.pm_fit.specs.declared.moments.Spot.{Spot}
use Rattle.pm_fit.specs.Fit.{fit_of}
use Rattle.pm_fits.specs.declared.numbers.TheConstants.{GREATEST_NUMBER}
use Rattle.pm_fits.specs.declared.ranges.Range.{Range}

-- A number is from -2^21 to 2^21.
abbrev pub IsNumber : ℤ → Type 0
IsNumber n = unsigned_abs n ≤ GREATEST_NUMBER

abbrev pub AreNumbers : List ℤ → Type 0
AreNumbers values = (i : ℕ) → i < length values → IsNumber (slice_index_or values i (pos 0))

-- What leaf x has, where each vertex of the input has a number: that of its vertex. And the list of
-- what all leaves have.
abbrev pub number_of : Hierarchy → List ℤ → ℕ → ℤ
number_of h values x = slice_index_or values (leaf_input h x - 1) (pos 0)

unfoldable pub numbers_by_leaf : Hierarchy → List ℤ → List ℤ
numbers_by_leaf h values = map (number_of h values) (range_with_len 0 (leaf_count h))

abbrev pub number_at : List ℤ → ℕ → ℤ
number_at numbers x = slice_index_or numbers x (pos 0)

-- The place of node v, each coordinate with 32,767 added, and a number with 2^21 added: so neither
-- is below 0.
abbrev pub raised : ℤ → ℕ
raised c = unsigned_abs (c +ℤ pos 32767)

unfoldable pub spot_of : Hierarchy → ℕ → Spot
spot_of h v =
    let p = place_of_node h v in record { x = raised p.x; y = raised p.y; z = raised p.z }

abbrev pub lifted : ℤ → ℕ
lifted n = unsigned_abs (n +ℤ pos GREATEST_NUMBER)

-- The terms of one spot in sums over spots, and with its number w.
unfoldable pub place_terms : Spot → PlaceSums
place_terms p = record {
  x = p.x;
  y = p.y;
  z = p.z;
  xx = p.x * p.x;
  xy = p.x * p.y;
  xz = p.x * p.z;
  yy = p.y * p.y;
  yz = p.y * p.z;
  zz = p.z * p.z;
}

unfoldable pub number_terms : Spot → ℕ → NumberSums
number_terms p w = record { w = w; wx = w * p.x; wy = w * p.y; wz = w * p.z }

-- The terms of leaf x, where `numbers` has what each leaf has.
abbrev pub leaf_spot : Hierarchy → ℕ → Spot
leaf_spot h x = spot_of h (leaf_node_of h x)

abbrev pub leaf_places : Hierarchy → ℕ → PlaceSums
leaf_places h x = place_terms (leaf_spot h x)

abbrev pub leaf_numbers : Hierarchy → List ℤ → ℕ → NumberSums
leaf_numbers h numbers x = number_terms (leaf_spot h x) (lifted (number_at numbers x))

-- The sums of such terms over the numbers below n that pass.
abbrev pub place_sums : (ℕ → Bool) → (ℕ → PlaceSums) → ℕ → PlaceSums
place_sums p f n = record {
  x = sum_over p (λ i. (f i).x) n;
  y = sum_over p (λ i. (f i).y) n;
  z = sum_over p (λ i. (f i).z) n;
  xx = sum_over p (λ i. (f i).xx) n;
  xy = sum_over p (λ i. (f i).xy) n;
  xz = sum_over p (λ i. (f i).xz) n;
  yy = sum_over p (λ i. (f i).yy) n;
  yz = sum_over p (λ i. (f i).yz) n;
  zz = sum_over p (λ i. (f i).zz) n;
}

abbrev pub number_sums : (ℕ → Bool) → (ℕ → NumberSums) → ℕ → NumberSums
number_sums p f n = record {
  w = sum_over p (λ i. (f i).w) n;
  wx = sum_over p (λ i. (f i).wx) n;
  wy = sum_over p (λ i. (f i).wy) n;
  wz = sum_over p (λ i. (f i).wz) n;
}

-- The sums over the leaves before leaf x.
abbrev pub places_before : Hierarchy → ℕ → PlaceSums
places_before h x = place_sums every (leaf_places h) x

abbrev pub numbers_before : Hierarchy → List ℤ → ℕ → NumberSums
numbers_before h numbers x = number_sums every (leaf_numbers h numbers) x

-- The sums over the leaves under node v.
abbrev pub places_under : Hierarchy → ℕ → PlaceSums
places_under h v = place_sums (holds h v) (leaf_places h) (leaf_count h)

abbrev pub numbers_under : Hierarchy → List ℤ → ℕ → NumberSums
numbers_under h numbers v = number_sums (holds h v) (leaf_numbers h numbers) (leaf_count h)

unfoldable pub moments_of : Hierarchy → List ℤ → ℕ → Moments
moments_of h numbers v = record {
  count = count_under h v;
  places = places_under h v;
  numbers = numbers_under h numbers v;
}

-- The least and the greatest of f at from, from + 1, .., from + n.
unfoldable pub least_from : (ℕ → ℤ) → ℕ → ℕ → ℤ
least_from f from zero = f from
least_from f from (suc n) = int_min (least_from f from n) (f (from + suc n))

unfoldable pub greatest_from : (ℕ → ℤ) → ℕ → ℕ → ℤ
greatest_from f from zero = f from
greatest_from f from (suc n) = int_max (greatest_from f from n) (f (from + suc n))

-- The least and the greatest number of the leaves under node v.
unfoldable pub range_under : Hierarchy → List ℤ → ℕ → Range
range_under h numbers v =
    let i = interval_of h v in
    let more = i.until - i.from - 1 in
    record {
      least = least_from (number_at numbers) i.from more;
      greatest = greatest_from (number_at numbers) i.from more;
    }

-- The number of a range that is nearest to n.
abbrev pub brought_within : Range → ℤ → ℤ
brought_within r n = int_max r.least (int_min r.greatest n)

-- What node v has: the fit to its leaves at its place, brought within the range of their numbers.
unfoldable pub fit_under : Hierarchy → List ℤ → ℕ → ℤ
fit_under h numbers v =
    brought_within (range_under h numbers v)
    (fit_of (moments_of h numbers v) (spot_of h v) -ℤ pos GREATEST_NUMBER)

-- The same by the numbers of the input's vertices.
abbrev pub fit_at : Hierarchy → List ℤ → ℕ → ℤ
fit_at h values v = fit_under h (numbers_by_leaf h values) v
