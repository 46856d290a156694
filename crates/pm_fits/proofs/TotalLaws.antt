-- Totals of the leaves.
use Rattle.std.proofs.Common.{◌≡◌, ℕ, suc, ◌+◌, ◌-◌, ◌<◌, ◌≤◌, List}
use Rattle.std.proofs.Common.{length, map, get_or, refl, sym, ap, subst, ◌∙◌, arith}
use Rattle.std.proofs.lemmas.List.FromFn.{get_or-map-range_with_len, length-map-range_with_len}
use Rattle.std.specs.List.{range_with_len}
use Rattle.std.specs.Prelude.{ℤ}
use Rattle.pm_forest.specs.Forest.{Hierarchy, node_count, leaf_count, holds, interval_of}
use Rattle.pm_forest.specs.Fronts.{every}
use Rattle.pm_forest.specs.Rules.{HasShape}
use Rattle.pm_forest.proofs.HierarchyLaws.{some_leaves}
use Rattle.pm_forest.proofs.LeafNodes.{interval_of-le}
use Rattle.pm_forest.proofs.ShapeLaws.{shape_of_nodes}
use Rattle.pm_paint.specs.Means.{sum_over}
use Rattle.pm_paint.proofs.SumLaws.{sum-zero, sum-every, sum_interval}
use Rattle.pm_fit.specs.declared.moments.NumberSums.{NumberSums}
use Rattle.pm_fit.specs.declared.moments.PlaceSums.{PlaceSums}
use Rattle.pm_fits.specs.Fits.{leaf_places, leaf_numbers, places_before, numbers_before}
use Rattle.pm_fits.specs.Fits.{places_under, numbers_under}
use Rattle.pm_fits.specs.Sums.{ArePlacesUpTo, AreNumbersUpTo}
use Rattle.pm_fits.specs.Sums.{plus_places, less_places, plus_numbers, less_numbers}

-- one leaf more
one_more : (f : ℕ → ℕ) (x : ℕ) → f x + sum_over every f x ≡ sum_over every f (x + 1)
one_more f x =
    let step : suc x ≡ x + 1 = omega arith in sym (sum-every f x) ∙ ap (sum_over every f) step

pub places_more : (h : Hierarchy) (x : ℕ)
    → plus_places (leaf_places h x) (places_before h x) ≡ places_before h (x + 1)
places_more h x =
    let f = leaf_places h in
    rw (
      one_more (λ i. (f i).x) x,
      one_more (λ i. (f i).y) x,
      one_more (λ i. (f i).z) x,
      one_more (λ i. (f i).xx) x,
      one_more (λ i. (f i).xy) x,
      one_more (λ i. (f i).xz) x,
      one_more (λ i. (f i).yy) x,
      one_more (λ i. (f i).yz) x,
      one_more (λ i. (f i).zz) x,
    ) refl

abbrev pub no_places : PlaceSums
no_places = record { x = 0; y = 0; z = 0; xx = 0; xy = 0; xz = 0; yy = 0; yz = 0; zz = 0 }

abbrev pub no_numbers : NumberSums
no_numbers = record { w = 0; wx = 0; wy = 0; wz = 0 }

pub places_none : (h : Hierarchy) → no_places ≡ places_before h 0
places_none h =
    let f = leaf_places h in
    rw (
      sum-zero every (λ i. (f i).x),
      sum-zero every (λ i. (f i).y),
      sum-zero every (λ i. (f i).z),
      sum-zero every (λ i. (f i).xx),
      sum-zero every (λ i. (f i).xy),
      sum-zero every (λ i. (f i).xz),
      sum-zero every (λ i. (f i).yy),
      sum-zero every (λ i. (f i).yz),
      sum-zero every (λ i. (f i).zz),
    ) refl

pub numbers_more : (h : Hierarchy) (numbers : List ℤ) (x : ℕ)
    → plus_numbers (leaf_numbers h numbers x) (numbers_before h numbers x)
    ≡ numbers_before h numbers (x + 1)
numbers_more h numbers x =
    let f = leaf_numbers h numbers in
    rw (
      one_more (λ i. (f i).w) x,
      one_more (λ i. (f i).wx) x,
      one_more (λ i. (f i).wy) x,
      one_more (λ i. (f i).wz) x,
    ) refl

pub numbers_none : (h : Hierarchy) (numbers : List ℤ) → no_numbers ≡ numbers_before h numbers 0
numbers_none h numbers =
    let f = leaf_numbers h numbers in
    rw (
      sum-zero every (λ i. (f i).w),
      sum-zero every (λ i. (f i).wx),
      sum-zero every (λ i. (f i).wy),
      sum-zero every (λ i. (f i).wz),
    ) refl

-- The leaves from a to just before b, which are those under a node
module _ (h : Hierarchy) (shape : HasShape h) (v a b : ℕ) (l : v < node_count h)
    (is : interval_of h v ≡ record { from = a; until = b }) where
  sum_left : (f : ℕ → ℕ)
      → sum_over (holds h v) f (leaf_count h) + sum_over every f a ≡ sum_over every f b
  unfolding holds
  sum_left f =
      let some = some_leaves h shape v l in
      let last = interval_of-le h (shape_of_nodes h shape) v l in
      let from : (interval_of h v).from ≡ a = ap (λ i. i.from) is in
      let until : (interval_of h v).until ≡ b = ap (λ i. i.until) is in
      let s = sum_over (holds h v) f (leaf_count h) in
      let sum = sum_interval (interval_of h v) f (leaf_count h) (omega arith) last in
      subst (λ x. s + sum_over every f a ≡ sum_over every f x) until
      (subst (λ x. s + sum_over every f x ≡ sum_over every f (interval_of h v).until) from sum)

  left : (f : ℕ → ℕ)
      → sum_over every f b - sum_over every f a ≡ sum_over (holds h v) f (leaf_count h)
  left f = omega (arith, sum_left f)

  up_to : (f : ℕ → ℕ) → sum_over every f a ≤ sum_over every f b
  up_to f = omega (arith, sum_left f)

  pub places_left : less_places (places_before h b) (places_before h a) ≡ places_under h v
  places_left =
      let f = leaf_places h in
      rw (
        left (λ i. (f i).x),
        left (λ i. (f i).y),
        left (λ i. (f i).z),
        left (λ i. (f i).xx),
        left (λ i. (f i).xy),
        left (λ i. (f i).xz),
        left (λ i. (f i).yy),
        left (λ i. (f i).yz),
        left (λ i. (f i).zz),
      ) refl

  pub places_up_to : ArePlacesUpTo (places_before h b) (places_before h a)
  places_up_to = let f = leaf_places h in record {
    x = up_to (λ i. (f i).x);
    y = up_to (λ i. (f i).y);
    z = up_to (λ i. (f i).z);
    xx = up_to (λ i. (f i).xx);
    xy = up_to (λ i. (f i).xy);
    xz = up_to (λ i. (f i).xz);
    yy = up_to (λ i. (f i).yy);
    yz = up_to (λ i. (f i).yz);
    zz = up_to (λ i. (f i).zz);
  }

  pub numbers_left : (numbers : List ℤ)
      → less_numbers (numbers_before h numbers b) (numbers_before h numbers a)
      ≡ numbers_under h numbers v
  numbers_left numbers =
      let f = leaf_numbers h numbers in
      rw (
        left (λ i. (f i).w),
        left (λ i. (f i).wx),
        left (λ i. (f i).wy),
        left (λ i. (f i).wz),
      ) refl

  pub numbers_up_to : (numbers : List ℤ)
      → AreNumbersUpTo (numbers_before h numbers b) (numbers_before h numbers a)
  numbers_up_to numbers = let f = leaf_numbers h numbers in record {
    w = up_to (λ i. (f i).w);
    wx = up_to (λ i. (f i).wx);
    wy = up_to (λ i. (f i).wy);
    wz = up_to (λ i. (f i).wz);
  }

  -- both ends have totals
  pub inside : (a < b) × (b < leaf_count h + 1)
  inside =
      let some = some_leaves h shape v l in
      let last = interval_of-le h (shape_of_nodes h shape) v l in
      let from : (interval_of h v).from ≡ a = ap (λ i. i.from) is in
      let until : (interval_of h v).until ≡ b = ap (λ i. i.until) is in
      (omega arith, omega arith)

-- an entry of a table by leaf
pub entry : {X : Type 0} (f : ℕ → X) (n x : ℕ) (t : List X) (d : X)
    → t ≡ map f (range_with_len 0 n) → x < n → get_or t x d ≡ f x
entry f n x t d are l =
    ap (λ s. get_or s x d) are ∙ get_or-map-range_with_len f 0 n x x d l (omega arith)

pub entries : {X : Type 0} (f : ℕ → X) (n : ℕ) (t : List X) → t ≡ map f (range_with_len 0 n)
    → length t ≡ n
entries f n t are = ap length are ∙ length-map-range_with_len f 0 n
