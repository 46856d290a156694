-- How great sums over leaves are.
use Rattle.std.proofs.Common.{◌≡◌, ℕ, zero, suc, ◌*◌, ◌^◌, ◌<◌, ◌≤◌, List}
use Rattle.std.proofs.Common.{length, arith}
use Rattle.std.proofs.Math.Nat.{mul-suc}
use Rattle.std.proofs.lemmas.Nat.{mul-le}
use Rattle.std.specs.Prelude.{ℤ}
use borrow.Author.Differences.{ints}
use Rattle.pm_forest.specs.Forest.{Hierarchy, node_count, leaf_count, holds}
use Rattle.pm_forest.specs.Fronts.{every}
use Rattle.pm_forest.specs.Rules.{HasShape}
use Rattle.pm_forest.specs.Tables.{leaf_node_of}
use Rattle.pm_forest.proofs.HierarchyLaws.{some_leaves, leaf_node-lt}
use Rattle.pm_forest.proofs.LeafNodes.{interval_of-le}
use Rattle.pm_forest.proofs.ShapeLaws.{shape_of_nodes, leaf_count-le}
use Rattle.pm_paint.specs.Means.{sum_over, count_under}
use Rattle.pm_paint.proofs.SumLaws.{sum-zero, sum-every, sum_most}
use Rattle.pm_paint.proofs.MeanLaws.{count_is}
use Rattle.pm_fit.specs.declared.moments.Spot.{Spot}
use Rattle.pm_fit.specs.Fit.{IsSpot, AreMoments}
use Rattle.pm_fits.specs.Fits.{IsNumber, AreNumbers, number_at, lifted, place_terms, number_terms}
use Rattle.pm_fits.specs.Fits.{leaf_spot, leaf_places, leaf_numbers, places_before, numbers_before}
use Rattle.pm_fits.specs.Fits.{moments_of}
use Rattle.pm_fits.specs.Sums.{ArePlacesWithin, AreNumbersWithin}
use Rattle.pm_fits.proofs.PlaceLaws.{spot_small}

-- a sum of numbers that are at most b
sum_every_most : (f : ℕ → ℕ) (b n : ℕ) → ((x : ℕ) → x < n → f x ≤ b) → sum_over every f n ≤ b * n
sum_every_most f b zero most = rw (sum-zero every f) (omega arith)
sum_every_most f b (suc n) most =
    let was = sum_every_most f b n (λ x l. most x (omega arith)) in
    let more = sum-every f n in
    let product = mul-suc b n in
    let here : f n ≤ b = most n (omega arith) in
    omega arith

product-le : (a b c d : ℕ) → a ≤ c → b ≤ d → a * b ≤ c * d
product-le a b c d l m = mul-le a b c d l m

-- The terms of places in range, with numbers in range
pub place_terms_small : (p : Spot) → IsSpot p → ArePlacesWithin 65534 (2 ^ 32) (place_terms p)
unfolding place_terms
place_terms_small p s = record {
  x = s.x;
  y = s.y;
  z = s.z;
  xx = (let m = product-le p.x p.x 65534 65534 s.x s.x in omega arith);
  xy = (let m = product-le p.x p.y 65534 65534 s.x s.y in omega arith);
  xz = (let m = product-le p.x p.z 65534 65534 s.x s.z in omega arith);
  yy = (let m = product-le p.y p.y 65534 65534 s.y s.y in omega arith);
  yz = (let m = product-le p.y p.z 65534 65534 s.y s.z in omega arith);
  zz = (let m = product-le p.z p.z 65534 65534 s.z s.z in omega arith);
}

pub number_terms_small : (p : Spot) (w : ℕ) → IsSpot p → w ≤ 2 ^ 22
    → AreNumbersWithin (2 ^ 38) (number_terms p w)
unfolding number_terms
number_terms_small p w s l = record {
  w = omega arith;
  wx = (let m = product-le w p.x 4194304 65534 l s.x in omega arith);
  wy = (let m = product-le w p.y 4194304 65534 l s.y in omega arith);
  wz = (let m = product-le w p.z 4194304 65534 l s.z in omega arith);
}

lifted-le : (n : ℤ) → IsNumber n → lifted n ≤ 2 ^ 22
lifted-le n l = omega (arith, ints)

module _ (h : Hierarchy) (shape : HasShape h) where
  pub leaf_places_small : (x : ℕ) → x < leaf_count h
      → ArePlacesWithin 65534 (2 ^ 32) (leaf_places h x)
  leaf_places_small x l =
      place_terms_small (leaf_spot h x)
      (spot_small h shape (leaf_node_of h x) (leaf_node-lt h shape x l))

  pub places_before_small : (x : ℕ) → x ≤ leaf_count h
      → ArePlacesWithin (2 ^ 60) (2 ^ 60) (places_before h x)
  places_before_small x l =
      let few = leaf_count-le h shape in
      let f = leaf_places h in
      let small = λ (i : ℕ) (m : i < x). leaf_places_small i (omega arith) in
      let sx = sum_every_most (λ i. (f i).x) 65534 x (λ i m. (small i m).x) in
      let sy = sum_every_most (λ i. (f i).y) 65534 x (λ i m. (small i m).y) in
      let sz = sum_every_most (λ i. (f i).z) 65534 x (λ i m. (small i m).z) in
      let sxx = sum_every_most (λ i. (f i).xx) (2 ^ 32) x (λ i m. (small i m).xx) in
      let sxy = sum_every_most (λ i. (f i).xy) (2 ^ 32) x (λ i m. (small i m).xy) in
      let sxz = sum_every_most (λ i. (f i).xz) (2 ^ 32) x (λ i m. (small i m).xz) in
      let syy = sum_every_most (λ i. (f i).yy) (2 ^ 32) x (λ i m. (small i m).yy) in
      let syz = sum_every_most (λ i. (f i).yz) (2 ^ 32) x (λ i m. (small i m).yz) in
      let szz = sum_every_most (λ i. (f i).zz) (2 ^ 32) x (λ i m. (small i m).zz) in
      record {
        x = omega (arith, sx, few, l);
        y = omega (arith, sy, few, l);
        z = omega (arith, sz, few, l);
        xx = omega (arith, sxx, few, l);
        xy = omega (arith, sxy, few, l);
        xz = omega (arith, sxz, few, l);
        yy = omega (arith, syy, few, l);
        yz = omega (arith, syz, few, l);
        zz = omega (arith, szz, few, l);
      }

-- numbers in range
module _ (h : Hierarchy) (shape : HasShape h) (numbers : List ℤ)
    (len : length numbers ≡ leaf_count h) (small : AreNumbers numbers) where
  pub leaf_numbers_small : (x : ℕ) → x < leaf_count h
      → AreNumbersWithin (2 ^ 38) (leaf_numbers h numbers x)
  leaf_numbers_small x l =
      number_terms_small (leaf_spot h x) (lifted (number_at numbers x))
      (spot_small h shape (leaf_node_of h x) (leaf_node-lt h shape x l))
      (lifted-le (number_at numbers x) (small x (omega arith)))

  pub numbers_before_small : (x : ℕ) → x ≤ leaf_count h
      → AreNumbersWithin (2 ^ 60) (numbers_before h numbers x)
  numbers_before_small x l =
      let few = leaf_count-le h shape in
      let f = leaf_numbers h numbers in
      let each = λ (i : ℕ) (m : i < x). leaf_numbers_small i (omega arith) in
      let sw = sum_every_most (λ i. (f i).w) (2 ^ 38) x (λ i m. (each i m).w) in
      let sx = sum_every_most (λ i. (f i).wx) (2 ^ 38) x (λ i m. (each i m).wx) in
      let sy = sum_every_most (λ i. (f i).wy) (2 ^ 38) x (λ i m. (each i m).wy) in
      let sz = sum_every_most (λ i. (f i).wz) (2 ^ 38) x (λ i m. (each i m).wz) in
      record {
        w = omega (arith, sw, few, l);
        wx = omega (arith, sx, few, l);
        wy = omega (arith, sy, few, l);
        wz = omega (arith, sz, few, l);
      }

  pub moments_small : (v : ℕ) → v < node_count h → AreMoments (moments_of h numbers v)
  unfolding moments_of
  moments_small v l =
      let some = some_leaves h shape v l in
      let count = count_is h shape v l in
      let last = interval_of-le h (shape_of_nodes h shape) v l in
      let few = leaf_count-le h shape in
      let n = count_under h v in
      let m = leaf_count h in
      let most : n ≤ 1048576 = omega (arith, count, last, few) in
      let f = leaf_places h in
      let g = leaf_numbers h numbers in
      let fs = leaf_places_small h shape in
      let gs = leaf_numbers_small in
      let p = holds h v in
      let sx = sum_most p (λ i. (f i).x) 65534 m (λ i k e. (fs i k).x) in
      let sy = sum_most p (λ i. (f i).y) 65534 m (λ i k e. (fs i k).y) in
      let sz = sum_most p (λ i. (f i).z) 65534 m (λ i k e. (fs i k).z) in
      let sxx = sum_most p (λ i. (f i).xx) (2 ^ 32) m (λ i k e. (fs i k).xx) in
      let sxy = sum_most p (λ i. (f i).xy) (2 ^ 32) m (λ i k e. (fs i k).xy) in
      let sxz = sum_most p (λ i. (f i).xz) (2 ^ 32) m (λ i k e. (fs i k).xz) in
      let syy = sum_most p (λ i. (f i).yy) (2 ^ 32) m (λ i k e. (fs i k).yy) in
      let syz = sum_most p (λ i. (f i).yz) (2 ^ 32) m (λ i k e. (fs i k).yz) in
      let szz = sum_most p (λ i. (f i).zz) (2 ^ 32) m (λ i k e. (fs i k).zz) in
      let sw = sum_most p (λ i. (g i).w) (2 ^ 38) m (λ i k e. (gs i k).w) in
      let swx = sum_most p (λ i. (g i).wx) (2 ^ 38) m (λ i k e. (gs i k).wx) in
      let swy = sum_most p (λ i. (g i).wy) (2 ^ 38) m (λ i k e. (gs i k).wy) in
      let swz = sum_most p (λ i. (g i).wz) (2 ^ 38) m (λ i k e. (gs i k).wz) in
      record {
        some = omega (arith, some, count);
        few = most;
        x = sx;
        y = sy;
        z = sz;
        xx = omega (arith, sxx, most);
        xy = omega (arith, sxy, most);
        xz = omega (arith, sxz, most);
        yy = omega (arith, syy, most);
        yz = omega (arith, syz, most);
        zz = omega (arith, szz, most);
        w = omega (arith, sw, most);
        wx = omega (arith, swx, most);
        wy = omega (arith, swy, most);
        wz = omega (arith, swz, most);
      }
