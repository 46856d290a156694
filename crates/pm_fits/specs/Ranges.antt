-- Ranges of numbers, and tables of them by node.
use Rattle.std.specs.Prelude.{◌≡◌, ℕ, ◌<◌, List, length, ℤ, pos, slice_index_or}
use Rattle.std.specs.Int.{int_min, int_max}
use Rattle.pm_forest.specs.Forest.{Hierarchy, node_count, interval_of}
use Rattle.pm_fits.specs.declared.ranges.Range.{Range}
use Rattle.pm_fits.specs.Fits.{number_at, range_under}

-- The range of one number, and the least that has two others in it.
abbrev pub range_of : ℤ → Range
range_of n = record { least = n; greatest = n }

abbrev pub joined : Range → Range → Range
joined a b = record {
  least = int_min a.least b.least;
  greatest = int_max a.greatest b.greatest;
}

abbrev pub range_at : List Range → ℕ → Range
range_at ranges v = slice_index_or ranges v (range_of (pos 0))

-- The first n nodes with the number of their first leaf.
pub record AreFirst (h : Hierarchy) (numbers : List ℤ) (n : ℕ) (ranges : List Range) : Type 0 where
  pub len : length ranges ≡ n
  pub each : (v : ℕ) → v < n → range_at ranges v
      ≡ range_of (number_at numbers (interval_of h v).from)

-- The range of each node.
pub record AreRanges (h : Hierarchy) (numbers : List ℤ) (ranges : List Range) : Type 0 where
  pub len : length ranges ≡ node_count h
  pub each : (v : ℕ) → v < node_count h → range_at ranges v ≡ range_under h numbers v
