-- Fits in several channels: the numbers of a vertex stand together, as the two of a place in a
-- texture.
use Rattle.std.specs.Prelude.{ℕ, ◌+◌, ◌*◌, ◌/◌, ◌%◌, List, map, slice_index_or, ℤ, pos}
use Rattle.std.specs.List.{range_with_len}
use Rattle.pm_forest.specs.Forest.{Hierarchy, node_count, leaf_count}
use Rattle.pm_fits.specs.Fits.{fit_at}

-- What n vertices have in channel j, where the c numbers of each stand together.
abbrev pub channel_of : List ℤ → ℕ → ℕ → ℕ → List ℤ
channel_of values c j n =
    map (λ i. slice_index_or values (i * c + j) (pos 0)) (range_with_len 0 n)

-- The fit that stands at place k where the c fits of each node stand together: that of node k / c
-- in channel k % c.
abbrev pub fit_entry : Hierarchy → ℕ → List ℤ → ℕ → ℤ
fit_entry h c values k = fit_at h (channel_of values c (k % c) (leaf_count h)) (k / c)

-- The fits of all nodes in c channels.
unfoldable pub fit_array : Hierarchy → ℕ → List ℤ → List ℤ
fit_array h c values = map (fit_entry h c values) (range_with_len 0 (node_count h * c))
