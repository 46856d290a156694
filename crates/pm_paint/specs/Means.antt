-- The sum and the mean of what the leaves under a node have.
use Rattle.std.specs.Prelude.{ℕ, zero, suc, ◌+◌, ◌-◌, ◌*◌, ◌/◌, ◌%◌, ◌<◌, ◌≤◌, List, Bool, cond}
use Rattle.std.specs.Prelude.{length, map, slice_index_or}
use Rattle.std.specs.List.{range_with_len}
use Rattle.pm_base.specs.Counts.{count}
use Rattle.pm_forest.specs.Forest.{Hierarchy, node_count, leaf_count, holds}
use Rattle.pm_forest.specs.Fronts.{every}
use Rattle.pm_forest.specs.Meshes.{leaf_input}

-- No number of a list is above b.
abbrev pub AreAtMost : ℕ → List ℕ → Type 0
AreAtMost b values = (i : ℕ) → i < length values → slice_index_or values i 0 ≤ b

-- The sum of f over the numbers below n that pass.
unfoldable pub sum_over : (ℕ → Bool) → (ℕ → ℕ) → ℕ → ℕ
sum_over p f zero = 0
sum_over p f (suc n) = cond (p n) (f n) 0 + sum_over p f n

-- What leaf x has, where each vertex of the input has a number: that of its vertex.
abbrev pub value_of : Hierarchy → List ℕ → ℕ → ℕ
value_of h values x = slice_index_or values (leaf_input h x - 1) 0

-- The sum of what the leaves before leaf x have.
abbrev pub total_before : Hierarchy → List ℕ → ℕ → ℕ
total_before h values x = sum_over every (value_of h values) x

-- The sum of what the leaves under node v have, and how many these are.
abbrev pub sum_under : Hierarchy → List ℕ → ℕ → ℕ
sum_under h values v = sum_over (holds h v) (value_of h values) (leaf_count h)

abbrev pub count_under : Hierarchy → ℕ → ℕ
count_under h v = count (holds h v) (leaf_count h)

-- The whole number nearest to s / n, halves up.
abbrev pub rounded : ℕ → ℕ → ℕ
rounded s n = (2 * s + n) / (2 * n)

-- The rounded mean of what the leaves under node v have.
unfoldable pub mean_of : Hierarchy → List ℕ → ℕ → ℕ
mean_of h values v = rounded (sum_under h values v) (count_under h v)

-- What n vertices have in channel j, where the c numbers of each stand together.
abbrev pub channel_of : List ℕ → ℕ → ℕ → ℕ → List ℕ
channel_of values c j n = map (λ i. slice_index_or values (i * c + j) 0) (range_with_len 0 n)

-- The mean that stands at place k where the c means of each node stand together: that of node k / c
-- in channel k % c.
abbrev pub mean_at : Hierarchy → ℕ → List ℕ → ℕ → ℕ
mean_at h c values k = mean_of h (channel_of values c (k % c) (leaf_count h)) (k / c)

-- The means of all nodes in c channels.
unfoldable pub mean_array : Hierarchy → ℕ → List ℕ → List ℕ
mean_array h c values = map (mean_at h c values) (range_with_len 0 (node_count h * c))
