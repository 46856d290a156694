-- The laws of means, for a hierarchy of the right shape.
use Rattle.std.specs.Prelude.{◌≡◌, ℕ, ◌+◌, ◌*◌, ◌<◌, ◌≤◌, ◌==◌, ◌&&◌, List, Bool, length}
use Rattle.std.specs.Prelude.{slice_index_or}
use Rattle.pm_base.specs.Counts.{count}
use Rattle.pm_base.specs.Sides.{face_of}
use Rattle.pm_forest.specs.Forest.{Hierarchy, record_count, node_count, leaf_count, s_of, t_of}
use Rattle.pm_forest.specs.Forest.{u_of, holds, Holds}
use Rattle.pm_forest.specs.Fronts.{IsFront, is_active, ancestor_of}
use Rattle.pm_forest.specs.Faces.{face_count, from_leaf}
use Rattle.pm_forest.specs.Rules.{HasShape}
use Rattle.pm_forest.specs.Tables.{leaf_node_of}
use Rattle.pm_forest.specs.Meshes.{leaf_of_input}
use Rattle.pm_paint.specs.Means.{value_of, total_before, sum_over, sum_under}
use Rattle.pm_paint.specs.Means.{count_under, mean_of, channel_of, mean_array}

-- The node of a leaf has what the leaf has.
abbrev pub LeavesKeepTheirs : Type 0
LeavesKeepTheirs =
    (h : Hierarchy) → HasShape h → (values : List ℕ) (x : ℕ) → x < leaf_count h
    → mean_of h values (leaf_node_of h x) ≡ value_of h values x

-- So where all leaves are shown, each vertex of the input has its own number again.
abbrev pub InputsComeBack : Type 0
InputsComeBack =
    (h : Hierarchy) → HasShape h → (values : List ℕ) (i : ℕ) → i < leaf_count h
    → mean_of h values (leaf_node_of h (leaf_of_input h i)) ≡ slice_index_or values i 0

-- What is under a node that is split is under its two children, once.
abbrev pub SumsJoin : Type 0
SumsJoin =
    (h : Hierarchy) → HasShape h → (values : List ℕ) (k : ℕ) → k < record_count h
    → (sum_under h values (s_of h k)
    ≡ sum_under h values (t_of h k) + sum_under h values (u_of h k))
    × (count_under h (s_of h k) ≡ count_under h (t_of h k) + count_under h (u_of h k))

-- A mean is the whole number nearest to the sum over the count, halves up; there is no mean of
-- nothing.
abbrev pub MeansAreNearest : Type 0
MeansAreNearest =
    (h : Hierarchy) → HasShape h → (values : List ℕ) (v : ℕ) → v < node_count h
    → (0 < count_under h v)
    × (2 * (count_under h v * mean_of h values v) ≤ 2 * sum_under h values v + count_under h v)
    × (2 * sum_under h values v < 2 * (count_under h v * mean_of h values v) + count_under h v)

-- A mean lies between numbers between which lies all that is under the node.
abbrev pub MeansLieBetween : Type 0
MeansLieBetween =
    (h : Hierarchy) → HasShape h → (values : List ℕ) (v a b : ℕ) → v < node_count h
    → ((x : ℕ) → x < leaf_count h → Holds h v x
    → (a ≤ value_of h values x) × (value_of h values x ≤ b))
    → (a ≤ mean_of h values v) × (mean_of h values v ≤ b)

-- Whatever a front shows, its nodes have together what all leaves have: nothing is lost, and
-- nothing counts twice.
abbrev pub FrontsHaveAll : Type 0
FrontsHaveAll =
    (h : Hierarchy) → HasShape h → (T : ℕ → Bool) → IsFront h T → (values : List ℕ)
    → sum_over (is_active h T) (sum_under h values) (node_count h)
    ≡ total_before h values (leaf_count h)

-- Of the means in c channels, entry v c + j is that of node v in channel j; there are no others.
abbrev pub ChannelsStandTogether : Type 0
ChannelsStandTogether =
    (h : Hierarchy) (values : List ℕ) (c : ℕ)
    → (length (mean_array h c values) ≡ node_count h * c)
    × ((v j : ℕ) → v < node_count h → j < c → slice_index_or (mean_array h c values) (v * c + j) 0
    ≡ mean_of h (channel_of values c j (leaf_count h)) v)

-- How many corners of a chart have their leaf under node v, where each face has a chart.
abbrev pub corners_under : Hierarchy → (ℕ → ℕ) → ℕ → ℕ → ℕ
corners_under h chart c v =
    count (λ e. (chart (face_of e) == c) && holds h v (from_leaf h e)) (3 * face_count h)

-- The node at a corner of a face has a corner of the face's chart below it, in any front. So a mean
-- over the corners of a chart below a node is there wherever it is shown.
abbrev pub EachCornerHasItsChart : Type 0
EachCornerHasItsChart =
    (h : Hierarchy) → HasShape h → (T : ℕ → Bool) → IsFront h T → (chart : ℕ → ℕ) (e : ℕ)
    → e < 3 * face_count h
    → 0 < corners_under h chart (chart (face_of e)) (ancestor_of h T (from_leaf h e))
