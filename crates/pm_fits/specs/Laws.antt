-- The laws of fits, for a hierarchy of the right shape and any whole numbers.
use Rattle.std.specs.Prelude.{◌≡◌, ℕ, ◌+◌, ◌*◌, ◌<◌, List, length, slice_index_or}
use Rattle.std.specs.Prelude.{ℤ, pos, ◌≤ℤ◌}
use Rattle.pm_forest.specs.Forest.{Hierarchy, node_count, leaf_count, Holds}
use Rattle.pm_forest.specs.Rules.{HasShape}
use Rattle.pm_forest.specs.Tables.{leaf_node_of}
use Rattle.pm_forest.specs.Meshes.{leaf_of_input}
use Rattle.pm_fits.specs.Channels.{channel_of, fit_array}
use Rattle.pm_fits.specs.Fits.{number_of, fit_at}

-- The node of a leaf has what the leaf has.
abbrev pub LeavesKeepTheirs : Type 0
LeavesKeepTheirs =
    (h : Hierarchy) → HasShape h → (values : List ℤ) (x : ℕ) → x < leaf_count h
    → fit_at h values (leaf_node_of h x) ≡ number_of h values x

-- So where all leaves are shown, each vertex of the input has its own number again.
abbrev pub InputsComeBack : Type 0
InputsComeBack =
    (h : Hierarchy) → HasShape h → (values : List ℤ) (i : ℕ) → i < leaf_count h
    → fit_at h values (leaf_node_of h (leaf_of_input h i)) ≡ slice_index_or values i (pos 0)

-- A fit lies between numbers between which lies all that is under the node.
abbrev pub FitsLieBetween : Type 0
FitsLieBetween =
    (h : Hierarchy) → HasShape h → (values : List ℤ) (v : ℕ) (a b : ℤ) → v < node_count h
    → ((x : ℕ) → x < leaf_count h → Holds h v x
    → (a ≤ℤ number_of h values x) × (number_of h values x ≤ℤ b))
    → (a ≤ℤ fit_at h values v) × (fit_at h values v ≤ℤ b)

-- Where all leaves under a node have the same number, the node has it too.
abbrev pub EqualNumbersStay : Type 0
EqualNumbersStay =
    (h : Hierarchy) → HasShape h → (values : List ℤ) (v : ℕ) (a : ℤ) → v < node_count h
    → ((x : ℕ) → x < leaf_count h → Holds h v x → number_of h values x ≡ a)
    → fit_at h values v ≡ a

-- Of the fits in c channels, entry v c + j is that of node v in channel j; there are no others.
abbrev pub ChannelsStandTogether : Type 0
ChannelsStandTogether =
    (h : Hierarchy) (values : List ℤ) (c : ℕ)
    → (length (fit_array h c values) ≡ node_count h * c)
    × ((v j : ℕ) → v < node_count h → j < c
    → slice_index_or (fit_array h c values) (v * c + j) (pos 0)
    ≡ fit_at h (channel_of values c j (leaf_count h)) v)
