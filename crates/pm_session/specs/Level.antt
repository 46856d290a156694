-- The level of detail that a front shows, and the line that tells it.
use Rattle.std.specs.Prelude.{ℕ, Bool, List, ◌++◌, length, map, codes}
use Rattle.std.specs.Fmt.{decimal}
use Rattle.pm_base.specs.Counts.{count}
use Rattle.pm_forest.specs.Forest.{Hierarchy, record_count}
use Rattle.pm_front.specs.Shown.{active_nodes, kept_faces}
use Rattle.pm_bounds.specs.Bounds.{greatest, error_of}
use Rattle.pm_deviation.specs.Deviations.{deviation_of}

-- How many records are split.
abbrev pub split_count : Hierarchy → (ℕ → Bool) → ℕ
split_count h T = count T (record_count h)

-- The greatest error of a node that is active.
abbrev pub greatest_error : Hierarchy → (ℕ → Bool) → ℕ
greatest_error h T = greatest (map (error_of h) (active_nodes h T))

-- The greatest deviation of one.
abbrev pub greatest_deviation : Hierarchy → (ℕ → Bool) → ℕ
greatest_deviation h T = greatest (map (deviation_of h) (active_nodes h T))

-- `level NODES FACES SPLIT ERROR DEVIATION`
unfoldable pub level_line : ℕ → ℕ → ℕ → ℕ → ℕ → List ℕ
level_line nodes faces split error deviation =
    codes "level " ++ decimal nodes ++ codes " " ++ decimal faces ++ codes " " ++ decimal split
    ++ codes " " ++ decimal error ++ codes " " ++ decimal deviation ++ codes "\n"

-- The reply to `l`.
abbrev pub level_reply : Hierarchy → (ℕ → Bool) → List ℕ
level_reply h T =
    level_line (length (active_nodes h T)) (length (kept_faces h T)) (split_count h T)
    (greatest_error h T)
    (greatest_deviation h T)
