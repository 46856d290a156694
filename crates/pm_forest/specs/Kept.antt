-- Kept faces, and the mesh that a front shows.
use Rattle.std.specs.Prelude.{ℕ, ◌+◌, ◌*◌, ◌==◌, Bool, not, ◌&&◌}
use Rattle.pm_forest.specs.Forest.{Hierarchy}
use Rattle.pm_forest.specs.Fronts.{ancestor_of, made_in}
use Rattle.pm_forest.specs.Faces.{from_leaf, record_of}

-- A face is kept in a front if its three corners have three different ancestors.
unfoldable pub is_kept : Hierarchy → (ℕ → Bool) → ℕ → Bool
is_kept h T f =
    let a = ancestor_of h T (from_leaf h (3 * f)) in
    let b = ancestor_of h T (from_leaf h (3 * f + 1)) in
    let c = ancestor_of h T (from_leaf h (3 * f + 2)) in
    not (a == b) && (not (b == c) && not (c == a))

-- The face of side e is a base face, or its record is split.
unfoldable pub is_shown : Hierarchy → (ℕ → Bool) → ℕ → Bool
is_shown h T e = made_in T (record_of h e)
