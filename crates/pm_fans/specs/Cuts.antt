-- The sides along which a surface is cut open.
use Rattle.std.specs.Prelude.{ℕ, Bool, ◌==◌, ◌&&◌, ◌||◌, nat_lt}
use Rattle.pm_base.specs.Counts.{count}
use Rattle.pm_base.specs.Sides.{Net, to, stands, side_count}

-- Side g runs from p to q.
abbrev pub side_runs : Net → ℕ → ℕ → ℕ → Bool
side_runs m p q g = stands m g && ((m.from g == p) && (to m g == q))

-- Several sides run as this one does, or several run back along it.
unfoldable pub is_cut : Net → ℕ → Bool
is_cut m e =
    nat_lt 1 (count (side_runs m (m.from e) (to m e)) (side_count m)) || nat_lt 1
    (count (side_runs m (to m e) (m.from e)) (side_count m))

unfoldable pub cut_count : Net → ℕ
cut_count m = count (is_cut m) (side_count m)
