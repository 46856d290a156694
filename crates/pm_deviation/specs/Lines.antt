-- Which way the border runs under a node: the directions of its sides in parts of 1 / 16,384 of
-- their own lengths, as normals have them.
use Rattle.std.specs.Prelude.{ℕ, map, Option, ◌-ℤ◌}
use Rattle.pm_base.specs.Place.{Place}
use Rattle.pm_base.specs.Geometry.{Direction}
use Rattle.pm_forest.specs.Forest.{Hierarchy}
use Rattle.pm_forest.specs.Faces.{from_leaf, to_leaf}
use Rattle.pm_forest.specs.Meshes.{leaf_place}
use Rattle.pm_deviation.specs.declared.axes.Axis.{Axis}
use Rattle.pm_deviation.specs.declared.spread.Spread.{Spread}
use Rattle.pm_deviation.specs.declared.unit_box.UnitBox.{UnitBox}
use Rattle.pm_deviation.specs.Spreads.{joined_all}
use Rattle.pm_deviation.specs.Normals.{part_along, box_by, greatest_cosine}
use Rattle.pm_deviation.specs.Borders.{border_sides_under}

-- From q to p.
abbrev pub way : Place → Place → Direction
way p q = record { x = p.x -ℤ q.x; y = p.y -ℤ q.y; z = p.z -ℤ q.z }

-- The direction of side e.
abbrev pub side_way : Hierarchy → ℕ → Direction
side_way h e = way (leaf_place h (to_leaf h e)) (leaf_place h (from_leaf h e))

-- What the directions of the border sides with an end under node v have along an axis; none where
-- no such side with a length is there.
unfoldable pub line_spread_of : Hierarchy → Axis → ℕ → Option Spread
line_spread_of h u v =
    joined_all (map (λ e. part_along u (side_way h e)) (border_sides_under h v))

-- The box of these directions.
abbrev pub line_box_of : Hierarchy → ℕ → UnitBox
line_box_of h v = box_by (λ u. line_spread_of h u v)

-- The least cosine of these directions with the axis that they run along most alike: 0 where some
-- run one way along each axis and some the other, as those of a border that comes back do.
unfoldable pub line_cosine_of : Hierarchy → ℕ → ℕ
line_cosine_of h v = greatest_cosine (λ u. line_spread_of h u v)
