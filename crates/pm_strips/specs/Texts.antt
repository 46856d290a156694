-- The parts of a strip's line.
use Rattle.std.specs.Prelude.{ℕ, List, ◌++◌, codes}
use Rattle.std.specs.List.{flat_map}
use Rattle.pm_base.specs.Sides.{next}
use Rattle.pm_strips.specs.Strips.{listed_nodes}
use Rattle.pm_strips.specs.Shown.{node_text, strip_line}

-- The first three nodes of a strip that begins with side e.
unfoldable pub first_text : (ℕ → ℕ) → ℕ → List ℕ
first_text node e =
    codes "t" ++ node_text (node e) ++ node_text (node (next e)) ++ node_text (node (next (next e)))

-- The node that a strip lists when it enters a triangle by side g; and those for several.
abbrev pub node_entered : (ℕ → ℕ) → ℕ → List ℕ
node_entered node g = node_text (node (next (next g)))

abbrev pub entered_text : (ℕ → ℕ) → List ℕ → List ℕ
entered_text node sides = flat_map (node_entered node) sides

abbrev pub line_end : List ℕ
line_end = codes "\n"

-- The line of a strip.
abbrev pub line_of : (ℕ → ℕ) → List ℕ → List ℕ
line_of node sides = strip_line (listed_nodes node sides)
