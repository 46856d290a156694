-- The summary of a grid: how large it and its hierarchy are, and what three views show.
use Rattle.std.specs.Prelude.{◌≡◌, ℕ, ◌≤◌, Bool, List, ◌++◌, length, codes}
use Rattle.std.specs.Fmt.{decimal}
use Rattle.pm_base.specs.declared.log.Collapse.{Collapse}
use Rattle.pm_grid.specs.Grid.{grid}
use Rattle.pm_runs.specs.Runs.{IsRunTo}
use Rattle.pm_number.specs.Numbering.{hierarchy_of_run}
use Rattle.pm_forest.specs.Forest.{Hierarchy, record_count}
use Rattle.pm_forest.specs.Fronts.{no_records}
use Rattle.pm_format.specs.Stream.{stream}
use Rattle.pm_front.specs.Shown.{active_nodes, kept_faces}
use Rattle.pm_view.specs.Views.{View}
use Rattle.pm_refine.specs.Adapting.{view_target, view_plan}
use Rattle.pm_demo.specs.Views.{middle_view, corner_view}

-- The hierarchy is that of a log of the grid's run to no face, which goes as far as pairs may
-- be collapsed. There is one such log: `OneRunToATarget`.
pub record IsOfGrid (n : ℕ) (h : Hierarchy) : Type 0 where
  pub log : List Collapse
  pub run : IsRunTo (grid n) 0 log
  pub made : h ≡ hierarchy_of_run (grid n) log

-- `grid N vertices V faces F`
unfoldable pub grid_line : ℕ → ℕ → ℕ → List ℕ
grid_line n vertices faces =
    codes "grid " ++ decimal n ++ codes " vertices " ++ decimal vertices ++ codes " faces "
    ++ decimal faces ++ codes "\n"

-- `roots R records M base B bytes S`, where S is the length of the stream text
unfoldable pub hierarchy_line : Hierarchy → List ℕ
hierarchy_line h =
    codes "roots " ++ decimal (length h.roots) ++ codes " records " ++ decimal (record_count h)
    ++ codes " base " ++ decimal (length h.bases) ++ codes " bytes "
    ++ decimal (length (stream 0 h)) ++ codes "\n"

-- `view I settled X active A kept K`
unfoldable pub settled_line : ℕ → ℕ → ℕ → ℕ → List ℕ
settled_line i moves active kept =
    codes "view " ++ decimal i ++ codes " settled " ++ decimal moves
    ++ codes " active " ++ decimal active ++ codes " kept " ++ decimal kept ++ codes "\n"

-- The line of the view with the number i from split records T: how many moves its plan has,
-- and how many nodes are active and how many faces are kept at its target. The budget is the
-- number of records, which each plan fits: `PlansAreShort`.
unfoldable pub view_line : Hierarchy → (ℕ → Bool) → ℕ → View → List ℕ
view_line h T i view = let S = view_target h view in
    settled_line i (length (view_plan h T view)) (length (active_nodes h S))
    (length (kept_faces h S))

-- Three views, the first one from the base front, and each other one from the target of the
-- one before.
unfoldable pub views_text : ℕ → Hierarchy → List ℕ
views_text n h =
    view_line h no_records 0 (middle_view n)
    ++ view_line h (view_target h (middle_view n)) 1 (corner_view n)
    ++ view_line h (view_target h (corner_view n)) 2 (middle_view n)

unfoldable pub sizes_text : ℕ → Hierarchy → List ℕ
sizes_text n h = grid_line n (length (grid n).points) (length (grid n).faces) ++ hierarchy_line h

-- The summary of the grid of n times n cells.
pub record IsSummary (n : ℕ) (text : List ℕ) : Type 0 where
  pub h : Hierarchy
  pub of_grid : IsOfGrid n h
  pub text_is : text ≡ sizes_text n h ++ views_text n h

-- Each grid has a summary,
abbrev pub SomeSummary : Type 0
SomeSummary = (n : ℕ) → 1 ≤ n → n ≤ 256 → (text : List ℕ) × IsSummary n text

-- and only one.
abbrev pub OneSummary : Type 0
OneSummary = (n : ℕ) (a b : List ℕ) → IsSummary n a → IsSummary n b → a ≡ b
