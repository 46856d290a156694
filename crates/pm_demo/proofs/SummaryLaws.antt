-- A grid has one summary, and how the parts of a summary are put one after the other.
use Rattle.std.proofs.Common.{◌≡◌, ℕ, ◌+◌, ◌*◌, ◌≤◌, Bool, List, ◌++◌, length, Option, Result, Ok}
use Rattle.std.proofs.Common.{Err, IfOk, refl, sym, ◌∙◌, ap, subst}
use Rattle.pm_base.specs.Meshes.{Mesh}
use Rattle.pm_base.specs.declared.log.Collapse.{Collapse}
use Rattle.pm_io.specs.Bytes.{Gains, GainsPart}
use Rattle.pm_grid.specs.Grid.{grid}
use Rattle.pm_grid.specs.Laws.{GridsAreCounted}
use Rattle.pm_grid.proofs.GridMeshes.{grids_are_manifolds, grids_are_well_formed}
use Rattle.pm_runs.specs.Runs.{IsStartOfRun, IsRunTo}
use Rattle.pm_runs.proofs.LeastRuns.{one_run}
use Rattle.pm_simplify.proofs.SomeRuns.{some_run}
use Rattle.pm_number.specs.Numbering.{hierarchy_of_run}
use Rattle.pm_forest.specs.Forest.{Hierarchy}
use Rattle.pm_view.specs.Views.{View}
use Rattle.pm_refine.specs.Adapting.{view_target}
use Rattle.pm_demo.specs.Summary.{IsOfGrid, grid_line, view_line, sizes_text, views_text, IsSummary}
use Rattle.pm_demo.specs.Summary.{OneSummary, SomeSummary}

-- A mesh that is a grid may be simplified.
pub grid_start : (n : ℕ) (m : Mesh) → 1 ≤ n → n ≤ 256 → m ≡ grid n → IsStartOfRun m
grid_start n m some most is =
    let start : IsStartOfRun (grid n) =
    record {
      formed = grids_are_well_formed n some most;
      manifold =
          grids_are_manifolds n some;
    } in
    subst (λ (x : Mesh). IsStartOfRun x) (sym is) start

-- The hierarchy of the run of a mesh that is a grid. The run is told of an equal mesh.
pub run_of_grid : {E : Type 0} (n : ℕ) (k m : Mesh) (log : List Collapse) (r : Result Hierarchy E)
    → m ≡ grid n → k ≡ m → IsRunTo k 0 log → IfOk r (λ h. h ≡ hierarchy_of_run m log)
    → IfOk r (IsOfGrid n)
run_of_grid n k m log (Ok h) is same run made = record {
  log = log;
  run = subst (λ (x : Mesh). IsRunTo x 0 log) (same ∙ is) run;
  made = made ∙ ap (λ (x : Mesh). hierarchy_of_run x log) is;
}
run_of_grid n k m log (Err e) is same run made = tt

one_hierarchy : (n : ℕ) (h g : Hierarchy) → IsOfGrid n h → IsOfGrid n g → h ≡ g
one_hierarchy n h g is are =
    is.made ∙ ap (λ (l : List Collapse). hierarchy_of_run (grid n) l)
    (one_run (grid n) 0 is.log are.log is.run are.run) ∙ sym are.made

pub one_summary : OneSummary
one_summary n a b is are =
    is.text_is ∙ ap (λ (h : Hierarchy). sizes_text n h ++ views_text n h)
    (one_hierarchy n is.h are.h is.of_grid are.of_grid) ∙ sym are.text_is

pub summary_is : (n : ℕ) (h : Hierarchy) → IsOfGrid n h
    → IsSummary n (sizes_text n h ++ views_text n h)
summary_is n h of_grid = record { h = h; of_grid = of_grid; text_is = refl }

pub some_summary : SomeSummary
some_summary n some most =
    let run = some_run (grid n) (grid_start n (grid n) some most refl) 0 in
    let h = hierarchy_of_run (grid n) run.0 in (
      sizes_text n h
          ++ views_text n h,
      summary_is n h (record { log = run.0; run = run.1; made = refl }),
    )

-- The numbers of a grid are those of its first line.
pub grid_line_is : GridsAreCounted → (n : ℕ) → grid_line n ((n + 1) * (n + 1)) (n * (n * 2))
    ≡ grid_line n (length (grid n).points) (length (grid n).faces)
grid_line_is counted n =
    let is = counted n in
    ap (λ (v : ℕ). grid_line n v (n * (n * 2))) (sym is.0)
    ∙ ap (λ (f : ℕ). grid_line n (length (grid n).points) f) (sym is.1)

-- The line of a view, from the hierarchy and the split records that an earlier view left.
pub view_line_is : (h g : Hierarchy) (S T : ℕ → Bool) (i : ℕ) (v w : View) → h ≡ g → S ≡ T → v ≡ w
    → view_line h S i v ≡ view_line g T i w
view_line_is h g S T i v w same_h same_S same_v = rw (same_h, same_S, same_v) refl

pub target_is : (h g : Hierarchy) (v w : View) → h ≡ g → v ≡ w → view_target h v ≡ view_target g w
target_is h g v w same_h same_v = rw (same_h, same_v) refl

-- The same text.
pub gains_same : (old new : Option (List ℕ)) (a b : List ℕ) → a ≡ b → Gains old new a
    → Gains old new b
gains_same old new a b is = subst (λ (l : List ℕ). Gains old new l) is

pub part_same : (old new : Option (List ℕ)) (a b : List ℕ) → a ≡ b → GainsPart old new a
    → GainsPart old new b
part_same old new a b is = subst (λ (l : List ℕ). GainsPart old new l) is
