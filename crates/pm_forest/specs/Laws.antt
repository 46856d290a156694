-- The laws of fronts, for a hierarchy whose nodes, and for kept faces whose faces too, keep the
-- rules of shape.
use Rattle.std.specs.Prelude.{◌≡◌, ℕ, ◌*◌, ◌<◌, ◌≤◌, ◌↔◌, Bool, true, false}
use Rattle.pm_forest.specs.Forest.{Hierarchy, record_count, node_count, leaf_count, s_of, t_of}
use Rattle.pm_forest.specs.Forest.{u_of, holds, Holds, HasForestShape}
use Rattle.pm_forest.specs.Fronts.{IsFront, IsActive, is_active, ancestor_of, child_of, below, with}
use Rattle.pm_forest.specs.Fronts.{without}
use Rattle.pm_forest.specs.Faces.{face_count, IsForest}
use Rattle.pm_forest.specs.Kept.{is_kept, is_shown}

-- Node v is the one active node that has leaf x below it.
pub record IsTheAncestor (h : Hierarchy) (T : ℕ → Bool) (x v : ℕ) : Type 0 where
  pub active : IsActive h T v
  pub held : Holds h v x
  pub only : (w : ℕ) → IsActive h T w → Holds h w x → w ≡ v

-- Each leaf has one active node above it, its ancestor.
abbrev pub EachLeafHasOneAncestor : Type 0
EachLeafHasOneAncestor =
    (h : Hierarchy) → HasForestShape h → (T : ℕ → Bool) → IsFront h T → (x : ℕ) → x < leaf_count h
    → IsTheAncestor h T x (ancestor_of h T x)

-- Of the records on a leaf's path a front has the first ones: those whose children's numbers aren't
-- above the ancestor's.
abbrev pub FrontsHavePrefixes : Type 0
FrontsHavePrefixes =
    (h : Hierarchy) → HasForestShape h → (T : ℕ → Bool) → IsFront h T → (j x : ℕ)
    → j < record_count h → x < leaf_count h → Holds h (s_of h j) x
    → (T j ≡ true) ↔ (t_of h j ≤ ancestor_of h T x)

-- A split of an active node leaves a front, moves the leaves below that node to its children, and
-- no others.
abbrev pub SplitsMoveTheirLeaves : Type 0
SplitsMoveTheirLeaves =
    (h : Hierarchy) → HasForestShape h → (T : ℕ → Bool) → IsFront h T → (k : ℕ) → k < record_count h
    → IsActive h T (s_of h k) → T k ≡ false
    → IsFront h (with T k)
    × ((x : ℕ) → x < leaf_count h → Holds h (s_of h k) x
    → ancestor_of h (with T k) x ≡ child_of h k x)
    × ((x : ℕ) → x < leaf_count h → holds h (s_of h k) x ≡ false
    → ancestor_of h (with T k) x ≡ ancestor_of h T x)

-- A collapse of two active children leaves a front, moves the leaves below them to their parent,
-- and no others.
abbrev pub CollapsesMoveTheirLeaves : Type 0
CollapsesMoveTheirLeaves =
    (h : Hierarchy) → HasForestShape h → (T : ℕ → Bool) → IsFront h T → (k : ℕ) → k < record_count h
    → T k ≡ true → IsActive h T (t_of h k) → IsActive h T (u_of h k)
    → IsFront h (without T k)
    × ((x : ℕ) → x < leaf_count h → Holds h (s_of h k) x → ancestor_of h (without T k) x ≡ s_of h k)
    × ((x : ℕ) → x < leaf_count h → holds h (s_of h k) x ≡ false
    → ancestor_of h (without T k) x ≡ ancestor_of h T x)

-- The records below any number are a front.
abbrev pub LowerRecordsAreFronts : Type 0
LowerRecordsAreFronts = (h : Hierarchy) → HasForestShape h → (n : ℕ) → IsFront h (below n)

-- In a front a face is kept exactly where it is a base face or its record is split.
abbrev pub KeptExactlyWhereRevealed : Type 0
KeptExactlyWhereRevealed =
    (h : Hierarchy) → IsForest h → (T : ℕ → Bool) → IsFront h T → (f : ℕ) → f < face_count h
    → is_kept h T f ≡ is_shown h T (3 * f)

-- The test on a node says whether it is active.
abbrev pub TestsDecide : Type 0
TestsDecide = (h : Hierarchy) → HasForestShape h → (T : ℕ → Bool) → (v : ℕ) → v < node_count h
    → (is_active h T v ≡ true) ↔ IsActive h T v
