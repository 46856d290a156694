-- What makes a hierarchy one of legal collapses, and what it means to number a run.
use Rattle.std.specs.Prelude.{◌≡◌, ℕ, suc, ◌+◌, ◌*◌, ◌<◌, Option, Some, None, is_some}
use Rattle.pm_base.specs.Counts.{one_if}
use Rattle.pm_base.specs.Sides.{NoSideTwice}
use Rattle.pm_base.specs.declared.log.Gone.{Gone}
use Rattle.pm_forest.specs.declared.parts.NewFace.{NewFace}
use Rattle.pm_forest.specs.Forest.{Hierarchy, record_at, record_count, leaf_count, s_of, t_of, u_of}
use Rattle.pm_forest.specs.Forest.{Holds, HasForestShape}
use Rattle.pm_forest.specs.Fronts.{ancestor_of, below}
use Rattle.pm_forest.specs.Faces.{first_face, face_count, from_leaf, record_of, IsForest}
use Rattle.pm_runs.specs.Merged.{IsProper, StandsAcross, KeepsApart}
use Rattle.pm_beyond.specs.Walks.{leaf_net, number_of, IsOuter, expected}
use Rattle.pm_firm.specs.Firm.{shown_net}
use Rattle.pm_number.specs.Stages.{Run, steps, entry_at, side_by, side_moved}

-- Read from the last record down, the hierarchy is a run of collapses: when record k goes, t and u
-- keep apart, and what is expected at each side of its faces stands across it in the mesh shown.
pub record UndoesCollapses (h : Hierarchy) : Type 0 where
  pub shape : IsForest h
  pub no_side_twice : NoSideTwice (leaf_net h)
  pub leaves_apart : (x y : ℕ) → x < leaf_count h → y < leaf_count h →
      ancestor_of h (below (record_count h)) x ≡ ancestor_of h (below (record_count h)) y → x ≡ y
  pub proper : IsProper (shown_net h (below (record_count h)))
  pub apart : (k : ℕ) → k < record_count h
      → KeepsApart (shown_net h (below (suc k))) (t_of h k) (u_of h k)
  pub recorded : (e k : ℕ) → e < 3 * face_count h → record_of h e ≡ Some k →
      StandsAcross (shown_net h (below (suc k))) e (expected h e)
  pub older : (e k b : ℕ) → e < 3 * face_count h → IsOuter h k e → expected h e ≡ Some b →
      b < 3 * first_face h k

-- Face f of the hierarchy is the dropped face, with its neighbours.
abbrev pub SameGone : (ℕ → ℕ) → ℕ → Option Gone → Option NewFace → Type 0
SameGone face f None None = Unit {0}
SameGone face f None (Some n) = ⊥
SameGone face f (Some g) None = ⊥
SameGone face f (Some g) (Some n) =
    (face g.face.0 ≡ f) × (number_of n.first ≡ side_moved (side_by face) (number_of g.first)) ×
    (number_of n.second ≡ side_moved (side_by face) (number_of g.second))

-- The hierarchy has the run's collapses in reverse order, with `node` the nodes of its vertices,
-- `leaf` the leaves of the input vertices, and `face` the numbers of the input faces.
pub record IsNumbered (r : Run) (h : Hierarchy) (node leaf face : ℕ → ℕ) : Type 0 where
  pub forest : HasForestShape h
  pub count : record_count h ≡ steps r
  pub node_t : (i k : ℕ) → i + suc k ≡ steps r → node (entry_at r i).t ≡ t_of h k
  pub node_u : (i k : ℕ) → i + suc k ≡ steps r → node (entry_at r i).u ≡ u_of h k
  pub node_s : (i k : ℕ) → i + suc k ≡ steps r → node (entry_at r i).s ≡ s_of h k
  pub node_once : (v w : ℕ) → v < r.vertices + steps r → w < r.vertices + steps r → node v ≡ node w
      → v ≡ w
  pub node_there : (x : ℕ) → x < r.vertices → node x < t_of h (steps r)
  pub leaf_there : (x : ℕ) → x < r.vertices → leaf x < leaf_count h
  pub leaf_back : (y : ℕ) → y < leaf_count h → (x : ℕ) × (x < r.vertices) × (leaf x ≡ y)
  pub held : (x : ℕ) → x < r.vertices → Holds h (node x) (leaf x)
  pub face_there : (f : ℕ) → f < r.net.faces → face f < face_count h
  pub face_once : (f g : ℕ) → f < r.net.faces → g < r.net.faces → face f ≡ face g → f ≡ g
  pub face_back : (f : ℕ) → f < face_count h → (g : ℕ) × (g < r.net.faces) × (face g ≡ f)
  pub corner : (e : ℕ) → e < 3 * r.net.faces → from_leaf h (side_by face e) ≡ leaf (r.net.from e)
  pub left : (i k : ℕ) → i + suc k ≡ steps r
      → SameGone face (first_face h k) (entry_at r i).left (record_at h k).left
  pub right : (i k : ℕ) → i + suc k ≡ steps r →
      SameGone face (first_face h k + one_if (is_some (record_at h k).left)) (entry_at r i).right
      (record_at h k).right
