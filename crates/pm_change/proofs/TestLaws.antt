-- The node at a corner is there, and what is marked is a front.
use Rattle.std.proofs.Common.{ℕ, ◌*◌, ◌<◌, Bool, List}
use Rattle.pm_forest.specs.Forest.{Hierarchy, node_count}
use Rattle.pm_forest.specs.Fronts.{IsFront, ancestor_of}
use Rattle.pm_forest.specs.Faces.{face_count, from_leaf}
use Rattle.pm_forest.specs.Rules.{HasShape}
use Rattle.pm_forest.proofs.Ancestors.{there-lt, active-ancestor}
use Rattle.pm_forest.proofs.ShapeLaws.{shape_of_nodes, shape_of_faces}
use Rattle.pm_beyond.proofs.Standing.{closed-front}
use Rattle.pm_base.specs.Counts.{set_of}
use Rattle.pm_morph.specs.Marks.{AreMarksOf}

pub corner_node : (h : Hierarchy) (T : ℕ → Bool) (e : ℕ) → HasShape h → e < 3 * face_count h
    → ancestor_of h T (from_leaf h e) < node_count h
corner_node h T e shape l =
    let nodes = shape_of_nodes h shape in
    there-lt h nodes T (ancestor_of h T (from_leaf h e))
    (active-ancestor h nodes T (from_leaf h e) ((shape_of_faces h shape).leaves e l)).0

pub marked_front : (h : Hierarchy) (marks : List Bool) → AreMarksOf h marks
    → IsFront h (set_of marks)
marked_front h marks told = closed-front h (set_of marks) told.closed
