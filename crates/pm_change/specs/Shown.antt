-- The nodes that a front shows, with their places, as a list that ascends by number. The faces are
-- pm_morph's `shown_faces`.
use Rattle.std.specs.Prelude.{ℕ, Bool, List, map}
use Rattle.pm_base.specs.Place.{Place}
use Rattle.pm_forest.specs.Forest.{Hierarchy}
use Rattle.pm_forest.specs.Places.{place_of_node}
use Rattle.pm_front.specs.Shown.{active_nodes}
use Rattle.pm_morph.specs.Laws.{ShownFace}

-- A node that is shown: its number and its place.
pub record ShownNode : Type 0 where
  pub number : ℕ
  pub place : Place

abbrev pub node_number : ShownNode → ℕ
node_number v = v.number

abbrev pub face_number : ShownFace → ℕ
face_number f = f.number

abbrev pub shown_node_at : Hierarchy → ℕ → ShownNode
shown_node_at h v = record { number = v; place = place_of_node h v }

abbrev pub shown_nodes : Hierarchy → (ℕ → Bool) → List ShownNode
shown_nodes h T = map (shown_node_at h) (active_nodes h T)
