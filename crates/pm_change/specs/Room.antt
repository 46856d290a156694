-- For how many nodes and faces there is room.
use Rattle.std.specs.Prelude.{ℕ}
use Rattle.pm_forest.specs.Forest.{Hierarchy, node_count}
use Rattle.pm_forest.specs.Faces.{face_count}

pub record Room : Type 0 where
  pub nodes : ℕ
  pub faces : ℕ

-- The room that a hierarchy asks for.
abbrev pub room_of : Hierarchy → Room
room_of h = record { nodes = node_count h; faces = face_count h }
