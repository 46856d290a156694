-- A renderer's buffers follow what is shown.
use Rattle.std.specs.Prelude.{◌≡◌, ℕ, ◌≤◌, ◌↔◌, Bool, List, length, map}
use Rattle.pm_forest.specs.Forest.{Hierarchy, node_count}
use Rattle.pm_forest.specs.Faces.{face_count}
use Rattle.pm_front.specs.Shown.{active_nodes, kept_faces}
use Rattle.pm_change.specs.Shown.{node_number, face_number}
use Rattle.pm_change.specs.Changes.{gone_nodes, new_nodes, gone_faces, put_faces}
use Rattle.pm_buffers.specs.Buffers.{Buffer, IsBuffer, StandsIn, Shows}
use Rattle.pm_buffers.specs.Changes.{Has, IsChange, AreChanged}

-- The slots show just these items, each in one slot.
pub record ShowJust (b : Buffer) (items : List ℕ) : Type 0 where
  pub shown : (x : ℕ) → Shows b.entries x ↔ Has items x
  pub one : (s t x : ℕ) → StandsIn b.entries s x → StandsIn b.entries t x → s ≡ t

-- A change that leads from these items to those: it isn't refused of a buffer that shows the ones,
-- and the buffer shows the others then.
pub record LeadsTo (old : Buffer) (gone put now_shown : List ℕ) : Type 0 where
  pub change : IsChange old.entries gone put
  pub there : (now : Buffer) → IsBuffer now → AreChanged old.entries gone put now.entries
      → ShowJust now now_shown

-- So it is with the lists of a change from front S to front G, for nodes and for faces.
abbrev pub SlotsFollowFrames : Type 0
SlotsFollowFrames =
    (h : Hierarchy) (S G : ℕ → Bool) (b : Buffer)
    → (ShowJust b (active_nodes h S) → node_count h ≤ length b.entries
    → LeadsTo b (gone_nodes h S G) (map node_number (new_nodes h S G)) (active_nodes h G))
    × (ShowJust b (kept_faces h S) → face_count h ≤ length b.entries
    → LeadsTo b (gone_faces h S G) (map face_number (put_faces h S G)) (kept_faces h G))
