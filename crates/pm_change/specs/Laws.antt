-- The laws of changes, for a hierarchy of the right shape and any two fronts of it.
use Rattle.std.specs.Prelude.{◌≡◌, ◌↔◌, ℕ, ◌+◌, ◌*◌, ◌<◌, ◌≤◌, Bool, true, ◌&&◌, List, [], length}
use Rattle.std.specs.Prelude.{filter}
use Rattle.pm_base.specs.Counts.{count, numbers_below}
use Rattle.pm_forest.specs.Forest.{Hierarchy, node_count, record_count, leaf_count, s_of, Makes}
use Rattle.pm_forest.specs.Fronts.{IsFront, is_active, ancestor_of}
use Rattle.pm_forest.specs.Faces.{face_count}
use Rattle.pm_forest.specs.Kept.{is_kept, is_shown}
use Rattle.pm_forest.specs.Rules.{HasShape}
use Rattle.pm_beyond.specs.Plans.{less, differs}
use Rattle.pm_links.specs.Lists.{has}
use Rattle.pm_front.specs.Corners.{listed, AreCorners}
use Rattle.pm_front.specs.Shown.{active_nodes, kept_faces}
use Rattle.pm_frame.specs.Frame.{frame_text}
use Rattle.pm_change.specs.Texts.{change_text, text_of_change, text_of}
use Rattle.pm_morph.specs.Laws.{ShownFace, shown_faces}
use Rattle.pm_change.specs.Shown.{ShownNode, shown_node_at, shown_nodes}
use Rattle.pm_change.specs.Changes.{Change, change_of, gone_nodes, new_nodes, gone_faces, put_faces}
use Rattle.pm_change.specs.Changes.{is_gone, is_put, is_new_node, is_at_new, has_new_corner}
use Rattle.pm_change.specs.Applying.{IsIn, Mesh, changed}

-- The mesh that a front shows.
abbrev pub mesh_of : Hierarchy → (ℕ → Bool) → Mesh
mesh_of h T = record { nodes = shown_nodes h T; faces = shown_faces h T }

-- The change makes of what S shows what G shows.
abbrev pub ChangesLeadThere : Type 0
ChangesLeadThere =
    (h : Hierarchy) (S G : ℕ → Bool) → changed (change_of h S G) (mesh_of h S) ≡ mesh_of h G

-- A corner is at the same node before and now exactly where its node of now was active before.
abbrev pub CornersMoveToNewNodes : Type 0
CornersMoveToNewNodes =
    (h : Hierarchy) → HasShape h → (S G : ℕ → Bool) → IsFront h S → (x : ℕ) → x < leaf_count h
    → (ancestor_of h S x ≡ ancestor_of h G x) ↔ (is_active h S (ancestor_of h G x) ≡ true)

-- So the faces that are put are those that have a corner at a new node.
abbrev pub PutsAreAtNewNodes : Type 0
PutsAreAtNewNodes =
    (h : Hierarchy) → HasShape h → (S G : ℕ → Bool) → IsFront h S → (f : ℕ) → f < face_count h
    → is_put h S G f ≡ is_kept h G f && has_new_corner h S G f

-- Whatever other lists make of what S shows what G shows have at least these.
pub record IsWithin (least other : Change) : Type 0 where
  pub gone_faces : (n : ℕ) → IsIn n least.gone_faces → IsIn n other.gone_faces
  pub gone_nodes : (n : ℕ) → IsIn n least.gone_nodes → IsIn n other.gone_nodes
  pub new_nodes : (e : ShownNode) → IsIn e least.new_nodes → IsIn e other.new_nodes
  pub put_faces : (e : ShownFace) → IsIn e least.put_faces → IsIn e other.put_faces

abbrev pub ChangesAreLeast : Type 0
ChangesAreLeast =
    (h : Hierarchy) (S G : ℕ → Bool) (other : Change) → changed other (mesh_of h S) ≡ mesh_of h G
    → IsWithin (change_of h S G) other

-- Nothing changes.
abbrev pub nothing : Change
nothing = record { gone_faces = []; gone_nodes = []; new_nodes = []; put_faces = [] }

-- At most three nodes and two faces come and go for each record that is in one of the two sets and
-- not in the other.
abbrev pub NodeChangesAreFew : Type 0
NodeChangesAreFew =
    (h : Hierarchy) (S G : ℕ → Bool)
    → length (gone_nodes h S G) + length (new_nodes h S G)
    ≤ 3 * count (differs S G) (record_count h)

-- The faces that are kept and weren't.
abbrev pub new_faces : Hierarchy → (ℕ → Bool) → (ℕ → Bool) → List ℕ
new_faces h S G = filter (is_gone (is_kept h G) (is_kept h S)) (numbers_below (face_count h))

abbrev pub FaceChangesAreFew : Type 0
FaceChangesAreFew =
    (h : Hierarchy) → HasShape h → (S G : ℕ → Bool) → IsFront h S → IsFront h G
    → length (gone_faces h S G) + length (new_faces h S G)
    ≤ 2 * count (differs S G) (record_count h)

-- Nothing changes exactly where the same records are split.
abbrev pub NothingExactlyWhereSame : Type 0
NothingExactlyWhereSame =
    (h : Hierarchy) → HasShape h → (S G : ℕ → Bool) → IsFront h S → IsFront h G
    → (change_of h S G ≡ nothing) ↔ ((k : ℕ) → k < record_count h → S k ≡ G k)

-- The corners of kept faces that are at new nodes: those in the corner lists of the new nodes.
abbrev pub is_new_corner : Hierarchy → (ℕ → Bool) → (ℕ → Bool) → ℕ → Bool
is_new_corner h S G e = is_shown h G e && is_at_new h S G e

abbrev pub new_corners : Hierarchy → (ℕ → Bool) → (ℕ → Bool) → List ℕ
new_corners h S G = filter (is_new_corner h S G) (numbers_below (3 * face_count h))

-- No more faces are put than there are such corners.
abbrev pub PutsAreFew : Type 0
PutsAreFew =
    (h : Hierarchy) → HasShape h → (S G : ℕ → Bool) → IsFront h S → IsFront h G
    → length (put_faces h S G) ≤ length (new_corners h S G)

-- Where the new nodes are found: they are the active children of records that were split since,
-- and the active nodes of those that were collapsed.
pub data IsNear (h : Hierarchy) (S G : ℕ → Bool) (v : ℕ) : Type 0 where
  child : (k : ℕ) → k < record_count h → less G S k ≡ true → Makes h k v → IsNear h S G v
  parent : (k : ℕ) → k < record_count h → less S G k ≡ true → s_of h k ≡ v → IsNear h S G v

abbrev pub NewNodesAreNear : Type 0
NewNodesAreNear =
    (h : Hierarchy) → HasShape h → (S G : ℕ → Bool) → (v : ℕ) → v < node_count h
    → (is_new_node h S G v ≡ true) ↔ ((is_active h G v ≡ true) × IsNear h S G v)

-- The nodes at the corners of what is shown are shown.
abbrev pub CornersAreShown : Type 0
CornersAreShown =
    (h : Hierarchy) → HasShape h → (G : ℕ → Bool) → (f : ShownFace) → IsIn f (shown_faces h G)
    → IsIn (shown_node_at h f.a) (shown_nodes h G)
    × IsIn (shown_node_at h f.b) (shown_nodes h G)
    × IsIn (shown_node_at h f.c) (shown_nodes h G)

-- The text of a change is that of its lists, and what a viewer makes of the mesh that S shows has
-- the frame text of G.
abbrev pub TextsTellChanges : Type 0
TextsTellChanges =
    (h : Hierarchy) (S G : ℕ → Bool)
    → change_text h S G
    ≡ text_of_change (length (active_nodes h G)) (length (kept_faces h G)) (change_of h S G)

abbrev pub ChangesLeadToFrames : Type 0
ChangesLeadToFrames =
    (h : Hierarchy) (S G : ℕ → Bool)
    → text_of (changed (change_of h S G) (mesh_of h S)) ≡ frame_text h G

-- The corners of kept faces at new nodes are those in the corner lists of the new nodes.
abbrev pub NewCornersAreListed : Type 0
NewCornersAreListed =
    (h : Hierarchy) → HasShape h → (S G : ℕ → Bool) → (ls : List (List ℕ)) → AreCorners h G ls
    → (e : ℕ) → e < 3 * face_count h
    → (is_new_corner h S G e ≡ true)
    ↔ ((v : ℕ) × (is_new_node h S G v ≡ true) × (has (listed ls v) e ≡ true))
