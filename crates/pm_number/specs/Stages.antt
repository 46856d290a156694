-- A run of collapses on the sides of its first mesh. A merge changes the vertices from which sides
-- run, and nothing else, so a face that was dropped needs no mark.
use Rattle.std.specs.Prelude.{◌≡◌, ℕ, zero, suc, ◌+◌, ◌*◌, ◌%◌, ◌<◌, Option, Some, None, List, []}
use Rattle.std.specs.Prelude.{length, slice_index_or}
use Rattle.pm_base.specs.Place.{Place, place_of}
use Rattle.pm_base.specs.Meshes.{Mesh}
use Rattle.pm_base.specs.declared.log.Gone.{Gone}
use Rattle.pm_base.specs.declared.log.Collapse.{Collapse}
use Rattle.pm_base.specs.Sides.{Net, face_of, next, Stands, net_of}
use Rattle.pm_beyond.specs.Walks.{number_of}
use Rattle.pm_runs.specs.Surfaces.{merge}
use Rattle.pm_runs.specs.Pairs.{Runs, HasSide}
use Rattle.pm_runs.specs.Merged.{IsProper, StandsAcross, IsLinkable}

-- How many vertices there were at first, the sides, the places of those vertices, and the collapses
-- in their order.
pub record Run : Type 0 where
  pub vertices : ℕ
  pub net : Net
  pub points : List Place
  pub log : List Collapse

abbrev pub run_of : Mesh → List Collapse → Run
run_of m log = record {
  vertices = length m.points;
  net = net_of m.faces;
  points = m.points;
  log = log;
}

abbrev pub no_collapse : Collapse
no_collapse = record { t = 0; u = 0; s = 0; place = place_of []; left = None; right = None }

abbrev pub steps : Run → ℕ
steps r = length r.log

unfoldable pub entry_at : Run → ℕ → Collapse
entry_at r i = slice_index_or r.log i no_collapse

-- The sides after the first i collapses.
abbrev pub from_after : Run → ℕ → ℕ → ℕ
from_after r zero e = r.net.from e
from_after r (suc i) e = let c = entry_at r i in merge c.t c.u c.s (from_after r i e)

abbrev pub net_of_run_after : Run → ℕ → Net
net_of_run_after r i = record { faces = r.net.faces; from = from_after r i }

-- What the log keeps of the face in which p is followed by q.
abbrev pub IsGone : Net → ℕ → ℕ → Option Gone → Type 0
IsGone m p q None = HasSide m p q → ⊥
IsGone m p q (Some g) =
    (e : ℕ) × Runs m e p q × (face_of e ≡ g.face.0) × StandsAcross m (next e) (number_of g.first) ×
    StandsAcross m (next (next e)) (number_of g.second)

pub record TellsWhatGoes (m : Net) (c : Collapse) : Type 0 where
  pub left : IsGone m c.t c.u c.left
  pub right : IsGone m c.u c.t c.right

-- A run from a mesh in which neither a side nor a face comes twice, by pairs that meet the link
-- condition.
pub record IsMerging (r : Run) : Type 0 where
  pub vertex : (e : ℕ) → e < 3 * r.net.faces → r.net.from e < r.vertices
  pub whole : (e : ℕ) → e < 3 * r.net.faces → Stands r.net e
  pub proper : IsProper r.net
  pub named : (i : ℕ) → i < steps r → (entry_at r i).s ≡ r.vertices + i
  pub linkable : (i : ℕ) → i < steps r
      → IsLinkable (net_of_run_after r i) (entry_at r i).t (entry_at r i).u
  pub logged : (i : ℕ) → i < steps r → TellsWhatGoes (net_of_run_after r i) (entry_at r i)

-- The side that a side becomes, where faces take the numbers that `face` gives.
unfoldable pub side_by : (ℕ → ℕ) → ℕ → ℕ
side_by face e = 3 * face (face_of e) + e % 3

-- Vertex v is the beginning of a side.
abbrev pub BeginsSide : Net → ℕ → Type 0
BeginsSide m v = (e : ℕ) × (e < 3 * m.faces) × (m.from e ≡ v)

abbrev pub side_moved : (ℕ → ℕ) → Option ℕ → Option ℕ
side_moved side None = None
side_moved side (Some e) = Some (side e)

-- The same mesh with other numbers: `side` numbers the sides, `name` the vertices.
pub record Renames (m n : Net) (side name : ℕ → ℕ) : Type 0 where
  pub is_side : (e : ℕ) → e < 3 * m.faces → side e < 3 * n.faces
  pub turns : (e : ℕ) → e < 3 * m.faces → side (next e) ≡ next (side e)
  pub from : (e : ℕ) → e < 3 * m.faces → n.from (side e) ≡ name (m.from e)
  pub back : (e : ℕ) → e < 3 * n.faces → (g : ℕ) × (g < 3 * m.faces) × (side g ≡ e)
  pub one : (v w : ℕ) → BeginsSide m v → BeginsSide m w → name v ≡ name w → v ≡ w
