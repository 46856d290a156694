-- The tables of a `Shrink`, and how they hold what contracts see.
use Rattle.std.specs.Prelude.{◌≡◌, ℕ, ◌+◌, ◌*◌, ◌≤◌, Option, None, List, length, take}
use Rattle.std.specs.Prelude.{slice_index_or}
use Rattle.pm_base.specs.declared.limits.TheConstants.{MOST_NODES}
use Rattle.pm_base.specs.declared.log.Collapse.{Collapse}
use Rattle.pm_base.specs.declared.mesh.Corners.{Corners}
use Rattle.pm_base.specs.Place.{Place}
use Rattle.pm_base.specs.Sides.{Net, Stands, twin_of}
use Rattle.pm_links.specs.Lists.{Lists}
use Rattle.pm_runs.specs.Surfaces.{Surface, net_of_surface, face_count_of, collapsed}
use Rattle.pm_runs.specs.Counts.{live_count_of}
use Rattle.pm_shrink.specs.declared.tables.Tables.{Tables as Stored}
use Rattle.pm_shrink.specs.Shrinking.{Shrinking, IsKept}

-- The faces by number, each with its corners or none where it was dropped; what stands across each
-- side; by vertex the corners of the faces that are there; the places, with room for later ones;
-- the number of the next vertex; and how many faces are there.
pub record Tables : Type 0 where
  pub faces : List (Option Corners)
  pub across : List (Option ℕ)
  pub corners : Lists
  pub places : List (Option Place)
  pub next : ℕ
  pub face_count : ℕ

-- The tables as plain lists and numbers.
abbrev pub tables_of : Stored → Tables
tables_of t = record {
  faces = t.faces.faces;
  across = t.faces.across;
  corners = t.corners;
  places = t.places.items;
  next = t.next;
  face_count = t.face_count;
}

-- The surface, with the places of the vertices that were made.
abbrev pub surface_in : Tables → Surface
surface_in t = record { faces = t.faces; places = take t.next t.places }

abbrev pub net_in : Tables → Net
net_in t = net_of_surface (surface_in t)

-- What contracts see.
abbrev pub shrinking_in : Tables → Shrinking
shrinking_in t = record { surface = surface_in t; corners = t.corners.lists }

-- The surface after the collapse of a log's entry.
abbrev pub surface_past : Tables → Collapse → Surface
surface_past t c = collapsed (surface_in t) c.t c.u c.place

-- The table of what stands across each side of a surface; of sides of dropped faces it says
-- nothing.
pub record IsAcross (s : Surface) (across : List (Option ℕ)) : Type 0 where
  pub sides : length across ≡ 3 * length s.faces
  pub each : (e : ℕ) → Stands (net_of_surface s) e
      → slice_index_or across e None ≡ twin_of (net_of_surface s) e

-- The tables have room for every collapse that can come: each makes one vertex of two.
pub record IsRoomy (t : Tables) : Type 0 where
  pub count : t.face_count ≡ face_count_of (surface_in t)
  pub made : length (surface_in t).places ≡ t.next
  pub room : t.next + live_count_of (surface_in t) ≤ length t.places
  pub most : length t.places ≤ MOST_NODES
  pub fresh : (v : ℕ) → t.next ≤ v → slice_index_or t.places v None ≡ None

-- What the type keeps.
pub record IsShrink (t : Tables) : Type 0 where
  pub kept : IsKept (shrinking_in t)
  pub twins : IsAcross (surface_in t) t.across
  pub roomy : IsRoomy t
  pub items : t.corners.items ≡ 3 * length t.faces
  pub heads : length t.corners.lists ≡ length t.places
