-- What a collapse writes, table by table.
use Rattle.std.specs.Prelude.{◌≡◌, ◌≢◌, ℕ, ◌+◌, ◌-◌, ◌*◌, ◌<◌, ◌≤◌, ◌%◌, ◌==◌, cond}
use Rattle.std.specs.Prelude.{Option, Some, None, option_map, is_some, IfSome, List, [], ◌∷◌}
use Rattle.std.specs.Prelude.{length, slice_index_or, slice_set}
use Rattle.pm_base.specs.declared.limits.TheConstants.{MOST_FACES, MOST_NODES}
use Rattle.pm_base.specs.declared.ids.Side.{Side}
use Rattle.pm_base.specs.declared.log.Gone.{Gone}
use Rattle.pm_base.specs.declared.mesh.Corners.{Corners}
use Rattle.pm_base.specs.Counts.{one_if}
use Rattle.pm_base.specs.Place.{Place}
use Rattle.pm_base.specs.Sides.{face_of}
use Rattle.pm_links.specs.Lists.{Lists, list_of, list_without, with_moved, without_item, IsHeld}
use Rattle.pm_shrink.specs.Tables.{Tables}

-- A face with the vertex at corner number 0, 1 or 2.
abbrev pub with_vertex : Corners → ℕ → ℕ → Corners
with_vertex k i v =
    cond (i == 0) (record { a = v; b = k.b; c = k.c })
    (cond (i == 1) (record { a = k.a; b = v; c = k.c }) (record { a = k.a; b = k.b; c = v }))

-- The faces with a vertex at one corner.
abbrev pub with_corner : List (Option Corners) → ℕ → ℕ → List (Option Corners)
with_corner faces e v =
    slice_set faces (face_of e)
    (option_map (λ k. with_vertex k (e % 3) v) (slice_index_or faces (face_of e) None))

-- The faces with a vertex at each of some corners.
abbrev pub with_corners : List (Option Corners) → List ℕ → ℕ → List (Option Corners)
with_corners faces [] v = faces
with_corners faces (e ∷ es) v = with_corners (with_corner faces e v) es v

-- The faces without one that goes.
abbrev pub without_face : List (Option Corners) → Option Gone → List (Option Corners)
without_face faces None = faces
without_face faces (Some g) = slice_set faces g.face.0 None

-- The list of a vertex without the three corners of a face.
abbrev pub without_corners : ℕ → List ℕ → List ℕ
without_corners f xs = list_without (3 * f + 2) (list_without (3 * f + 1) (list_without (3 * f) xs))

abbrev pub unlisted : Option Gone → List ℕ → List ℕ
unlisted None xs = xs
unlisted (Some g) xs = without_corners g.face.0 xs

abbrev pub side_number : Option Side → Option ℕ
side_number o = option_map (λ s. s.0) o

-- The table with something else across a side, if there is one.
abbrev pub with_across : List (Option ℕ) → Option Side → Option Side → List (Option ℕ)
with_across table None to = table
with_across table (Some s) to = slice_set table s.0 (side_number to)

-- What stood across the two other sides of a face that goes stands across from each other.
abbrev pub relinked : List (Option ℕ) → Option Gone → List (Option ℕ)
relinked table None = table
relinked table (Some g) = with_across (with_across table g.first g.second) g.second g.first

-- The three corners of a face are in lists.
abbrev pub AreHeld : Lists → ℕ → Type 0
AreHeld lists f = IsHeld lists (3 * f) × IsHeld lists (3 * f + 1) × IsHeld lists (3 * f + 2)

-- The lists without the three corners of a face.
abbrev pub unlinked : Lists → ℕ → Lists
unlinked v f = without_item (without_item (without_item v (3 * f)) (3 * f + 1)) (3 * f + 2)

abbrev pub lists_left : Lists → Option Gone → Lists
lists_left v None = v
lists_left v (Some g) = unlinked v g.face.0

-- The tables without a face that goes.
abbrev pub without_gone : Tables → Option Gone → Tables
without_gone t gone = record {
  faces = without_face t.faces gone;
  across = relinked t.across gone;
  corners = lists_left t.corners gone;
  places = t.places;
  next = t.next;
  face_count = t.face_count - one_if (is_some gone);
}

-- The tables with the corners of one vertex at another.
abbrev pub with_merged : Tables → ℕ → ℕ → Tables
with_merged t from to = record {
  faces = with_corners t.faces (list_of t.corners from) to;
  across = t.across;
  corners = with_moved t.corners from to;
  places = t.places;
  next = t.next;
  face_count = t.face_count;
}

-- The tables with the next vertex at a place, and without the places of a and b.
abbrev pub with_next : Tables → ℕ → ℕ → Place → Tables
with_next t a b place = record {
  faces = t.faces;
  across = t.across;
  corners = t.corners;
  places = slice_set (slice_set (slice_set t.places a None) b None) t.next (Some place);
  next = t.next + 1;
  face_count = t.face_count;
}

-- A face that goes, and what stands across its two other sides, are in the tables.
pub record IsIn (t : Tables) (g : Gone) : Type 0 where
  pub face : g.face.0 < length t.faces
  pub first : IfSome g.first (λ s. s.0 < length t.across)
  pub second : IfSome g.second (λ s. s.0 < length t.across)
  pub held : AreHeld t.corners g.face.0

-- What goes, if anything does, can be taken out of the tables.
pub record CanDrop (t : Tables) (gone : Option Gone) : Type 0 where
  pub few : length t.faces ≤ MOST_FACES
  pub sides : length t.across ≡ 3 * length t.faces
  pub counted : one_if (is_some gone) ≤ t.face_count
  pub is_in : IfSome gone (IsIn t)

-- Two vertices have lists of corners, and each item of the lists is a corner of a face.
pub record CanMerge (t : Tables) (from to : ℕ) : Type 0 where
  pub from_in : from < length t.corners.lists
  pub to_in : to < length t.corners.lists
  pub differ : from ≢ to
  pub small : to < MOST_NODES
  pub corners : t.corners.items ≤ 3 * length t.faces

-- Two vertices and the next one are in the table of places.
pub record HavePlaces (t : Tables) (a b : ℕ) : Type 0 where
  pub first : a < length t.places
  pub second : b < length t.places
  pub next : t.next < length t.places
  pub most : length t.places ≤ MOST_NODES
