-- A mesh that is being simplified, and the collapse of two of its vertices (Hoppe 1996).
use Rattle.std.specs.Prelude.{◌≡◌, ◌≢◌, ℕ, ◌%◌, ◌==◌, Bool, true, cond, ◌||◌, Option, Some, None}
use Rattle.std.specs.Prelude.{is_some, unwrap_or, option_and_then, List, [], ◌∷◌, ◌++◌, map, length}
use Rattle.std.specs.Prelude.{slice_index_or, slice_set}
use Rattle.std.specs.List.{count_by}
use Rattle.pm_base.specs.Place.{Place, place_of}
use Rattle.pm_base.specs.declared.mesh.Corners.{Corners}
use Rattle.pm_base.specs.Meshes.{Mesh}
use Rattle.pm_base.specs.Sides.{Net, face_of, corner_in, no_corners}

-- The faces by their numbers in the input mesh, none where a face was dropped; and the places of
-- the live vertices by number, none where a vertex was merged into another.
pub record Surface : Type 0 where
  pub faces : List (Option Corners)
  pub places : List (Option Place)

-- The number that the next vertex takes.
abbrev pub next_vertex : Surface → ℕ
next_vertex s = length s.places

-- The number is that of a live vertex.
abbrev pub is_live : Surface → ℕ → Bool
is_live s v = is_some (slice_index_or s.places v None)

-- Where a live vertex is.
abbrev pub place_at : Surface → ℕ → Place
place_at s v = unwrap_or (slice_index_or s.places v None) (place_of [])

-- The corners of a face that is there; three equal ones where the face was dropped.
abbrev pub corners_at : Surface → ℕ → Corners
corners_at s f = unwrap_or (slice_index_or s.faces f None) no_corners

-- The sides of the faces. A dropped face has three equal corners, so none of its sides stands.
abbrev pub net_of_surface : Surface → Net
net_of_surface s = record {
  faces = length s.faces;
  from = λ e. corner_in (corners_at s (face_of e)) (e % 3);
}

-- How many faces are still there.
abbrev pub face_count_of : Surface → ℕ
face_count_of s = count_by is_some s.faces

-- All faces and all points of a mesh.
abbrev pub surface_of : Mesh → Surface
surface_of m = record { faces = map Some m.faces; places = map Some m.points }

-- Three different live vertices.
pub record IsLiveFace (s : Surface) (f : Corners) : Type 0 where
  pub a : is_live s f.a ≡ true
  pub b : is_live s f.b ≡ true
  pub c : is_live s f.c ≡ true
  pub ab : f.a ≢ f.b
  pub bc : f.b ≢ f.c
  pub ca : f.c ≢ f.a

-- Each face that is there has three different live vertices for corners.
abbrev pub IsSurface : Surface → Type 0
IsSurface s = (f : ℕ) (k : Corners) → slice_index_or s.faces f None ≡ Some k → IsLiveFace s k

-- Vertices t and u become vertex s.
unfoldable pub merge : ℕ → ℕ → ℕ → ℕ → ℕ
merge t u s v = cond (v == t || v == u) s v

abbrev pub merged_corners : ℕ → ℕ → ℕ → Corners → Corners
merged_corners t u s f = record { a = merge t u s f.a; b = merge t u s f.b; c = merge t u s f.c }

-- The face, unless two of its corners are the same.
abbrev pub if_distinct : Corners → Option Corners
if_distinct f = cond (f.a == f.b || (f.b == f.c || f.c == f.a)) None (Some f)

-- The places with those of t and u gone, and that of the next vertex put last.
abbrev pub merged_places : ℕ → ℕ → Place → List (Option Place) → List (Option Place)
merged_places t u place ps = slice_set (slice_set ps t None) u None ++ Some place ∷ []

-- Vertices t and u become the next vertex, at the place; faces with two equal corners are dropped.
abbrev pub collapsed : Surface → ℕ → ℕ → Place → Surface
collapsed s t u place = record {
  faces = map (λ f. option_and_then (λ k. if_distinct (merged_corners t u (next_vertex s) k)) f)
      s.faces;
  places = merged_places t u place s.places;
}
