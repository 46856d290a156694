-- What became of each triangle: it came out over the places of its corners, as it was or turned
-- round, or it is gone for one of two reasons.
use Rattle.std.specs.Prelude.{◌≡◌, ℕ, ◌<◌, ◌⊎◌, List, length, slice_index_or}
use Rattle.std.specs.List.{All}
use Rattle.pm_base.specs.declared.mesh.Corners.{Corners}
use Rattle.pm_base.specs.Meshes.{Mesh}
use Rattle.pm_base.specs.Place.{Place}
use Rattle.pm_base.specs.Sides.{no_corners}
use Rattle.pm_turn.specs.Turning.{turned_face}
use Rattle.obj_prepare.specs.Joining.{place_in_list}
use Rattle.obj_prepare.specs.Named.{AreVerticesBelow}
use Rattle.obj_prepare.specs.Prepared.{IsPrepared}

-- Triangle i of a list.
abbrev pub triangle_at : List Corners → ℕ → Corners
triangle_at faces i = slice_index_or faces i no_corners

-- Two corners stand at one place.
abbrev pub IsEdgeAt : List Place → Corners → Type 0
IsEdgeAt places f =
    (place_in_list places f.a ≡ place_in_list places f.b)
    ⊎ ((place_in_list places f.b ≡ place_in_list places f.c)
    ⊎ (place_in_list places f.c ≡ place_in_list places f.a))

-- A corner of the triangle stands at this place.
abbrev pub HasCornerAt : List Place → Corners → Place → Type 0
HasCornerAt places f p =
    (place_in_list places f.a ≡ p)
    ⊎ ((place_in_list places f.b ≡ p) ⊎ (place_in_list places f.c ≡ p))

-- Each corner of the second triangle stands where one of the first does.
pub record StandsOn (places : List Place) (f g : Corners) : Type 0 where
  pub a : HasCornerAt places f (place_in_list places g.a)
  pub b : HasCornerAt places f (place_in_list places g.b)
  pub c : HasCornerAt places f (place_in_list places g.c)

-- Triangle k of the mesh has corners where these have theirs, in their order.
pub record StandsAs (places : List Place) (f : Corners) (m : Mesh) (k : ℕ) : Type 0 where
  pub there : k < length m.faces
  pub a : place_in_list m.points (triangle_at m.faces k).a ≡ place_in_list places f.a
  pub b : place_in_list m.points (triangle_at m.faces k).b ≡ place_in_list places f.b
  pub c : place_in_list m.points (triangle_at m.faces k).c ≡ place_in_list places f.c

-- Triangle i became an edge; or it stands on an earlier one, which is no edge; or triangle k of the
-- mesh is it, as it was or turned round.
pub data Became (places : List Place) (faces : List Corners) (m : Mesh) (i : ℕ) : Type 0 where
  an_edge : IsEdgeAt places (triangle_at faces i) → Became places faces m i
  a_double : (j : ℕ) → j < i → (IsEdgeAt places (triangle_at faces j) → ⊥)
      → StandsOn places (triangle_at faces i) (triangle_at faces j) → Became places faces m i
  as_it_was : (k : ℕ) → StandsAs places (triangle_at faces i) m k → Became places faces m i
  turned : (k : ℕ) → StandsAs places (turned_face (triangle_at faces i)) m k
      → Became places faces m i

-- So it is with each triangle of placed vertices, and each triangle of the mesh is one of them.
pub record AllBecame (places : List Place) (faces : List Corners) (m : Mesh) : Type 0 where
  pub became : (i : ℕ) → i < length faces → Became places faces m i
  pub came : (k : ℕ) → k < length m.faces
      → (i : ℕ) × (i < length faces) × (StandsAs places (triangle_at faces i) m k
      ⊎ StandsAs places (turned_face (triangle_at faces i)) m k)

abbrev pub TrianglesAreTold : Type 0
TrianglesAreTold = (places : List Place) (faces : List Corners) (m : Mesh)
    → All (AreVerticesBelow (length places)) faces → IsPrepared places faces m
    → AllBecame places faces m
