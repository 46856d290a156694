-- Vertices at one place become one.
use Rattle.std.specs.Prelude.{◌≡◌, ◌≢◌, ℕ, ◌<◌, true, false, List, map, length, slice_index_or}
use Rattle.pm_base.specs.declared.mesh.Corners.{Corners}
use Rattle.pm_base.specs.Place.{Place, origin}
use Rattle.obj_prepare.specs.Named.{is_some_corner}

abbrev pub place_in_list : List Place → ℕ → Place
place_in_list places v = slice_index_or places v origin

-- Vertex u is the first that a face names at the place of vertex v.
pub record IsFirstAt (places : List Place) (faces : List Corners) (v u : ℕ) : Type 0 where
  pub named : is_some_corner faces u ≡ true
  pub same : place_in_list places u ≡ place_in_list places v
  pub least : (w : ℕ) → w < u → is_some_corner faces w ≡ true
      → place_in_list places w ≢ place_in_list places v

-- The vertex that stands for each: of those that a face names the first at the same place, and of
-- the others each itself.
pub record AreJoined (places : List Place) (faces : List Corners) (names : List ℕ) : Type 0 where
  pub all : length names ≡ length places
  pub each : (v : ℕ) → v < length places → is_some_corner faces v ≡ true
      → IsFirstAt places faces v (slice_index_or names v 0)
  pub others : (v : ℕ) → v < length places → is_some_corner faces v ≡ false
      → slice_index_or names v 0 ≡ v

abbrev pub renamed : List ℕ → Corners → Corners
renamed names f = record {
  a = slice_index_or names f.a 0;
  b = slice_index_or names f.b 0;
  c = slice_index_or names f.c 0;
}

-- The faces over joined vertices.
abbrev pub joined_faces : List ℕ → List Corners → List Corners
joined_faces names faces = map (renamed names) faces
