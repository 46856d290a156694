-- Triangles that need nothing, and what is told where nothing was done.
use Rattle.std.specs.Prelude.{◌≡◌, ◌≢◌, ℕ, ◌<◌, true, List, length}
use Rattle.pm_base.specs.declared.mesh.Corners.{Corners}
use Rattle.pm_base.specs.Place.{Place}
use Rattle.pm_base.specs.Meshes.{Mesh, IsWellFormed}
use Rattle.pm_turn.specs.declared.counts.TurnCounts.{TurnCounts}
use Rattle.obj_prepare.specs.declared.notes.Notes.{Notes}
use Rattle.obj_prepare.specs.Named.{is_some_corner}
use Rattle.obj_prepare.specs.Joining.{place_in_list}

-- Each of so many vertices is a corner of a triangle.
abbrev pub AreAllNamed : ℕ → List Corners → Type 0
AreAllNamed n faces = (v : ℕ) → v < n → is_some_corner faces v ≡ true

-- No two vertices stand at one place.
abbrev pub AreApart : List Place → Type 0
AreApart places = (v w : ℕ) → v < length places → w < length places → v ≢ w
    → place_in_list places v ≢ place_in_list places w

abbrev pub mesh_over : List Place → List Corners → Mesh
mesh_over places faces = record { points = places; faces = faces }

-- A mesh of vertices that are all named and stand apart.
pub record AreWhole (places : List Place) (faces : List Corners) : Type 0 where
  pub formed : IsWellFormed (mesh_over places faces)
  pub named : AreAllNamed (length places) faces
  pub apart : AreApart places

-- No number is told of what was done, but closed surfaces inside out.
abbrev pub no_turns : ℕ → TurnCounts
no_turns inside_out = record { turned = 0; twisted = 0; crowded = 0; inside_out = inside_out }

abbrev pub nothing_done : ℕ → Notes
nothing_done inside_out = record {
  joined = 0;
  flat = 0;
  double = 0;
  turns = no_turns inside_out;
  cut = 0;
  split = 0;
  unnamed = 0;
  gone = 0;
}
