-- How slots hold the quadrics of vertices.
use Rattle.std.specs.Prelude.{◌≡◌, ℕ, true, List, map, slice_index_or}
use Rattle.pm_base.specs.Place.{Place}
use Rattle.pm_base.specs.declared.mesh.Corners.{Corners}
use Rattle.pm_base.specs.Meshes.{Mesh}
use Rattle.pm_quadric.specs.Sums.{Sums, zero_sums}
use Rattle.pm_runs.specs.Surfaces.{Surface, is_live}

-- By vertex number the slot, and the quadric that stands there.
pub record Quadrics : Type 0 where
  pub slots : List ℕ
  pub quadrics : List Sums

-- The quadric of a vertex.
abbrev pub quadric_at : Quadrics → ℕ → Sums
quadric_at t v = slice_index_or t.quadrics v zero_sums

-- By vertex number the quadric in its slot.
unfoldable pub by_vertex : List ℕ → List Sums → List Sums
by_vertex slots quadrics = map (λ k. slice_index_or quadrics k zero_sums) slots

-- No two live vertices have the same slot.
abbrev pub HaveOwnSlots : Surface → List ℕ → Type 0
HaveOwnSlots s slots =
    (v w : ℕ) → is_live s v ≡ true → is_live s w ≡ true →
    slice_index_or slots v 0 ≡ slice_index_or slots w 0 → v ≡ w

-- The mesh of these points and faces.
abbrev pub mesh_with : List Place → List Corners → Mesh
mesh_with points faces = record { points = points; faces = faces }
