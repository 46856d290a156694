-- A worked example: the first collapse of an octahedron.
use Rattle.std.specs.Prelude.{◌≡◌, ℕ, ℤ, pos, negsuc, false, Some, Option, [], ◌∷◌}
use Rattle.pm_base.specs.Place.{Place}
use Rattle.pm_base.specs.declared.mesh.Corners.{Corners}
use Rattle.pm_base.specs.declared.log.Gone.{Gone}
use Rattle.pm_base.specs.declared.log.Collapse.{Collapse}
use Rattle.pm_base.specs.Meshes.{Mesh}
use Rattle.pm_runs.specs.Surfaces.{face_count_of, next_vertex, is_live, surface_of, collapsed}
use Rattle.pm_runs.specs.Steps.{side_id, entry_of}
use Rattle.pm_runs.specs.Planes.{planes_at, best_place_of, cost_of}

abbrev pub at : ℤ → ℤ → ℤ → Place
at x y z = record { x = x; y = y; z = z }

abbrev pub face : ℕ → ℕ → ℕ → Corners
face a b c = record { a = a; b = b; c = c }

abbrev pub gone : ℕ → ℕ → ℕ → Option Gone
gone f first second = Some (record {
  face = record { 0 = f };
  first = Some (side_id first);
  second = Some (side_id second);
})

-- Six points at distance 100 from the origin, and eight faces. The number -100 is negsuc 99.
unfoldable pub octahedron : Mesh
octahedron = record {
  points = at (pos 100) (pos 0) (pos 0) ∷ at (negsuc 99) (pos 0) (pos 0)
      ∷ at (pos 0) (pos 100) (pos 0) ∷ at (pos 0) (negsuc 99) (pos 0) ∷ at (pos 0) (pos 0) (pos 100)
      ∷ at (pos 0) (pos 0) (negsuc 99) ∷ [];
  faces = face 0 2 4 ∷ face 2 1 4 ∷ face 1 3 4 ∷ face 3 0 4 ∷ face 2 0 5 ∷ face 1 2 5 ∷ face 3 1 5
      ∷ face 0 3 5 ∷ [];
}

abbrev pub middle_place : Place
middle_place = at (pos 50) (pos 50) (pos 0)

abbrev pub first_entry : Collapse
first_entry = record {
  t = 0;
  u = 2;
  s = 6;
  place = middle_place;
  left = gone 0 5 10;
  right = gone 4 23 16;
}

-- The pair 0, 2 goes to the midpoint at a cost of 4,000,000,000,000. Faces 0 and 4 are dropped, six
-- are left.
pub record IsFirstCollapse : Type 0 where
  pub place : best_place_of (planes_at octahedron) (surface_of octahedron) 0 2 ≡ middle_place
  pub cost : cost_of (planes_at octahedron) (surface_of octahedron) 0 2 ≡ 4000000000000
  pub entry : entry_of (surface_of octahedron) 0 2 middle_place ≡ first_entry
  pub faces : face_count_of (collapsed (surface_of octahedron) 0 2 middle_place) ≡ 6
  pub next : next_vertex (collapsed (surface_of octahedron) 0 2 middle_place) ≡ 7
  pub first_gone : is_live (collapsed (surface_of octahedron) 0 2 middle_place) 0 ≡ false
  pub second_gone : is_live (collapsed (surface_of octahedron) 0 2 middle_place) 2 ≡ false
