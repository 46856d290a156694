-- Planes round a vertex, worked by hand.
use Rattle.std.specs.Prelude.{◌≡◌, ℕ, ℤ, pos, neg_ℤ, [], ◌∷◌}
use Rattle.pm_base.specs.Place.{Place}
use Rattle.pm_base.specs.declared.mesh.Corners.{Corners}
use Rattle.pm_base.specs.Meshes.{Mesh}
use Rattle.pm_quadric.specs.Planes.{Plane}
use Rattle.pm_runs.specs.Surfaces.{surface_of}
use Rattle.pm_fine.specs.Normals.{halved, doubled}
use Rattle.pm_fine_costs.specs.FinePolicy.{planes_round}

abbrev pub at : ℕ → ℕ → ℕ → Place
at x y z = record { x = pos x; y = pos y; z = pos z }

abbrev pub face : ℕ → ℕ → ℕ → Corners
face a b c = record { a = a; b = b; c = c }

-- The plane through the origin with this normal.
abbrev pub plane : ℤ → ℤ → ℤ → Plane
plane a b c = record { a = a; b = b; c = c; d = pos 0 }

-- One face, of area 8.
abbrev pub triangle : Mesh
triangle = record { points = at 0 0 0 ∷ at 4 0 0 ∷ at 0 4 0 ∷ []; faces = face 0 1 2 ∷ [] }

-- The corner of a cube of side 4.
abbrev pub tetrahedron : Mesh
tetrahedron = record {
  points = at 0 0 0 ∷ at 4 0 0 ∷ at 0 4 0 ∷ at 0 0 4 ∷ [];
  faces = face 0 2 1 ∷ face 0 1 3 ∷ face 0 3 2 ∷ face 1 2 3 ∷ [];
}

pub record AreRoundRows : Type 0 where
  -- The face's normal is (0, 0, 16), so half of 64 x 4 long. The border's are half of 352 x 4 long,
  -- and point out.
  pub border : planes_round halved (surface_of triangle) 0 ≡
      plane (pos 0) (pos 0) (pos 128) ∷ plane (pos 0) (neg_ℤ (pos 704)) (pos 0) ∷
      plane (neg_ℤ (pos 704)) (pos 0) (pos 0) ∷ []
  -- A vertex that isn't on the border, with twice 64 x 4.
  pub inner : planes_round doubled (surface_of tetrahedron) 0 ≡
      plane (pos 0) (pos 0) (neg_ℤ (pos 512)) ∷ plane (pos 0) (neg_ℤ (pos 512)) (pos 0) ∷
      plane (neg_ℤ (pos 512)) (pos 0) (pos 0) ∷ []
