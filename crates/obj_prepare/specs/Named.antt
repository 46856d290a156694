-- The vertices that a face names, and the faces that name three.
use Rattle.std.specs.Prelude.{ℕ, zero, suc, ◌<◌, ◌≤◌, Bool, true, false, not, List, [], ◌∷◌, ◌++◌}
use Rattle.std.specs.Prelude.{length}
use Rattle.std.specs.List.{All, list_any, filter}
use Rattle.pm_base.specs.declared.limits.TheConstants.{MOST_FACES, MOST_VERTICES}
use Rattle.pm_base.specs.declared.mesh.Corners.{Corners}
use Rattle.pm_base.specs.Place.{Place}
use Rattle.pm_fans.specs.Kept.{is_corner, is_flat}

-- Some face has this corner. Faces of which two corners are one count too.
abbrev pub is_some_corner : List Corners → ℕ → Bool
is_some_corner faces v = list_any (λ f. is_corner f v) faces

-- The faces that name three different vertices.
abbrev pub of_three : List Corners → List Corners
of_three faces = filter (λ f. not (is_flat f)) faces

-- Of the vertices below n, each one's flag.
abbrev pub named_in : List Corners → ℕ → List Bool
named_in faces zero = []
named_in faces (suc n) = named_in faces n ++ is_some_corner faces n ∷ []

-- The points whose flag is set.
abbrev pub chosen : List Bool → List Place → List Place
chosen (true ∷ flags) (p ∷ ps) = p ∷ chosen flags ps
chosen (false ∷ flags) (p ∷ ps) = chosen flags ps
chosen _ _ = []

-- Each corner is one of n vertices.
pub record AreVerticesBelow (n : ℕ) (f : Corners) : Type 0 where
  pub a : f.a < n
  pub b : f.b < n
  pub c : f.c < n

-- No more vertices and triangles than a mesh can have vertices and faces, and each corner is one of
-- the vertices.
pub record IsWithinMesh (vertices : ℕ) (faces : List Corners) : Type 0 where
  pub vertices_few : vertices ≤ MOST_VERTICES
  pub faces_few : length faces ≤ MOST_FACES
  pub corners : All (AreVerticesBelow vertices) faces
