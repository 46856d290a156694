-- The laws of twins and fans, each as a statement.
use Rattle.std.specs.Prelude.{◌≡◌, ◌≢◌, ℕ, ◌+◌, ◌*◌, ◌<◌, Some, List, length, slice_index_or, ◌↔◌}
use Rattle.pm_base.specs.declared.mesh.Corners.{Corners}
use Rattle.pm_base.specs.Meshes.{Mesh, IsWellFormed}
use Rattle.pm_base.specs.Sides.{Net, face_of, to, net_of, no_corners, Stands, NoSideTwice, IsTwin}
use Rattle.pm_base.specs.Sides.{twin_of, IsBorderSide, IsBorder}
use Rattle.pm_base.specs.Fans.{IsPairAt, IsUsed, IsOpen, IsClosedChain, IsFan, IsOrientedManifold}
use Rattle.pm_base.specs.Rounds.{IsRound, NoMirrorAt}

-- Of a list of faces, face f with the corners a, b and c has the sides a to b, b to c and c to a,
-- with the numbers 3f, 3f + 1 and 3f + 2.
abbrev pub SidesAreCorners : Type 0
SidesAreCorners = (fs : List Corners) (f : ℕ) → let m = net_of fs in let k =
    slice_index_or fs f no_corners in
    ((m.from (3 * f) ≡ k.a) × (to m (3 * f) ≡ k.b)) ×
    ((m.from (3 * f + 1) ≡ k.b) × (to m (3 * f + 1) ≡ k.c)) ×
    ((m.from (3 * f + 2) ≡ k.c) × (to m (3 * f + 2) ≡ k.a))

-- All sides of a well-formed mesh stand, and each runs from a point.
abbrev pub MeshesStand : Type 0
MeshesStand = (m : Mesh) → IsWellFormed m → (e : ℕ) → e < 3 * length m.faces
    → Stands (net_of m.faces) e × ((net_of m.faces).from e < length m.points)

-- Where no directed side stands twice, the twin of a side is the one that the search finds.
abbrev pub TwinsAreFound : Type 0
TwinsAreFound = (m : Net) → NoSideTwice m → (e g : ℕ) → (twin_of m e ≡ Some g) ↔ IsTwin m e g

-- The twin's twin is the side itself, and no side is its own twin or that of another side of its
-- face.
abbrev pub TwinsAreMutual : Type 0
TwinsAreMutual = (m : Net) → NoSideTwice m → (e g : ℕ) → Stands m e → twin_of m e ≡ Some g
    → (twin_of m g ≡ Some e) × (face_of g ≢ face_of e)

-- Of the pairs at a vertex the firsts are distinct, each with its face, and so are the seconds.
abbrev pub PairsAreDistinct : Type 0
PairsAreDistinct = (m : Net) → NoSideTwice m → (v x y z : ℕ) →
    ((f : IsPairAt m v x y) (g : IsPairAt m v x z) → (y ≡ z) × (f.side ≡ g.side)) ×
    ((f : IsPairAt m v x z) (g : IsPairAt m v y z) → (x ≡ y) × (f.side ≡ g.side))

-- A fan is what is gone round, with no two faces that have the same corners.
abbrev pub FansAreRounds : Type 0
FansAreRounds = (m : Net) → NoSideTwice m → (v : ℕ) → IsFan m v ↔ (IsRound m v × NoMirrorAt m v)

-- At a vertex of an oriented manifold at most one border side goes out and at most one comes in.
abbrev pub OneBorderSideEach : Type 0
OneBorderSideEach = (m : Net) → IsOrientedManifold m → (e g : ℕ) → IsBorderSide m e
    → IsBorderSide m g →
    (m.from e ≡ m.from g → e ≡ g) × (to m e ≡ to m g → e ≡ g)

-- The fan of a used vertex is open where the vertex is on the border, and closed where it isn't.
abbrev pub FansCloseInside : Type 0
FansCloseInside = (m : Net) (v : ℕ) (fan : IsFan m v) → IsUsed m v →
    (IsBorder m v → IsOpen fan.w fan.n) × ((IsBorder m v → ⊥) → IsClosedChain fan.w fan.n)

-- An oriented manifold has no two faces with the same three corners.
abbrev pub NoTwoFacesAlike : Type 0
NoTwoFacesAlike = (m : Net) → IsOrientedManifold m → (v x y : ℕ) → IsPairAt m v x y
    → IsPairAt m v y x → ⊥
