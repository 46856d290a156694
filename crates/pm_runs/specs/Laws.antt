-- The laws of collapses and of runs, each as a statement.
use Rattle.std.specs.Prelude.{◌≡◌, ℕ, ◌⊎◌, ◌↔◌, ◌+◌, true, is_some, Some, None}
use Rattle.pm_base.specs.Place.{Place}
use Rattle.pm_base.specs.Meshes.{Mesh, IsWellFormed}
use Rattle.pm_base.specs.Counts.{one_if}
use Rattle.pm_base.specs.Sides.{Net, net_of, NoSideTwice, twin_of}
use Rattle.pm_base.specs.Fans.{IsOrientedManifold}
use Rattle.pm_runs.specs.Surfaces.{Surface, next_vertex, is_live, place_at, net_of_surface}
use Rattle.pm_runs.specs.Surfaces.{face_count_of, surface_of, IsSurface, collapsed}
use Rattle.pm_runs.specs.Pairs.{Runs, HasSide, Joined, IsThird, StayUpright, IsLegalPair}
use Rattle.pm_runs.specs.Steps.{side_from_to}
use Rattle.pm_runs.specs.Merged.{IsProper, IsLinkable, merged, Alike}
use Rattle.pm_runs.specs.Collapses.{DropsFaces, RelinksTwins}
use Rattle.pm_runs.specs.Nearby.{LooksSameAt, IsOther, IsFar}

-- A well-formed oriented manifold is a surface in which no side and no face comes twice.
abbrev pub MeshesAreSurfaces : Type 0
MeshesAreSurfaces = (m : Mesh) → IsWellFormed m → IsOrientedManifold (net_of m.faces)
    → IsSurface (surface_of m) ×
    IsProper (net_of_surface (surface_of m))

-- The collapse of a surface is the merge of its net.
abbrev pub CollapsesAreMerges : Type 0
CollapsesAreMerges = (s : Surface) (a b : ℕ) (place : Place) →
    Alike (merged (net_of_surface s) a b (next_vertex s)) (net_of_surface (collapsed s a b place))

-- The search finds the side from one vertex to another.
abbrev pub SidesAreFound : Type 0
SidesAreFound =
    (m : Net) → NoSideTwice m → (p q : ℕ) → ((e : ℕ) → (side_from_to m p q ≡ Some e) ↔ Runs m e p q)
    ×
    ((side_from_to m p q ≡ None) ↔ (HasSide m p q → ⊥))

-- Third corners are common neighbours, so the link condition asks for the other direction alone.
abbrev pub ThirdsAreCommon : Type 0
ThirdsAreCommon = (m : Net) (a b w : ℕ) → IsThird m a b w → Joined m a w × Joined m b w

-- A pair is legal in either order.
abbrev pub PairsHaveNoOrder : Type 0
PairsHaveNoOrder =
    (s : Surface) (a b : ℕ) (place : Place) → IsLegalPair s a b place ↔ IsLegalPair s b a place

-- Where no directed side stands twice, a pair is legal that meets the link condition and turns no
-- face over.
abbrev pub LinkableIsLegal : Type 0
LinkableIsLegal = (s : Surface) → NoSideTwice (net_of_surface s) → (a b : ℕ) (place : Place) →
    IsLegalPair s a b place ↔ (IsLinkable (net_of_surface s) a b × StayUpright s a b place)

-- What stands after the collapse of a legal pair.
pub record IsCollapse (s : Surface) (a b : ℕ) (place : Place) : Type 0 where
  pub sound : IsSurface (collapsed s a b place)
  pub proper : IsProper (net_of_surface (collapsed s a b place))
  pub faces : DropsFaces (net_of_surface s) (net_of_surface (collapsed s a b place)) a b
      (next_vertex s)
  pub twins : RelinksTwins (net_of_surface s) (net_of_surface (collapsed s a b place)) a b

abbrev pub StepsKeepSurfaces : Type 0
StepsKeepSurfaces = (s : Surface) → IsSurface s → IsProper (net_of_surface s)
    → (a b : ℕ) (place : Place) →
    IsLegalPair s a b place → IsCollapse s a b place

-- Of the vertices, a and b go and the new one comes; the others stay where they are.
abbrev pub StepsMoveNothingElse : Type 0
StepsMoveNothingElse = (s : Surface) (a b : ℕ) (place : Place) →
    (is_live (collapsed s a b place) (next_vertex s) ≡ true) ×
    (place_at (collapsed s a b place) (next_vertex s) ≡ place) ×
    ((v : ℕ) → IsOther s a b v → (is_live (collapsed s a b place) v ≡ is_live s v) ×
    (place_at (collapsed s a b place) v ≡ place_at s v))

-- Legality is a matter of the faces at the two ends.
abbrev pub LegalityIsLocal : Type 0
LegalityIsLocal = (s r : Surface) → NoSideTwice (net_of_surface s) → NoSideTwice (net_of_surface r)
    → (p q : ℕ) →
    LooksSameAt s r p → LooksSameAt s r q →
    (place : Place) → IsLegalPair s p q place ↔ IsLegalPair r p q place

-- So a pair of vertices far from a collapse stays as legal as it was.
abbrev pub StepsAreLocal : Type 0
StepsAreLocal = (s : Surface) → IsSurface s → IsProper (net_of_surface s)
    → (a b : ℕ) (place : Place) →
    IsLegalPair s a b place →
    (p q : ℕ) → IsFar s a b p → IsFar s a b q → (at : Place) → IsLegalPair s p q at ↔
    IsLegalPair (collapsed s a b place) p q at

-- The neighbours of a and b are those of the new vertex.
abbrev pub NeighboursAreKept : Type 0
NeighboursAreKept = (s : Surface) → IsSurface s → IsProper (net_of_surface s)
    → (a b : ℕ) (place : Place) →
    IsLegalPair s a b place →
    (p : ℕ) → IsOther s a b p → (Joined (net_of_surface s) p a ⊎ Joined (net_of_surface s) p b) ↔
    Joined (net_of_surface (collapsed s a b place)) p (next_vertex s)

-- A side between two vertices that stay neither goes nor comes, and keeps its twin.
abbrev pub OtherSidesStay : Type 0
OtherSidesStay = (s : Surface) → IsSurface s → IsProper (net_of_surface s)
    → (a b : ℕ) (place : Place) →
    IsLegalPair s a b place →
    (e p q : ℕ) → IsOther s a b p → IsOther s a b q → let m = net_of_surface s in
    let n = net_of_surface (collapsed s a b place) in
    (Runs m e p q ↔ Runs n e p q) × (Runs m e p q → twin_of n e ≡ twin_of m e)

-- One face goes for each side that runs between a and b.
abbrev pub FacesAreCounted : Type 0
FacesAreCounted = (s : Surface) → IsSurface s → IsProper (net_of_surface s)
    → (a b : ℕ) (place : Place) →
    IsLegalPair s a b place → let m = net_of_surface s in
    face_count_of (collapsed s a b place) + (one_if (is_some (side_from_to m a b)) + one_if
    (is_some (side_from_to m b a))) ≡ face_count_of s

-- The link condition keeps an oriented manifold.
abbrev pub LegalStepsKeepManifolds : Type 0
LegalStepsKeepManifolds = (s : Surface) → IsSurface s → IsOrientedManifold (net_of_surface s) →
    (a b : ℕ) (place : Place) → IsLegalPair s a b place
    → IsOrientedManifold (net_of_surface (collapsed s a b place))
