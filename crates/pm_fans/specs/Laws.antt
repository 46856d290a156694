-- The laws of splitting vertices by fans, each as a statement.
use Rattle.std.specs.Prelude.{◌≡◌, ℕ, ◌<◌, List, length, slice_index_or, true, false}
use Rattle.std.specs.List.{list_any, range_with_len}
use Rattle.pm_base.specs.declared.mesh.Corners.{Corners}
use Rattle.pm_base.specs.Sides.{Net, net_of, side_count, no_corners, Stands}
use Rattle.pm_base.specs.Fans.{IsUsed, IsOrientedManifold}
use Rattle.pm_fans.specs.Splits.{AllStand, NoMirroredFaces, IsSplitByFans, IsNumberedBy}
use Rattle.pm_fans.specs.Orders.{IsSplitMesh}
use Rattle.pm_fans.specs.Kept.{is_flat, is_alike, kept_of, IsFitList}

-- Faces of three different corners, no two of them with the same corners in opposite orders, become
-- an oriented manifold. Directed sides may stand any number of times.
abbrev pub SplitsMakeManifolds : Type 0
SplitsMakeManifolds = (m n : Net) → AllStand m → NoMirroredFaces m → IsSplitByFans m n
    → IsOrientedManifold n

-- An oriented manifold isn't split: sides that run from one vertex still do.
abbrev pub ManifoldsStayWhole : Type 0
ManifoldsStayWhole = (m n : Net) → IsOrientedManifold m → IsSplitByFans m n → (e g : ℕ) → Stands m e
    → Stands m g → m.from e ≡ m.from g → n.from e ≡ n.from g

-- New vertices with a first side each, from which all sides are met by going round, are a split by
-- fans.
abbrev pub NumberingsSplit : Type 0
NumberingsSplit = (m n : Net) (first : ℕ → ℕ) → AllStand m → IsNumberedBy m n first
    → IsSplitByFans m n

-- The faces that stay have three different corners, and no two have the same ones in opposite
-- orders.
abbrev pub KeptAreFit : Type 0
KeptAreFit =
    (fs : List Corners) → AllStand (net_of (kept_of fs)) × NoMirroredFaces (net_of (kept_of fs))

-- Whatever the faces are: those that stay, split by fans, are an oriented manifold.
abbrev pub AnyFacesBecomeManifolds : Type 0
AnyFacesBecomeManifolds = (fs fs' : List Corners) → IsSplitByFans (net_of (kept_of fs)) (net_of fs')
    → IsOrientedManifold (net_of fs')

-- A face with three different corners stays, or one with the same corners does.
abbrev pub NothingIsLost : Type 0
NothingIsLost = (fs : List Corners) (i : ℕ) → i < length fs → let f =
    slice_index_or fs i no_corners in is_flat f ≡ false → list_any (is_alike f) (kept_of fs) ≡ true

-- Of a list of faces that needs nothing all stay.
abbrev pub FitListsStay : Type 0
FitListsStay = (fs : List Corners) → IsFitList fs → kept_of fs ≡ fs

-- So do the faces of an oriented manifold.
abbrev pub ManifoldsStay : Type 0
ManifoldsStay = (fs : List Corners) → AllStand (net_of fs) → IsOrientedManifold (net_of fs)
    → kept_of fs ≡ fs

-- Faces of three different corners have one split: any two have the same faces and the same old
-- vertices.
abbrev pub SplitsAreOne : Type 0
SplitsAreOne = (m : Net) (fs gs : List Corners) (old was : List ℕ) → AllStand m
    → IsSplitMesh m fs old → IsSplitMesh m gs was → (fs ≡ gs) × (old ≡ was)

-- An oriented manifold whose vertices are 0 to n - 1, each used, is its own split.
abbrev pub ManifoldsAreTheirOwnSplit : Type 0
ManifoldsAreTheirOwnSplit = (fs : List Corners) (n : ℕ) → IsOrientedManifold (net_of fs)
    → ((e : ℕ) → e < side_count (net_of fs) → (net_of fs).from e < n)
    → ((v : ℕ) → v < n → IsUsed (net_of fs) v) → IsSplitMesh (net_of fs) fs (range_with_len 0 n)
