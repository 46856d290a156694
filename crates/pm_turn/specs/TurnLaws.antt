-- The laws of turning faces round, each as a statement.
use Rattle.std.specs.Prelude.{◌≡◌, ℕ, ◌<◌, ◌⊎◌, Bool, false, List, length, slice_index_or}
use Rattle.pm_base.specs.declared.mesh.Corners.{Corners}
use Rattle.pm_base.specs.Sides.{Net, face_of, net_of, no_corners}
use Rattle.pm_base.specs.Fans.{IsOrientedManifold}
use Rattle.pm_fans.specs.Splits.{AllStand, IsGlued, IsSplitByFans}
use Rattle.pm_fans.specs.Kept.{kept_of}
use Rattle.pm_turn.specs.Turning.{turned_face, turned_by, flag_of, moved, AreMates, AgreeOnceTurned}
use Rattle.pm_turn.specs.Turning.{AreTurns, AllAgree, AreTraced, traced_flag}

-- Whichever faces are turned: those that stay, turned, and split by fans, are an oriented manifold.
abbrev pub TurnedFacesBecomeManifolds : Type 0
TurnedFacesBecomeManifolds = (fs fs' : List Corners) (flags : List Bool)
    → IsSplitByFans (net_of (turned_by flags (kept_of fs))) (net_of fs')
    → IsOrientedManifold (net_of fs')

-- Each face is as it was, or turned.
abbrev pub EachIsTurnedOrNot : Type 0
EachIsTurnedOrNot = (flags : List Bool) (fs : List Corners)
    → (length (turned_by flags fs) ≡ length fs)
    × ((i : ℕ) → i < length fs
    → let f = slice_index_or fs i no_corners in
    let g = slice_index_or (turned_by flags fs) i no_corners in (g ≡ f) ⊎ (g ≡ turned_face f))

-- Faces that stay are turned and stay: turning makes no two of them alike, and none an edge.
abbrev pub TurnedFacesStay : Type 0
TurnedFacesStay = (flags : List Bool) (fs : List Corners)
    → kept_of (turned_by flags (kept_of fs)) ≡ turned_by flags (kept_of fs)

-- Of any mesh flags tell which faces are turned.
abbrev pub TurnsAreThere : Type 0
TurnsAreThere = (m : Net) → (flags : List Bool) × AreTurns m flags

-- One list of flags does.
abbrev pub TurnsAreOne : Type 0
TurnsAreOne = (m : Net) (one other : List Bool) → AreTurns m one → AreTurns m other → one ≡ other

-- Of a mesh whose neighbours agree no face is turned; so of an oriented manifold none is.
abbrev pub AgreeingFacesStay : Type 0
AgreeingFacesStay = (fs : List Corners) (flags : List Bool) → AllAgree (net_of fs)
    → AreTurns (net_of fs) flags → turned_by flags fs ≡ fs

abbrev pub ManifoldsAreNotTurned : Type 0
ManifoldsAreNotTurned = (fs : List Corners) (flags : List Bool) → AllStand (net_of fs)
    → IsOrientedManifold (net_of fs) → AreTurns (net_of fs) flags → turned_by flags fs ≡ fs

-- Where two faces alone share an edge, and no way round their patch is odd, the turned faces are
-- glued there.
abbrev pub TurnedMatesAreGlued : Type 0
TurnedMatesAreGlued = (fs : List Corners) (flags : List Bool)
    (t : AgreeOnceTurned (net_of (kept_of fs)) flags) (e k : ℕ) → AreMates (net_of (kept_of fs)) e k
    → t.twisted (face_of e) ≡ false
    → IsGlued (net_of (turned_by flags (kept_of fs))) (moved flags e) (moved flags k)

-- What was glued stays glued, in each patch.
abbrev pub GluedStaysGlued : Type 0
GluedStaysGlued = (fs : List Corners) (flags : List Bool)
    → AgreeOnceTurned (net_of (kept_of fs)) flags → (e k : ℕ) → IsGlued (net_of (kept_of fs)) e k
    → IsGlued (net_of (turned_by flags (kept_of fs))) (moved flags e) (moved flags k)

-- Faces that were turned aren't turned again.
abbrev pub TurnedFacesAreTurnedOnce : Type 0
TurnedFacesAreTurnedOnce = (fs : List Corners) (flags again : List Bool)
    → AgreeOnceTurned (net_of (kept_of fs)) flags
    → AreTurns (net_of (turned_by flags (kept_of fs))) again
    → turned_by again (turned_by flags (kept_of fs)) ≡ turned_by flags (kept_of fs)

-- Tables that were traced tell the flags.
abbrev pub TracedTablesTurn : Type 0
TracedTablesTurn = (m : Net) (flags : List Bool) (root : ℕ → ℕ) (parity odd : ℕ → Bool)
    → AreTraced m root parity odd → length flags ≡ m.faces
    → ((f : ℕ) → f < m.faces → flag_of flags f ≡ traced_flag root parity odd f) → AreTurns m flags
