-- The laws of the choice between the two ways round of a patch, each as a statement.
use Rattle.std.specs.Prelude.{◌≡◌, ℕ, pos, ◌<◌, ◌≤◌, Bool, false, List, [], ◌∷◌}
use Rattle.pm_base.specs.declared.mesh.Corners.{Corners}
use Rattle.pm_base.specs.Place.{Place, origin}
use Rattle.pm_base.specs.Sides.{Net, net_of, side_count}
use Rattle.pm_base.specs.Fans.{IsOrientedManifold}
use Rattle.pm_fans.specs.Splits.{AllStand}
use Rattle.pm_fans.specs.Kept.{kept_of}
use Rattle.pm_turn.specs.Turning.{turned_by, flag_of, AgreeOnceTurned, AreTurns, AllAgree}
use Rattle.pm_turn.specs.Choice.{IsOpen, area_turned_in, place_at, volume_in}
use Rattle.pm_turn.specs.Choice.{AreChosenTurns}

-- For any mesh and places flags are chosen.
abbrev pub ChosenTurnsAreThere : Type 0
ChosenTurnsAreThere = (m : Net) (places : List Place)
    → (flags : List Bool) × AreChosenTurns m places flags

-- One list of flags is.
abbrev pub ChosenTurnsAreOne : Type 0
ChosenTurnsAreOne = (m : Net) (places : List Place) (one other : List Bool)
    → AreChosenTurns m places one → AreChosenTurns m places other → one ≡ other

-- Of a mesh whose neighbours agree no face is turned; so of an oriented manifold none is.
abbrev pub AgreeingFacesAreKept : Type 0
AgreeingFacesAreKept = (fs : List Corners) (places : List Place) (flags : List Bool)
    → AllAgree (net_of fs) → AreChosenTurns (net_of fs) places flags → turned_by flags fs ≡ fs

abbrev pub ManifoldsAreKept : Type 0
ManifoldsAreKept = (fs : List Corners) (places : List Place) (flags : List Bool)
    → AllStand (net_of fs) → IsOrientedManifold (net_of fs)
    → AreChosenTurns (net_of fs) places flags → turned_by flags fs ≡ fs

-- Faces that were turned, by whichever flags, aren't turned again.
abbrev pub ChosenFacesAreTurnedOnce : Type 0
ChosenFacesAreTurnedOnce = (fs : List Corners) (places : List Place) (flags again : List Bool)
    → AgreeOnceTurned (net_of (kept_of fs)) flags
    → AreChosenTurns (net_of (turned_by flags (kept_of fs))) places again
    → turned_by again (turned_by flags (kept_of fs)) ≡ turned_by flags (kept_of fs)

-- Whatever other flags make neighbours agree, they turn no less area of an open patch.
abbrev pub LeastAreaIsTurned : Type 0
LeastAreaIsTurned = (m : Net) (places : List Place) (flags other : List Bool)
    (t : AreChosenTurns m places flags) → AgreeOnceTurned m other → (r : ℕ) → IsOpen m t.least r
    → area_turned_in m places t.least (flag_of flags) r
    ≤ area_turned_in m places t.least (flag_of other) r

-- Net n is net m with other numbers for the vertices: two sides begin at one vertex of n exactly
-- where they do in m.
pub record IsRenumbered (m n : Net) : Type 0 where
  pub faces : n.faces ≡ m.faces
  pub there : (e g : ℕ) → e < side_count m → g < side_count m → m.from e ≡ m.from g
      → n.from e ≡ n.from g
  pub back : (e g : ℕ) → e < side_count m → g < side_count m → n.from e ≡ n.from g
      → m.from e ≡ m.from g

-- Which faces are turned doesn't depend on the vertices' numbers.
abbrev pub TurnsAreRenumbered : Type 0
TurnsAreRenumbered = (m n : Net) (flags : List Bool) → IsRenumbered m n → AreTurns m flags
    → AreTurns n flags

abbrev pub ChosenTurnsAreRenumbered : Type 0
ChosenTurnsAreRenumbered = (m n : Net) (old new : List Place) (flags : List Bool) → IsRenumbered m n
    → ((e : ℕ) → e < side_count m → place_at new (n.from e) ≡ place_at old (m.from e))
    → AreChosenTurns m old flags → AreChosenTurns n new flags

-- The volume of a tetrahedron is above 0 where its faces' corners are met counterclockwise as seen
-- from outside.
abbrev pub unit_places : List Place
unit_places =
    origin ∷ record { x = pos 1; y = pos 0; z = pos 0 } ∷ record { x = pos 0; y = pos 1; z = pos 0 }
    ∷ record { x = pos 0; y = pos 0; z = pos 1 } ∷ []

abbrev pub unit_faces : List Corners
unit_faces =
    record { a = 0; b = 2; c = 1 } ∷ record { a = 0; b = 1; c = 3 }
    ∷ record { a = 0; b = 3; c = 2 } ∷ record { a = 1; b = 2; c = 3 } ∷ []

abbrev pub UnitTetrahedronFacesOut : Type 0
UnitTetrahedronFacesOut = volume_in (net_of unit_faces) unit_places (λ _. 0) (λ _. false) 0 ≡ pos 1
