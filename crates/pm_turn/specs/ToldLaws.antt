-- The laws of what is told of turning beside the flags, each as a statement.
use Rattle.std.specs.Prelude.{◌≡◌, Bool, List}
use Rattle.pm_base.specs.Place.{Place}
use Rattle.pm_base.specs.Sides.{Net}
use Rattle.pm_base.specs.Fans.{IsOrientedManifold}
use Rattle.pm_fans.specs.Splits.{AllStand}
use Rattle.pm_turn.specs.declared.counts.TurnCounts.{TurnCounts}
use Rattle.pm_turn.specs.Told.{AreTurnCounts}

-- For any mesh, places and flags it can be told.
abbrev pub TurnCountsAreThere : Type 0
TurnCountsAreThere = (m : Net) (places : List Place) (flags : List Bool)
    → (c : TurnCounts) × AreTurnCounts m places flags c

-- In one way.
abbrev pub TurnCountsAreOne : Type 0
TurnCountsAreOne = (m : Net) (places : List Place) (flags : List Bool) (one other : TurnCounts)
    → AreTurnCounts m places flags one → AreTurnCounts m places flags other → one ≡ other

-- In an oriented manifold no face lies in a twisted patch, and no edge has three sides.
abbrev pub ManifoldsAreStraight : Type 0
ManifoldsAreStraight = (m : Net) (places : List Place) (flags : List Bool) (c : TurnCounts)
    → AllStand m → IsOrientedManifold m → AreTurnCounts m places flags c
    → (c.twisted ≡ 0) × (c.crowded ≡ 0)
