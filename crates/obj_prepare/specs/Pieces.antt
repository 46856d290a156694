-- What is made of placed vertices and triangles before their points are gathered.
use Rattle.std.specs.Prelude.{◌≡◌, ◌==◌, ◌&&◌, not, ℕ, Bool, false, List, slice_index_or}
use Rattle.pm_base.specs.declared.mesh.Corners.{Corners}
use Rattle.pm_base.specs.Place.{Place}
use Rattle.pm_base.specs.Sides.{net_of}
use Rattle.pm_base.specs.Counts.{count}
use Rattle.pm_fans.specs.Orders.{IsSplitMesh}
use Rattle.pm_turn.specs.declared.counts.TurnCounts.{TurnCounts}
use Rattle.pm_turn.specs.Turning.{turned_by}
use Rattle.pm_turn.specs.Choice.{AreChosenTurns}
use Rattle.pm_turn.specs.Told.{AreTurnCounts}
use Rattle.obj_prepare.specs.Joining.{AreJoined, joined_faces}
use Rattle.obj_prepare.specs.Prepared.{staying}

-- The joined vertices, the faces over them, those that stay, which of these are turned round and
-- what is told of that, all of them as turned, and these with split vertices.
pub record ArePieces (places : List Place) (faces : List Corners) (names : List ℕ)
    (renamed stay : List Corners) (flags : List Bool) (counts : TurnCounts)
    (turned split : List Corners) (old : List ℕ) : Type 0 where
  pub joined : AreJoined places faces names
  pub renamed_is : renamed ≡ joined_faces names faces
  pub stay_is : stay ≡ staying names faces
  pub turns : AreChosenTurns (net_of stay) places flags
  pub told : AreTurnCounts (net_of stay) places flags counts
  pub turned_is : turned ≡ turned_by flags stay
  pub split_is : IsSplitMesh (net_of turned) split old

-- How many of the first n flags are set, how many vertices among them have another one that stands
-- for them, and how many of the others have no flag after.
unfoldable pub set_below : List Bool → ℕ → ℕ
set_below flags n = count (λ v. slice_index_or flags v false) n

unfoldable pub gone_below : List Bool → List ℕ → List Bool → ℕ → ℕ
gone_below before names after n = count (λ v. slice_index_or before v false
    && (slice_index_or names v 0 == v) && not (slice_index_or after v false)) n

unfoldable pub joined_below : List Bool → List ℕ → ℕ → ℕ
joined_below flags names n =
    count (λ v. slice_index_or flags v false && not (slice_index_or names v 0 == v)) n
