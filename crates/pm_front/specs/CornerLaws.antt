-- The law of corner lists, as a statement.
use Rattle.std.specs.Prelude.{ℕ, Bool, List}
use Rattle.pm_forest.specs.Forest.{Hierarchy}
use Rattle.pm_beyond.specs.Valid.{IsValid}
use Rattle.pm_beyond.specs.Moves.{IsClosed}
use Rattle.pm_beyond.specs.Plans.{Move, moved_by, AreLegal}
use Rattle.pm_front.specs.Corners.{AreCorners, corner_lists_after}

-- After any legal moves the lists have just the corners of the kept faces at each active node, each
-- once, where they had them before.
abbrev pub LegalMovesKeepCornerLists : Type 0
LegalMovesKeepCornerLists =
    (h : Hierarchy) → IsValid h → (T : ℕ → Bool) → IsClosed h T → (ls : List (List ℕ))
    → AreCorners h T ls
    → (ms : List Move) → AreLegal h T ms
    → AreCorners h (moved_by T ms) (corner_lists_after h T ms ls)
