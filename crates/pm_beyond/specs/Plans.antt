-- The plan from one set of records to another: splits in ascending order, and then collapses in
-- descending order.
use Rattle.std.specs.Prelude.{ℕ, zero, suc, ◌<◌, Bool, cond, not, ◌&&◌, ◌||◌, List, [], ◌∷◌, ◌++◌}
use Rattle.pm_forest.specs.Forest.{Hierarchy, record_count}
use Rattle.pm_forest.specs.Fronts.{with, without}
use Rattle.pm_beyond.specs.Moves.{MaySplit, MayCollapse}

-- A split or a collapse of a record.
pub data Move : Type 0 where
  Split : ℕ → Move
  Collapse : ℕ → Move

-- The set after a move, and after some moves.
abbrev pub moved : (ℕ → Bool) → Move → ℕ → Bool
moved T (Split k) = with T k
moved T (Collapse k) = without T k

abbrev pub moved_by : (ℕ → Bool) → List Move → ℕ → Bool
moved_by T [] = T
moved_by T (m ∷ ms) = moved_by (moved T m) ms

-- The record of a move is one of the hierarchy's, and the move is legal.
abbrev pub MayMove : Hierarchy → (ℕ → Bool) → Move → Type 0
MayMove h T (Split k) = (k < record_count h) × MaySplit h T k
MayMove h T (Collapse k) = (k < record_count h) × MayCollapse h T k

-- Each move is legal when its turn comes.
abbrev pub AreLegal : Hierarchy → (ℕ → Bool) → List Move → Type 0
AreLegal h T [] = Unit {0}
AreLegal h T (m ∷ ms) = MayMove h T m × AreLegal h (moved T m) ms

-- The moves of the numbers below n that pass the test, ascending, and descending.
abbrev pub one_move : (ℕ → Move) → Bool → ℕ → List Move
one_move make b n = cond b (make n ∷ []) []

unfoldable pub ascending : (ℕ → Move) → (ℕ → Bool) → ℕ → List Move
ascending make p zero = []
ascending make p (suc n) = ascending make p n ++ one_move make (p n) n

unfoldable pub descending : (ℕ → Move) → (ℕ → Bool) → ℕ → List Move
descending make p zero = []
descending make p (suc n) = one_move make (p n) n ++ descending make p n

-- Record k is in the first set and not in the second; it is in one of the two and not in the other.
abbrev pub less : (ℕ → Bool) → (ℕ → Bool) → ℕ → Bool
less S G k = S k && not (G k)

abbrev pub differs : (ℕ → Bool) → (ℕ → Bool) → ℕ → Bool
differs S G k = less S G k || less G S k

-- The records of G that aren't in S are split, ascending; and then those of S that aren't in G are
-- collapsed, descending.
unfoldable pub plan : Hierarchy → (ℕ → Bool) → (ℕ → Bool) → List Move
plan h S G =
    ascending Split (less G S) (record_count h) ++ descending Collapse (less S G) (record_count h)
