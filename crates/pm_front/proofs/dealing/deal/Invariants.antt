use Rattle.std.proofs.Common.{◌≡◌, ℕ, length}
use Rattle.pm_links.specs.Lists.{list_of}
use Rattle.pm_links.specs.Dealt.{dealt}
use Rattle.pm_forest.specs.Forest.{s_of, t_of, u_of}
use Rattle.pm_front.specs.Corners.{goes_to}
use Rattle.pm_front.proofs.dealing.deal.Given as goal

-- dealing the lists as they are now ends where dealing the first lists does
abbrev pub invariant-loop-corner : goal.invariant-loop-corner
invariant-loop-corner l = record {
  items : l.corners.items ≡ l.fn.corners.items;
  heads : length l.corners.lists ≡ length l.fn.corners.lists;
  dealt : (v : ℕ)
      → dealt (goes_to l.h l.k (t_of l.h l.k)) l.corners (s_of l.h l.k) (t_of l.h l.k)
      (u_of l.h l.k) v
      ≡ dealt (goes_to l.h l.k (t_of l.h l.k)) l.fn.corners (s_of l.h l.k) (t_of l.h l.k)
      (u_of l.h l.k) v;
}

abbrev pub decreases-loop-corner : goal.decreases-loop-corner
decreases-loop-corner l = length (list_of l.corners l.s)
