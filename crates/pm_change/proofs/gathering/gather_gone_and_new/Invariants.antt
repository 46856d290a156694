use Rattle.std.proofs.Common.{◌≡◌, ◌≤◌, ◌<◌, ◌+◌, ◌*◌, ℕ, true}
use Rattle.pm_base.specs.Counts.{set_of, count}
use Rattle.pm_beyond.specs.Plans.{differs}
use Rattle.pm_change.specs.Gathering.{HaveRoomFor, HaveGathered, HaveSeen}
use Rattle.pm_change.proofs.gathering.gather_gone_and_new.Given as goal

abbrev pub invariant-loop-k : goal.invariant-loop-k
invariant-loop-k g l = record {
  room : HaveRoomFor l.front.h l.sets;
  got : HaveGathered l.front.h (set_of l.marks) (set_of l.front.flags) l.fn.sets l.sets;
  seen : (j : ℕ) → j < l.k → differs (set_of l.marks) (set_of l.front.flags) j ≡ true
      → HaveSeen l.front.h (set_of l.marks) (set_of l.front.flags) j l.sets;
  cost : l.steps ≤ l.fn.steps + l.k + 26 * count (differs (set_of l.marks) (set_of l.front.flags))
      l.k;
}
