use Rattle.std.proofs.Common.{◌≡◌, ◌≤◌, ◌-◌, ℕ, Bool, length}
use Rattle.pm_base.specs.Counts.{set_of}
use Rattle.pm_change.specs.Gathering.{AreNewSince}
use Rattle.pm_change.proofs.PutLaws.{HavePut}
use Rattle.pm_change.proofs.corners.gather_puts.Given as goal

abbrev pub invariant-loop-node : goal.invariant-loop-node
invariant-loop-node g l = record {
  within : l.from ≤ length l.new;
  put_len : length l.put ≡ length l.fn.put;
  so_far : (S : ℕ → Bool) → AreNewSince l.front.h S (set_of l.front.flags) l.new
      → HavePut l.front.h S (set_of l.front.flags) l.front.corners l.from l.fn.put l.put
      l.fn.steps l.steps;
}

abbrev pub decreases-loop-node : goal.decreases-loop-node
decreases-loop-node g l = length l.new - l.from
