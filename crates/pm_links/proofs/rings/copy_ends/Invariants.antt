use Rattle.std.proofs.Common.{◌-◌, ◌≡◌, ◌+◌, ◌≤◌, length}
use Rattle.pm_links.proofs.Copying.{Copies}
use Rattle.pm_links.proofs.rings.copy_ends.Given as goal

abbrev pub invariant-loop-front : goal.invariant-loop-front
invariant-loop-front g l = record {
  copies : Copies l.next l.prev g.items l.room l.front l.back l.first l.last;
  even : length l.room ≤ l.front + l.back;
  room_len : length l.room ≡ length l.fn.room;
}

abbrev pub decreases-loop-front : goal.decreases-loop-front
decreases-loop-front g l = l.back - l.front
