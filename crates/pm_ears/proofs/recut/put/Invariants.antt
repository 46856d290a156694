use Rattle.std.proofs.Common.{◌≡◌, take}
use Rattle.pm_ears.specs.Recutting.{put_at}
use Rattle.pm_ears.proofs.recut.put.Given as goal

abbrev pub invariant-loop-i : goal.invariant-loop-i
invariant-loop-i l = l.faces.items ≡ put_at l.first (take l.i l.triangles) l.fn.faces.items
