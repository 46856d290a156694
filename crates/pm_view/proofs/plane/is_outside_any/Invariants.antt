use Rattle.std.proofs.Common.{◌≡◌, false, take}
use Rattle.pm_view.specs.Wanted.{is_outside_any}
use Rattle.pm_view.proofs.plane.is_outside_any.Given as goal

abbrev pub invariant-loop-plane : goal.invariant-loop-plane
invariant-loop-plane l = is_outside_any (take l.plane-index l.planes) l.p l.radius ≡ false
