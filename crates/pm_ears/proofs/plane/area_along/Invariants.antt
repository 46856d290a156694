use Rattle.std.proofs.Common.{◌≡◌, ◌*◌, ◌^◌, ◌≤◌, drop}
use Rattle.std.specs.Prelude.{◌+ℤ◌, unsigned_abs}
use Rattle.pm_ears.specs.Areas.{along}
use Rattle.pm_ears.specs.Planes.{spots_on}
use Rattle.pm_ears.proofs.plane.area_along.Given as goal

abbrev pub invariant-loop-i : goal.invariant-loop-i
invariant-loop-i l = record {
  value : l.sum +ℤ along (drop l.i (spots_on l.plane 0 l.points))
      ≡ along (spots_on l.plane 0 l.points);
  small : unsigned_abs l.sum ≤ l.i * 2 ^ 31;
}
