use Rattle.std.proofs.Common.{◌≡◌, drop, slice_index_or}
use Rattle.std.specs.List.{list_any}
use Rattle.pm_ears.specs.Areas.{nowhere}
use Rattle.pm_ears.specs.Fans.{fan, fan_from, has_area}
use Rattle.pm_ears.specs.Planes.{spots_along}
use Rattle.pm_ears.proofs.seen.is_seen.Given as goal

abbrev pub invariant-loop-i : goal.invariant-loop-i
invariant-loop-i l =
    list_any has_area (fan_from (slice_index_or (spots_along l.axis l.points) 0 nowhere)
    (drop l.i (spots_along l.axis l.points)))
    ≡ list_any has_area (fan (spots_along l.axis l.points))
