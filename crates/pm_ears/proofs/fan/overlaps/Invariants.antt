use Rattle.std.proofs.Common.{◌≡◌, drop, slice_index_or}
use Rattle.std.specs.List.{list_any}
use Rattle.pm_ears.specs.Areas.{nowhere}
use Rattle.pm_ears.specs.Fans.{fan, fan_from}
use Rattle.pm_ears.specs.Cutting.{is_turned_over}
use Rattle.pm_ears.proofs.fan.overlaps.Given as goal

abbrev pub invariant-loop-i : goal.invariant-loop-i
invariant-loop-i l =
    list_any is_turned_over (fan_from (slice_index_or l.spots 0 nowhere) (drop l.i l.spots))
    ≡ list_any is_turned_over (fan l.spots)
