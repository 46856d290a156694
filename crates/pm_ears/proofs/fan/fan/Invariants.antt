use Rattle.std.proofs.Common.{◌≡◌, ◌++◌, drop, slice_index_or, map}
use Rattle.pm_ears.specs.Areas.{nowhere}
use Rattle.pm_ears.specs.Fans.{fan, fan_from}
use Rattle.pm_ears.specs.Cutting.{named}
use Rattle.pm_ears.proofs.fan.fan.Given as goal

abbrev pub invariant-loop-i : goal.invariant-loop-i
invariant-loop-i l =
    l.fan.items ++ map named (fan_from (slice_index_or l.spots 0 nowhere) (drop l.i l.spots))
    ≡ map named (fan l.spots)
