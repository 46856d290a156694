use Rattle.std.proofs.Common.{◌≡◌, ◌-◌, length}
use Rattle.pm_ears.specs.Ears.{is_ear, first_from}
use Rattle.pm_ears.proofs.ears.first_ear.Given as goal

abbrev pub invariant-loop-i : goal.invariant-loop-i
invariant-loop-i l =
    first_from (is_ear l.left) l.i ((length l.left - 2) - l.i)
    ≡ first_from (is_ear l.left) 0 (length l.left - 2)
