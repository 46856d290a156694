use Rattle.std.proofs.Common.{◌≡◌, ◌-◌, length}
use Rattle.pm_ears.specs.Ears.{is_flat, first_from}
use Rattle.pm_ears.proofs.ears.first_flat.Given as goal

abbrev pub invariant-loop-i : goal.invariant-loop-i
invariant-loop-i l =
    first_from (is_flat l.left) l.i ((length l.left - 2) - l.i)
    ≡ first_from (is_flat l.left) 0 (length l.left - 2)
