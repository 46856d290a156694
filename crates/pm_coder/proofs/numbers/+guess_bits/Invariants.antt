use Rattle.std.proofs.Common.{◌-◌}
use Rattle.pm_coder.proofs.numbers.+guess_bits.Given as goal

abbrev pub decreases-guess_bits : goal.decreases-guess_bits
decreases-guess_bits g l = 31 - l.place
