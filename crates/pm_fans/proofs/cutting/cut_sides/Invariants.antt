use Rattle.std.proofs.Common.{◌≡◌}
use Rattle.pm_base.specs.Counts.{count}
use Rattle.pm_base.specs.Sides.{net_of}
use Rattle.pm_fans.specs.Cuts.{is_cut}
use Rattle.pm_fans.proofs.cutting.cut_sides.Given as goal

abbrev pub invariant-loop-number : goal.invariant-loop-number
invariant-loop-number l = l.cut ≡ count (is_cut (net_of l.faces)) l.number
