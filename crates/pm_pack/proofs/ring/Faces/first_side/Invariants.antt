use Rattle.std.proofs.Common.{◌≡◌, ◌-◌}
use Rattle.pm_pack.specs.Rings.{back_from, first_side}
use Rattle.pm_pack.proofs.ring.Faces.first_side.Given as goal

abbrev pub invariant-loop-turn : goal.invariant-loop-turn
invariant-loop-turn l =
    back_from (12 - l._turn) l.self l.start l.side ≡ first_side l.self l.start
