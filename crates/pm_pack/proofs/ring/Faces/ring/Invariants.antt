use Rattle.std.proofs.Common.{◌≡◌, ◌-◌, ◌++◌, length}
use Rattle.pm_pack.specs.Rings.{ring_from, ring_of}
use Rattle.pm_pack.proofs.ring.Faces.ring.Given as goal

abbrev pub invariant-loop-turn : goal.invariant-loop-turn
invariant-loop-turn l = record {
  len : length l.ring.items ≡ l._turn;
  rest : l.ring.items ++ ring_from (12 - l._turn) l.self l.start l.side ≡ ring_of l.self l.start;
}
