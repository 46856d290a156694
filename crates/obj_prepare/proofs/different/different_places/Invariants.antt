use Rattle.std.proofs.Common.{◌≤◌, drop}
use Rattle.obj_prepare.specs.Named.{chosen}
use Rattle.obj_prepare.specs.Different.{IsCounted}
use Rattle.obj_prepare.proofs.different.different_places.Given as goal

-- What is left of flags and points comes after those that were counted.
abbrev pub invariant-loop-at : goal.invariant-loop-at
invariant-loop-at l = record {
  counted : IsCounted (chosen l.named l.places)
      (chosen (drop l.at l.named) (drop l.at l.places)) l.seen l.n;
  few : l.n ≤ l.at;
}
