use Rattle.std.proofs.Common.{◌≡◌, drop}
use Rattle.pm_fans.specs.Kept.{kept_after, kept_of}
use Rattle.pm_fans.specs.Keys.{HoldsKeys}
use Rattle.pm_fans.proofs.keeping.kept.Given as goal

-- What is left of the faces comes after those that stay so far.
abbrev pub invariant-loop-at : goal.invariant-loop-at
invariant-loop-at l = record {
  left : kept_after l.stay.items (drop l.at l.faces) ≡ kept_of l.faces;
  holds : HoldsKeys l.stay.items l.keys;
}
