use Rattle.std.proofs.Common.{◌≡◌, take}
use Rattle.pm_ears.specs.Recutting.{places_of}
use Rattle.pm_ears.proofs.recut.places_of.Given as goal

abbrev pub invariant-loop-v : goal.invariant-loop-v
invariant-loop-v l = l.at.items ≡ places_of l.places (take l.v-index l.corners)
