use Rattle.pm_fans.specs.HeadKeys.{AreKeyPlaces}
use Rattle.pm_fans.proofs.numbers.key_places.Given as goal

abbrev pub invariant-loop-place : goal.invariant-loop-place
invariant-loop-place l = AreKeyPlaces l.keys l.places.items l.sides l.place
