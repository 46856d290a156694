use Rattle.std.proofs.Common.{◌≡◌, drop}
use Rattle.obj_prepare.specs.Boxes.{least_of_places, greatest_of_places}
use Rattle.obj_prepare.proofs.extents.box_of.Given as goal

abbrev pub invariant-loop-p : goal.invariant-loop-p
invariant-loop-p l = record {
  low : least_of_places l.low (drop l.p-index l.rest) ≡ least_of_places l.first l.rest;
  high : greatest_of_places l.high (drop l.p-index l.rest) ≡ greatest_of_places l.first l.rest;
}
