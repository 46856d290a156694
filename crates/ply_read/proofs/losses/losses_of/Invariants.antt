use Rattle.std.proofs.Common.{◌≡◌, drop}
use Rattle.ply_read.specs.Losses.{losses_from, losses_of}
use Rattle.ply_read.proofs.losses.losses_of.Given as goal

abbrev pub invariant-loop-d : goal.invariant-loop-d
invariant-loop-d l =
    losses_from l.losses l.element (drop l.d-index l.declared) ≡ losses_of l.declared
