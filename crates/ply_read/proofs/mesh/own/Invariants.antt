use Rattle.std.proofs.Common.{◌≡◌, ◌++◌, drop}
use Rattle.ply_read.specs.Body.{own}
use Rattle.ply_read.proofs.mesh.own.Given as goal

abbrev pub invariant-loop-d : goal.invariant-loop-d
invariant-loop-d l = l.properties.items ++ own (drop l.d-index l.declared) ≡ own l.declared
