use Rattle.std.proofs.Common.{length}
use Rattle.vdpm_c.proofs.LookingLaws.{AreTold}
use Rattle.vdpm_c.proofs.looking.planes_of.Given as goal

abbrev pub invariant-loop-rest : goal.invariant-loop-rest
invariant-loop-rest l = AreTold l.numbers l.planes.items l.rest

abbrev pub decreases-loop-rest : goal.decreases-loop-rest
decreases-loop-rest l = length l.rest
