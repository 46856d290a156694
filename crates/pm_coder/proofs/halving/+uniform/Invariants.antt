use Rattle.pm_coder.proofs.halving.+uniform.Given as goal

abbrev pub decreases-uniform : goal.decreases-uniform
decreases-uniform g l = l.bound
