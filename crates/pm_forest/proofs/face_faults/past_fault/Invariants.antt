use Rattle.std.proofs.Common.{◌≡◌, drop}
use Rattle.pm_forest.specs.Faces.{faces_of}
use Rattle.pm_forest.specs.Rules.{past_from, past_fault}
use Rattle.pm_forest.proofs.face_faults.past_fault.Given as goal

abbrev pub invariant-loop-f : goal.invariant-loop-f
invariant-loop-f l =
    past_from l.forest.h l.f (drop l.f (faces_of l.forest.h)) ≡ past_fault l.forest.h
