use Rattle.std.proofs.Common.{◌≡◌, length}
use Rattle.obj_scan.specs.Passing.{is_word, letters}
use Rattle.obj_scan.proofs.passed.has_letters.Given as goal

abbrev pub invariant-loop-rest : goal.invariant-loop-rest
invariant-loop-rest l = is_word l.word (letters l.field) ≡ is_word l.left (letters l.rest)

abbrev pub decreases-loop-rest : goal.decreases-loop-rest
decreases-loop-rest l = length l.rest
