use Rattle.std.proofs.Common.{◌≡◌, false}
use Rattle.library_tests.proofs.io.copied.Given as goal

abbrev pub invariant-loop-turn : goal.invariant-loop-turn
invariant-loop-turn g l = g.S.Source.ended l.source ≡ false
