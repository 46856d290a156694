use Rattle.std.proofs.Common.{length}
use Rattle.pm_pack.proofs.word.+code_guessed.Given as goal

abbrev pub decreases-code_guessed : goal.decreases-code_guessed
decreases-code_guessed g l = length l.firsts.now
