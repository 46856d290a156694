use Rattle.std.proofs.Common.{length}
use Rattle.pm_format.specs.Words.{words_of}
use Rattle.pm_pack.specs.Packing.{HasWritten}
use Rattle.pm_pack.proofs.writing.write_words.Given as goal

abbrev pub invariant-loop-word : goal.invariant-loop-word
invariant-loop-word g l =
    HasWritten g.P.Predictor l.fn.known l.fn.coder (words_of l.text) l.words l.known l.coder

abbrev pub decreases-loop-word : goal.decreases-loop-word
decreases-loop-word g l = length l.words
