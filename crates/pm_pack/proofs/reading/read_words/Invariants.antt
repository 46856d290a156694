use Rattle.std.proofs.Common.{ℕ, ◌≤◌, ◌+◌, ◌-◌, ◌^◌, List}
use Rattle.pm_pack.specs.Texts.{Known}
use Rattle.pm_pack.specs.Unpacking.{ReadsOn}
use Rattle.pm_pack.proofs.reading.read_words.Given as goal

abbrev pub invariant-loop-fail : goal.invariant-loop-fail
invariant-loop-fail g l = record {
  on : (from : Known g.row.P.Denot) (code : List ℕ)
      → ReadsOn g.P.Predictor from code l.fn.known l.fn.coder l.fn.stream l.fn.text.items
      → ReadsOn g.P.Predictor from code l.known l.coder l.stream l.text.items;
  most : l.stream.taken ≤ 2 ^ 28 + 44;
}

abbrev pub decreases-loop-fail : goal.decreases-loop-fail
decreases-loop-fail g l = 2 ^ 28 + 44 - l.stream.taken
