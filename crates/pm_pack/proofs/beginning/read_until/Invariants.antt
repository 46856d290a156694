use Rattle.std.proofs.Common.{ℕ, ◌≤◌, ◌+◌, ◌-◌, ◌^◌, List}
use Rattle.pm_pack.specs.Texts.{Known}
use Rattle.pm_pack.specs.Unpacking.{ReadsOn}
use Rattle.pm_pack.proofs.beginning.read_until.Given as goal

abbrev pub invariant-loop-n : goal.invariant-loop-n
invariant-loop-n g l = record {
  on : (from : Known g.row.P.Denot) (code : List ℕ)
      → ReadsOn g.P.Predictor from code l.fn.known l.fn.coder l.fn.stream l.fn.text.items
      → ReadsOn g.P.Predictor from code l.known l.coder l.stream l.text.items;
  most : l.stream.taken ≤ 2 ^ 28 + 44;
}

abbrev pub decreases-loop-n : goal.decreases-loop-n
decreases-loop-n g l = 2 ^ 28 + 44 - l.stream.taken
