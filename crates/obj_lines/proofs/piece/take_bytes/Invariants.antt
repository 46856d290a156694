use Rattle.std.proofs.Common.{ℕ, ◌-◌, ◌≤◌, List, length, drop, Option}
use Rattle.obj_lines.specs.Reading.{IsBetween, IsReading}
use Rattle.obj_lines.proofs.piece.take_bytes.Given as goal

abbrev pub invariant-loop-at : goal.invariant-loop-at
invariant-loop-at g l = record {
  within : l.at ≤ length l.bytes;
  between : IsBetween l.lines l.progress;
  ready : g.R.LineReader.may_take l.reader l.progress.number;
  reads_on : (h : g.R.LineReader.Held) (whole left : Option (List ℕ))
      → IsReading g.R.LineReader.rules h whole l.fn.bytes left l.fn.progress
      (g.R.LineReader.held l.fn.reader) l.fn.lines
      → IsReading g.R.LineReader.rules h whole (drop l.at l.bytes) left l.progress
      (g.R.LineReader.held l.reader) l.lines;
}

abbrev pub decreases-loop-at : goal.decreases-loop-at
decreases-loop-at g l = length l.bytes - l.at
