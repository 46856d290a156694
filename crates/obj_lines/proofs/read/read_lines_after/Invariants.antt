use Rattle.std.proofs.Common.{◌≡◌, ◌-◌, false}
use Rattle.std.specs.Io.KnownBytes.{prepend_known}
use Rattle.obj_lines.specs.Reading.{IsBetween, IsReading}
use Rattle.obj_lines.proofs.read.read_lines_after.Given as goal

abbrev pub invariant-loop-fail : goal.invariant-loop-fail
invariant-loop-fail g l = record {
  between : IsBetween l.lines l.progress;
  ready : g.R.LineReader.may_take l.reader l.progress.number;
  reading : IsReading g.R.LineReader.rules (g.R.LineReader.held l.fn.reader)
      (prepend_known l.first (g.S.Source.left l.fn.source)) l.taker (g.S.Source.left l.source)
      l.progress (g.R.LineReader.held l.reader) l.lines;
  not_ended : g.S.Source.ended l.source ≡ false;
  count : g.S.Source.faults l.source ≡ g.S.Source.faults l.fn.source;
}

abbrev pub decreases-loop-fail : goal.decreases-loop-fail
decreases-loop-fail g l = 1073741824 - l.progress.taken
