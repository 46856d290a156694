use Rattle.std.proofs.Common.{◌≡◌, ◌+◌, length}
use Rattle.ply_read.specs.Header.{from_line, at_start}
use Rattle.ply_read.specs.Lines.{lines}
use Rattle.ply_read.specs.Meaning.{so_far_of}
use Rattle.ply_read.proofs.header.read_lines.Given as goal

abbrev pub invariant-loop-text : goal.invariant-loop-text
invariant-loop-text l = record {
  line : l.line + length (lines l.rest) ≡ 2 + length (lines l.bytes);
  rest :
      from_line l.line (so_far_of l.reader) (lines l.rest)
      ≡ from_line 2 at_start (lines l.bytes);
}

abbrev pub decreases-loop-text : goal.decreases-loop-text
decreases-loop-text l = length (lines l.rest)
