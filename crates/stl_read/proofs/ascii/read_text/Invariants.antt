use Rattle.std.proofs.Common.{◌≡◌, ◌+◌, ◌≤◌, length}
use Rattle.pm_base.specs.declared.limits.TheConstants.{MOST_VERTICES}
use Rattle.stl_read.specs.Ascii.{texts, from_line, at_start}
use Rattle.stl_read.specs.Meaning.{so_far_of}
use Rattle.stl_read.specs.Numbering.{AreNumbered}
use Rattle.stl_read.proofs.ascii.read_text.Given as goal

abbrev pub invariant-loop-text : goal.invariant-loop-text
invariant-loop-text l = record {
  numbered : AreNumbered l.reader.vertices;
  few : length l.reader.vertices.points.items ≤ MOST_VERTICES;
  line : l.line + length (texts l.rest) ≡ 1 + length (texts l.bytes);
  rest :
      from_line l.line (so_far_of l.reader) (texts l.rest)
      ≡ from_line 1 at_start (texts l.bytes);
}

abbrev pub decreases-loop-text : goal.decreases-loop-text
decreases-loop-text l = length (texts l.rest)
