use Rattle.std.proofs.Common.{◌≡◌, ◌≤◌, ◌+◌, ◌-◌, filter, length}
use Rattle.std.specs.List.{flat_map}
use Rattle.pm_io.specs.Bytes.{GainsThrough}
use Rattle.pm_base.specs.Counts.{set_of, numbers_below}
use Rattle.pm_change.specs.Parts.{part_line}
use Rattle.pm_change.proofs.telling.put_part.Given as goal

abbrev pub invariant-loop-number : goal.invariant-loop-number
invariant-loop-number g l = record {
  within : l.from ≤ length l.numbers;
  text : GainsThrough (g.K.Sink.got l.fn.out) (g.K.Sink.got l.out) l.fn.page l.page
      (flat_map (part_line l.front.h (set_of l.front.flags) l.part)
      (filter (set_of l.numbers) (numbers_below l.from)));
  calm : g.K.Sink.faults l.out ≡ g.K.Sink.faults l.fn.out;
  cost : l.steps ≤ l.fn.steps + length (filter (set_of l.numbers) (numbers_below l.from));
}

abbrev pub decreases-loop-number : goal.decreases-loop-number
decreases-loop-number g l = length l.numbers - l.from
