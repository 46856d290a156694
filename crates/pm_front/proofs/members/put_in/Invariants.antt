use Rattle.std.proofs.Common.{◌≡◌, ◌-◌, ◌++◌}
use Rattle.std.specs.List.{range_with_len}
use Rattle.pm_front.specs.Members.{AreSameNumbers}
use Rattle.pm_front.proofs.members.put_in.Given as goal

abbrev pub invariant-loop-number : goal.invariant-loop-number
invariant-loop-number l = record {
  bound : l.members.bound ≡ l.fn.members.bound;
  list : AreSameNumbers l.members.list (range_with_len l.from (l.number - l.from)
      ++ l.fn.members.list);
}
