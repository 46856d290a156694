use Rattle.std.proofs.Common.{◌≡◌, filter}
use Rattle.pm_front.specs.Corners.{is_not_between}
use Rattle.pm_front.specs.Members.{AreSameNumbers}
use Rattle.pm_front.proofs.members.take_out.Given as goal

abbrev pub invariant-loop-number : goal.invariant-loop-number
invariant-loop-number l = record {
  bound : l.members.bound ≡ l.fn.members.bound;
  list : AreSameNumbers l.members.list (filter (is_not_between l.from l.number) l.fn.members.list);
}
