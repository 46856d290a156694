use Rattle.std.proofs.Common.{◌≡◌, length}
use Rattle.library_tests.proofs.links.lists_agree.Given as goal

abbrev pub invariant-loop : goal.invariant-loop
invariant-loop l = record { items : l.links.items ≡ 12; heads : length l.links.lists ≡ 5 }
