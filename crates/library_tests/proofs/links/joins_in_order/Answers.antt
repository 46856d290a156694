use Rattle.std.proofs.Common.{rules}
use Rattle.library_tests.proofs.links.joins_in_order.Goals as goal

-- each item is in list 1
pub next-requires : goal.next-requires
next-requires c = (1, search rules)

pub next-requires-2 : goal.next-requires-2
next-requires-2 c = (1, search rules)

pub next-requires-3 : goal.next-requires-3
next-requires-3 c = (1, search rules)
