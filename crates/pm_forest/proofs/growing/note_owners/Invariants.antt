use Rattle.std.proofs.Common.{◌≡◌, ◌+◌, ◌++◌, replicate}
use Rattle.pm_forest.proofs.growing.note_owners.Given as goal

abbrev pub invariant-loop-leaf : goal.invariant-loop-leaf
invariant-loop-leaf l = record {
  items : l.owners.items ≡ l.fn.owners.items ++ replicate l._leaf l.root;
  spare : l.owners.spare + l._leaf ≡ l.fn.owners.spare;
}
