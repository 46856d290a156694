use Rattle.pm_base.proofs.Lengths.{dot_le, lengths_le, lengths_first, lengths_second}
use Rattle.pm_base.proofs.distance.lengths_add.Goals as goal

pub returns : goal.returns
returns c = record {
  product = dot_le;
  at_most = lengths_le;
  first = lengths_first;
  second = lengths_second;
}
