use Rattle.pm_coder.proofs.CoderLaws.{made-are_read, readers-go_one_way, parts-join, parts-follow}
use Rattle.pm_coder.proofs.UniformLaws.{uniforms-part}
use Rattle.pm_coder.proofs.DifferLaws.{halvings-differ}
use Rattle.pm_coder.proofs.NumberLaws.{numbers-differ}
use Rattle.pm_coder.proofs.theory.values_are_read_back.Goals as goal

pub returns : goal.returns
returns c = record {
  made = made-are_read;
  one_way = readers-go_one_way;
  join = parts-join;
  follow = parts-follow;
  uniform = uniforms-part;
  halvings = halvings-differ;
  numbers = numbers-differ;
}
