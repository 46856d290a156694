use Rattle.std.proofs.Common.{length, ap, arith}
use Rattle.pm_number.specs.Numbering.{node_number}
use Rattle.pm_number.specs.Tables.{run_in}
use Rattle.pm_number.proofs.NumberLaws.{few_left, left_inside, left_number}
use Rattle.pm_number.proofs.run.Run.nodes.Goals as goal

pub number_left-requires-clause-few : goal.number_left-requires-clause-few
number_left-requires-clause-few c = omega (arith, few_left c.requires.run c.requires.left)

pub number_left-requires-clause-inside : goal.number_left-requires-clause-inside
number_left-requires-clause-inside c = rw c.requires.left (λ j l.
    omega (
      arith,
      left_inside (run_in c.args.self.now) c.requires.run.merging j l,
      c.in_ok-nodes.ensures.len,
    ))

pub overflow_cast-left : goal.overflow_cast-left
overflow_cast-left c = omega (arith, few_left c.requires.run c.requires.left)

pub number_children-requires-clause-left : goal.number_children-requires-clause-left
number_children-requires-clause-left c =
    let r = run_in c.args.self.now in
    let each = rw c.requires.left at c.number_left.ensures.each in
    λ j l. each (node_number r) (left_number r c.requires.run.merging) j
    (omega (arith, ap length c.requires.left))
