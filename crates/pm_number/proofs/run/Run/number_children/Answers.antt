use Rattle.std.proofs.Common.{◌≡◌, length, arith}
use Rattle.pm_number.specs.Tables.{run_in}
use Rattle.pm_number.proofs.NumberLaws.{ends_more, nodes_all, node-small}
use Rattle.pm_number.proofs.run.Run.number_children.Goals as goal

pub overflow_add-node : goal.overflow_add-node
overflow_add-node c =
    omega (
      arith,
      node-small (run_in c.args.self.now) c.requires.run c.loop-i.i c.loop-i-test.true,
      c.requires.roots,
    )

pub overflow_add-node-in-loop-i : goal.overflow_add-node-in-loop-i
overflow_add-node-in-loop-i c =
    omega (
      arith,
      node-small (run_in c.args.self.now) c.requires.run c.loop-i.i c.loop-i-test.true,
      c.requires.roots,
    )

pub loop-i-preserved : goal.loop-i-preserved
loop-i-preserved c =
    ends_more c.requires.run.merging c.loop-i.invariant c.entry-collapse.ensures.value
    c.loop-i-test.true (omega (arith, c.requires.roots))

pub returns : goal.returns
returns c =
    let end : c.loop-i.i ≡ length c.args.self.now.log.now = omega arith in
    nodes_all c.requires.run.merging (rw end at c.loop-i.invariant)
