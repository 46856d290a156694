use Rattle.std.proofs.Common.{◌≡◌, length, ap, arith}
use Rattle.pm_number.specs.Numbering.{left_over}
use Rattle.pm_number.specs.Tables.{run_in}
use Rattle.pm_number.proofs.StartLaws.{item_at, roots_small, roots_next, roots_all}
use Rattle.pm_number.proofs.run.Run.start_roots.Goals as goal

pub index_mut-requires : goal.index_mut-requires
index_mut-requires c =
    omega (
      arith,
      item_at c.requires.run c.requires.left c.loop-j.j c.loop-j-test.true,
      c.loop-j.invariant.len,
    )

pub bounds-widths-root : goal.bounds-widths-root
bounds-widths-root c =
    omega (
      arith,
      item_at c.requires.run c.requires.left c.loop-j.j c.loop-j-test.true,
      c.requires.widths.len,
    )

pub overflow_add-start : goal.overflow_add-start
overflow_add-start c =
    omega (
      arith,
      roots_small c.requires.run c.requires.left c.requires.widths c.loop-j.j
          c.loop-j-test.true,
      c.loop-j.invariant.sum,
    )

pub loop-j-preserved : goal.loop-j-preserved
loop-j-preserved c =
    roots_next c.requires.run c.requires.left c.requires.widths c.loop-j-test.true
    c.loop-j.invariant

pub returns : goal.returns
returns c =
    let end : c.loop-j.j ≡ length (left_over (run_in c.args.self.now)) =
    omega (arith, ap length c.requires.left) in
    roots_all c.requires.run.merging (rw end at c.loop-j.invariant)
