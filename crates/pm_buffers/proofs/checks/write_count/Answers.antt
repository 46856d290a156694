use Rattle.std.proofs.Common.{arith}
use Rattle.pm_buffers.proofs.FewestLaws.{leaves_low, put_low}
use Rattle.pm_buffers.proofs.checks.write_count.Goals as goal

pub overflow_add-gone : goal.overflow_add-gone
overflow_add-gone c =
    omega (
      arith,
      c.staying.ensures.count,
      c.requires.sound.few,
      leaves_low c.args.tables.now.entries c.args.gone.now c.args.put.now c.requires.change,
    )

pub overflow_cast-result : goal.overflow_cast-result
overflow_cast-result c =
    omega (
      arith,
      c.max.ensures,
      c.staying.ensures.count,
      c.requires.sound.few,
      leaves_low c.args.tables.now.entries c.args.gone.now c.args.put.now c.requires.change,
      put_low c.args.tables.now.entries c.args.gone.now c.args.put.now c.requires.change,
    )
