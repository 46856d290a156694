use Rattle.std.proofs.Common.{◌≡◌, ◌≤◌, ◌∙◌, arith}
use Rattle.pm_base.specs.Counts.{one_if, set_of}
use Rattle.pm_base.proofs.Counts.{one_if-le, count_le}
use Rattle.pm_prefix.proofs.TableLaws.{count_more_flag, first_count, byte_one}
use Rattle.pm_prefix.proofs.begun.set_before.Goals as goal

pub loop-x-init : goal.loop-x-init
loop-x-init c =
    first_count c.args.flags.now c.in_ok-table.table.items c.in_ok-table.ensures.len
    c.in_ok-table.ensures.zero

pub overflow_add-set : goal.overflow_add-set
overflow_add-set c =
    let flags = c.args.flags.now in
    let one : c.from-set.result ≤ 1 =
    rw (c.from-set.ensures, byte_one (set_of flags c.loop-x.x))
    (one_if-le (set_of flags c.loop-x.x)) in
    omega (arith, count_le (set_of flags) c.loop-x.x, c.loop-x.invariant.sum)

pub loop-x-preserved : goal.loop-x-preserved
loop-x-preserved c =
    let flags = c.args.flags.now in
    let one : c.from-set.result ≡ one_if (set_of flags c.loop-x.x) =
    c.from-set.ensures ∙ byte_one (set_of flags c.loop-x.x) in
    count_more_flag flags c.loop-x.x c.loop-x.set c.loop-x.table.items (omega arith)
    c.loop-x.invariant _ (omega (arith, one))
