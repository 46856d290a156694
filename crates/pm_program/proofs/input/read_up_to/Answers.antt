use Rattle.std.proofs.Common.{◌≤◌, length, arith}
use Rattle.pm_program.proofs.InputLaws.{front_all, front_cut}
use Rattle.pm_program.proofs.input.read_up_to.Goals as goal

pub returns-in-Ok-false-clause-ok : goal.returns-in-Ok-false-clause-ok
returns-in-Ok-false-clause-ok g c =
    let same = c.in-Ok-false.ensures.same c.in-Ok-false.field-0-test in
    let few : length c.read_piece.new.bytes.items ≤ c.args.most =
    rw same (omega (arith, c.loop-bytes-test.true, c.len.ensures)) in
    front_all c.args.most _ _ _ c.loop-bytes.bytes.items c.read_piece.new.bytes.items
    c.loop-bytes.invariant.lost c.in-Ok-false.ensures.took few
    (c.in-Ok-false.ensures.end c.in-Ok-false.field-0-test)

pub returns-clause-ok : goal.returns-clause-ok
returns-clause-ok g c =
    let enough : c.args.most ≤ length c.loop-bytes.bytes.items =
    omega (arith, c.loop-bytes-test.false, c.len.ensures) in
    front_cut c.args.most _ _ c.loop-bytes.bytes.items _ c.loop-bytes.invariant.lost enough
    c.truncate.ensures.items
