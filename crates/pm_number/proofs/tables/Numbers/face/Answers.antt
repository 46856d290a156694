use Rattle.std.proofs.Common.{arith}
use Rattle.pm_number.proofs.NumberLaws.{number_read}
use Rattle.pm_number.proofs.UnitNumbers.{face_is, corners_inside}
use Rattle.pm_number.proofs.tables.Numbers.face.Goals as goal

pub index-requires : goal.index-requires
index-requires c =
    omega (
      arith,
      (corners_inside c.args.self.now.run c.requires.numbers.run.merging
          c.requires.inside c.get-corners.ensures).0,
      c.requires.numbers.leaves_are.len,
    )

pub index-requires-2 : goal.index-requires-2
index-requires-2 c =
    omega (
      arith,
      (corners_inside c.args.self.now.run c.requires.numbers.run.merging
          c.requires.inside c.get-corners.ensures).1,
      c.requires.numbers.leaves_are.len,
    )

pub index-requires-3 : goal.index-requires-3
index-requires-3 c =
    omega (
      arith,
      (corners_inside c.args.self.now.run c.requires.numbers.run.merging
          c.requires.inside c.get-corners.ensures).2,
      c.requires.numbers.leaves_are.len,
    )

pub returns : goal.returns
returns c =
    let run = c.args.self.now.run in
    let inside = corners_inside run c.requires.numbers.run.merging c.requires.inside
    c.get-corners.ensures in
    let read = number_read c.requires.numbers.leaves_are in
    rw (
      read _ c.index.result.now (omega (arith, inside.0)) c.index.ensures,
      read _ c.index-2.result.now (omega (arith, inside.1)) c.index-2.ensures,
      read _ c.index-3.result.now (omega (arith, inside.2)) c.index-3.ensures,
    ) (face_is run c.args.f.0 c.requires.inside c.get-corners.ensures)
