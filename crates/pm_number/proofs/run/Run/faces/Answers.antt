use Rattle.std.proofs.Common.{length, ap, arith}
use Rattle.pm_number.specs.Numbering.{face_number}
use Rattle.pm_number.specs.Tables.{run_in}
use Rattle.pm_number.proofs.FaceTables.{few_bases, bases_inside}
use Rattle.pm_number.proofs.run.Run.faces.Goals as goal

pub number_left-requires-clause-few : goal.number_left-requires-clause-few
number_left-requires-clause-few c = omega (arith, few_bases c.requires.run c.requires.bases)

pub number_left-requires-clause-inside : goal.number_left-requires-clause-inside
number_left-requires-clause-inside c = rw c.requires.bases (λ j l.
    omega (
      arith,
      (bases_inside (run_in c.args.self.now) c.requires.run.merging j l).0,
      c.in_ok-faces.ensures.len,
    ))

pub overflow_cast-bases : goal.overflow_cast-bases
overflow_cast-bases c = omega (arith, few_bases c.requires.run c.requires.bases)

pub number_dropped-requires-clause-left : goal.number_dropped-requires-clause-left
number_dropped-requires-clause-left c =
    let r = run_in c.args.self.now in
    let each = rw c.requires.bases at c.number_left.ensures.each in
    λ j l. each (face_number r) (λ k m. (bases_inside r c.requires.run.merging k m).1) j
    (omega (arith, ap length c.requires.bases))
