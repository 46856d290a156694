use Rattle.std.proofs.Common.{◌+◌, ◌∙◌, ap, arith}
use Rattle.pm_beyond.specs.Walks.{number_of}
use Rattle.pm_number.specs.Tables.{run_by}
use Rattle.pm_number.proofs.UnitNumbers.{word_is, face_number_read, word_small}
use Rattle.pm_number.proofs.tables.Numbers.word.Goals as goal

pub returns-in-Some : goal.returns-in-Some
returns-in-Some c =
    ap (λ e. e + 1) c.side.ensures.value
    ∙ word_is (run_by c.args.self.now) c.in-Some.is
    (face_number_read c.requires.numbers.faces_are c.face.ensures
    (c.requires.inside _ (ap number_of c.in-Some.is)) c.index.ensures)

pub index-requires : goal.index-requires
index-requires c =
    let inside = c.requires.inside c.in-Some.side.0 (ap number_of c.in-Some.is) in
    omega (arith, c.requires.numbers.faces_are.len)

pub side-requires-clause-face : goal.side-requires-clause-face
side-requires-clause-face c =
    omega (
      arith,
      word_small c.requires.numbers.run
          (c.requires.inside _ (ap number_of c.in-Some.is))
          (face_number_read c.requires.numbers.faces_are c.face.ensures
          (c.requires.inside _ (ap number_of c.in-Some.is)) c.index.ensures),
    )
