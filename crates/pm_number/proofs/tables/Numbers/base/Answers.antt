use Rattle.pm_number.proofs.FaceTables.{base_read}
use Rattle.pm_number.proofs.tables.Numbers.base.Goals as goal

pub face-requires-clause-inside : goal.face-requires-clause-inside
face-requires-clause-inside c =
    base_read c.requires.numbers.run.merging c.requires.numbers.bases_are c.requires.inside
    c.index.ensures
