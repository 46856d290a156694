use Rattle.std.proofs.Common.{arith}
use Rattle.pm_number.proofs.NumberLaws.{number_read}
use Rattle.pm_number.proofs.UnitNumbers.{left_read}
use Rattle.pm_number.proofs.tables.Numbers.root.Goals as goal

pub returns-clause-value : goal.returns-clause-value
returns-clause-value c =
    let own = c.requires.numbers in
    let left = left_read own.run.merging own.left_is c.requires.inside c.index-v.ensures in
    rw (
      c.place.ensures.value,
      number_read own.widths_are _ c.index.result.now left.inside c.index.ensures,
      c.input.ensures,
    ) left.root

pub returns-clause-on_grid : goal.returns-clause-on_grid
returns-clause-on_grid c =
    rw (left_read c.requires.numbers.run.merging c.requires.numbers.left_is c.requires.inside
    c.index-v.ensures).is at c.place.ensures.on_grid

pub place-requires : goal.place-requires
place-requires c =
    (left_read c.requires.numbers.run.merging c.requires.numbers.left_is c.requires.inside
    c.index-v.ensures).inside

pub index-requires : goal.index-requires
index-requires c =
    omega (
      arith,
      (left_read c.requires.numbers.run.merging c.requires.numbers.left_is
          c.requires.inside c.index-v.ensures).inside,
      c.requires.numbers.widths_are.len,
    )
