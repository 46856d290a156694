use Rattle.pm_number.specs.Tables.{run_by}
use Rattle.pm_number.proofs.NumberLaws.{number_read}
use Rattle.pm_number.proofs.UnitNumbers.{head_is}
use Rattle.pm_number.proofs.tables.Numbers.head.Goals as goal

pub returns-clause-value : goal.returns-clause-value
returns-clause-value c =
    let x = c.step-collapse.result.now in
    let made = c.step-collapse.ensures in
    rw (
      number_read c.requires.numbers.nodes_are x.s c.index.result.now made.made c.index.ensures,
      number_read c.requires.numbers.widths_are x.t c.index-2.result.now made.first
          c.index-2.ensures,
      c.place.ensures.value,
      c.input.ensures,
      c.place-2.ensures.value,
      c.input-2.ensures,
      c.presence.ensures,
    ) (head_is (run_by c.args.self.now) c.args.k x c.requires.inside made.value)
