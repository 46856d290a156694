use Rattle.std.proofs.Common.{length, take, ap, arith, length-append, length-take}
use Rattle.std.specs.Fmt.{decimal}
use Rattle.pm_io.proofs.DecimalLaws.{length_small}
use Rattle.pm_io.proofs.line.Line.add_number.Goals as goal

pub put_digits-self-inside-requires : goal.put_digits-self-inside-requires
put_digits-self-inside-requires c =
    let few = length_small c.from.result (omega (arith, c.from.ensures, c.ranges.n.fits)) in
    omega (
      arith,
      few,
      ap length c.self.view_is,
      length-take c.self.inside.len c.self.inside.bytes,
      c.requires,
      c.self.invariant.0,
      c.self.invariant.1,
    )

pub returns-clause-short : goal.returns-clause-short
returns-clause-short c =
    let few = length_small c.from.result (omega (arith, c.from.ensures, c.ranges.n.fits)) in
    omega (
      arith,
      few,
      ap length c.self.view_is,
      ap length c.put_digits-self-inside.ensures.text,
      length-append (take c.self.inside.len c.self.inside.bytes) (decimal c.from.result),
    )
