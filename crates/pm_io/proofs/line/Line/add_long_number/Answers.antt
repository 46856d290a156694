use Rattle.std.proofs.Common.{length, take, ap, arith, length-append, length-take}
use Rattle.std.specs.Fmt.{decimal}
use Rattle.pm_io.proofs.DecimalLaws.{length_most}
use Rattle.pm_io.proofs.line.Line.add_long_number.Goals as goal

pub put_digits-self-inside-requires : goal.put_digits-self-inside-requires
put_digits-self-inside-requires c =
    omega (
      arith,
      length_most c.args.n c.ranges.n.fits,
      ap length c.self.view_is,
      length-take c.self.inside.len c.self.inside.bytes,
      c.requires,
      c.self.invariant.0,
      c.self.invariant.1,
    )

pub returns-clause-short : goal.returns-clause-short
returns-clause-short c =
    omega (
      arith,
      length_most c.args.n c.ranges.n.fits,
      ap length c.self.view_is,
      ap length c.put_digits-self-inside.ensures.text,
      length-append (take c.self.inside.len c.self.inside.bytes) (decimal c.args.n),
    )
