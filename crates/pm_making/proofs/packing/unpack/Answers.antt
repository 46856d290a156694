use Rattle.pm_making.proofs.PackingLaws.{unpacked_of}
use Rattle.pm_making.proofs.packing.unpack.Goals as goal

pub returns-in-Ok-clause-made : goal.returns-in-Ok-clause-made
returns-in-Ok-clause-made c =
    unpacked_of c.args.packed.now c.in-Ok.bytes.items c.new.result.items c.of.result c.of.ensures
    c.new.ensures.items c.in-Ok.ensures.ok c.in-Ok.ensures.back
