use Rattle.std.proofs.Common.{arith}
use Rattle.paint.proofs.CoatLaws.{coordinates_few}
use Rattle.paint.proofs.coat.whole_fault.Goals as goal

pub number_fault-requires : goal.number_fault-requires
number_fault-requires c =
    let few = coordinates_few c.args.sizes c.args.bytes.now c.requires.sizes in
    rw c.requires.coordinates (omega (arith, c.coordinates_from.ensures.most, few))
