use Rattle.vdpm_c.proofs.PackingLaws.{refused_packed}
use Rattle.vdpm_c.proofs.packing.vdpm_unpack.Goals as goal

pub returns-in-Err-clause-refused : goal.returns-in-Err-clause-refused
returns-in-Err-clause-refused c = λ is.
    refused_packed c.args.packed.now c.in-Err.fail c.unpack_fault.result c.refused.new.fault
    c.unpack_fault.ensures c.in-Err.ensures.fail c.in-Err.ensures.none
    (c.refused.ensures.told is)
