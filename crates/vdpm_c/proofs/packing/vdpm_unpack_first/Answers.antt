use Rattle.std.proofs.Common.{Option, subst}
use Rattle.pm_pack.specs.declared.fault.Fault.{Fault}
use Rattle.vdpm_c.specs.Packing.{IsToldOf}
use Rattle.vdpm_c.proofs.packing.vdpm_unpack_first.Goals as goal

pub returns-in-Err-clause-refused : goal.returns-in-Err-clause-refused
returns-in-Err-clause-refused c = λ is. record {
  fail = c.in-Err.fail;
  is = c.in-Err.ensures.fail;
  tells = subst (λ (f : Option Fault). IsToldOf f c.refused.new.fault) c.unpack_fault.ensures
      (c.refused.ensures.told is);
}
