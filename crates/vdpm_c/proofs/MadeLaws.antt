-- A refusal that is told.
use Rattle.std.proofs.Common.{ℕ, List, Option, Result, subst}
use Rattle.pm_forest.specs.Forest.{Hierarchy}
use Rattle.pm_commands.specs.declared.fault.Fault.{Fault}
use Rattle.pm_making.specs.declared.fail.BuildFail.{BuildFail}
use Rattle.pm_making.specs.Making.{IsRefusedBy}
use Rattle.vdpm_c.specs.declared.tables.FaultTold.{FaultTold}
use Rattle.vdpm_c.specs.Making.{FaultIsTold, RefusedText}

pub refused_text :
    (IsMade : List ℕ → Result Hierarchy Fault → Option ℕ → Type 0) (text : List ℕ)
    (fail : BuildFail) (told : FaultTold)
    → IsRefusedBy IsMade text fail → FaultIsTold fail told → RefusedText IsMade text told
refused_text IsMade text fail told why it = record {
  fault = it.fault;
  is = subst (IsRefusedBy IsMade text) it.is why;
  place = it.place;
  place_is = it.place_is;
  tells = it.tells;
}
