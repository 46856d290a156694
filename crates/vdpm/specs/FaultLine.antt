-- The line that `vdpm` puts on the error sink where a command ends early.
use Rattle.std.specs.Prelude.{ℕ, List, ◌++◌, codes}
use Rattle.pm_commands.specs.declared.fault.Fault.{Fault}
use Rattle.pm_commands.specs.FaultText.{fault_text}

-- The line of a fault.
abbrev pub fault_line : Fault → List ℕ
fault_line f = codes "vdpm: " ++ fault_text f
