-- The line that `simplify` puts on the error sink where it ends early.
use Rattle.std.specs.Prelude.{ℕ, List, ◌++◌, codes}
use Rattle.pm_commands.specs.declared.fault.Fault.{Fault}
use Rattle.pm_commands.specs.FaultText.{fault_text}

-- The line of a fault.
abbrev pub fault_line : Fault → List ℕ
fault_line f = codes "simplify: " ++ fault_text f
