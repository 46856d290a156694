-- What a program says where it stops, and with which status.
use Rattle.std.specs.Prelude.{ℕ, List, codes}
use Rattle.pm_program.specs.declared.stop.Stop.{Stop}
use Rattle.pm_program.specs.declared.stop.Stop.TheVariants as stops

-- What stands behind the program's name.
abbrev pub stop_text : Stop → List ℕ
stop_text stops.Words = codes ": words not understood\n"
stop_text stops.Read = codes ": read fault\n"
stop_text stops.Write = codes ": write fault\n"
stop_text stops.OutOfMemory = codes ": out of memory\n"

abbrev pub stop_status : Stop → ℕ
stop_status stops.Words = 2
stop_status stops.Read = 3
stop_status stops.Write = 4
stop_status stops.OutOfMemory = 5
