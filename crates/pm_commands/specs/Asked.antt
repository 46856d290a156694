-- What may be asked for.
use Rattle.std.specs.Prelude.{ℕ, ◌≤◌}
use Rattle.pm_session.specs.declared.grammar.Grammar.{Grammar}
use Rattle.pm_session.specs.declared.grammar.Grammar.TheVariants as grammars
use Rattle.pm_commands.specs.declared.asked.Asked.{Asked}
use Rattle.pm_commands.specs.declared.asked.Asked.TheVariants as asked

-- How many decimals the coordinates of the text have that is read.
abbrev pub digits_asked : Asked → ℕ
digits_asked (asked.Canon digits) = digits
digits_asked (asked.Build target digits) = digits
digits_asked asked.Expand = 0
digits_asked asked.Check = 0
digits_asked (asked.View budget) = 0
digits_asked (asked.Live budget) = 0
digits_asked (asked.Demo n) = 0
digits_asked (asked.Simplify target digits border) = digits

-- The grid of `demo` has from 1 to 256 cells a side.
abbrev pub HasSize : Asked → Type 0
HasSize (asked.Demo n) = (1 ≤ n) × (n ≤ 256)
HasSize asks = Unit {0}

-- What asks for a script of this grammar.
abbrev pub script_asked : Grammar → ℕ → Asked
script_asked grammars.View budget = asked.View budget
script_asked grammars.Live budget = asked.Live budget
