use Rattle.pm_deviation.proofs.HeadingTables.{AreBorderHeadings}
use Rattle.pm_deviation.proofs.border.border_headings.Given as goal

abbrev pub invariant-loop-side : goal.invariant-loop-side
invariant-loop-side l = AreBorderHeadings l.h l.side l.headings.items
