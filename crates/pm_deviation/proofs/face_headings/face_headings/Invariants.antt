use Rattle.pm_deviation.proofs.HeadingTables.{AreFaceHeadings}
use Rattle.pm_deviation.proofs.face_headings.face_headings.Given as goal

abbrev pub invariant-loop-f : goal.invariant-loop-f
invariant-loop-f l = AreFaceHeadings l.h l.f l.headings.items
