use Rattle.std.proofs.Common.{◌≡◌, ◌++◌}
use Rattle.paint.specs.Texts.{lines_below, mean_line}
use Rattle.paint.proofs.lines.add_means.Given as goal

abbrev pub invariant-loop-node : goal.invariant-loop-node
invariant-loop-node l = l.text.items ≡ l.fn.text.items ++ lines_below (mean_line l.means) l.node
