use Rattle.std.proofs.Common.{◌≡◌, ◌++◌}
use Rattle.paint.specs.Texts.{lines_below, fit_line}
use Rattle.paint.proofs.lines.add_fits.Given as goal

abbrev pub invariant-loop-node : goal.invariant-loop-node
invariant-loop-node l = l.text.items ≡ l.fn.text.items ++ lines_below (fit_line l.fits) l.node
