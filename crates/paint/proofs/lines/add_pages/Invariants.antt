use Rattle.std.proofs.Common.{◌≡◌, ◌++◌}
use Rattle.paint.specs.Texts.{lines_below, page_line}
use Rattle.paint.proofs.lines.add_pages.Given as goal

abbrev pub invariant-loop-face : goal.invariant-loop-face
invariant-loop-face l = l.text.items ≡ l.fn.text.items ++ lines_below (page_line l.h l.pages) l.face
