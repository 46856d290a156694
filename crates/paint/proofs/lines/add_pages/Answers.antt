use Rattle.std.proofs.Common.{◌∙◌, rules}
use Rattle.paint.specs.Texts.{page_line}
use Rattle.paint.proofs.LineLaws.{lines_none, lines_more}
use Rattle.paint.proofs.lines.add_pages.Goals as goal

pub loop-face-init : goal.loop-face-init
loop-face-init c = lines_none (page_line c.args.h.now c.args.pages.now) c.args.text.now.items

pub loop-face-preserved : goal.loop-face-preserved
loop-face-preserved c =
    lines_more (page_line c.args.h.now c.args.pages.now) c.loop-face.face c.args.text.now.items
    c.loop-face.text.items c.extend_from_slice.new.self.items _ c.loop-face.invariant
    (c.as_slice.ensures ∙ c.put_page.ensures ∙ search rules)
    c.in_ok-extend_from_slice.ensures.items
