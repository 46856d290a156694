use Rattle.std.proofs.Common.{◌∙◌, rules}
use Rattle.paint.specs.Texts.{mean_line}
use Rattle.paint.proofs.LineLaws.{lines_none, lines_more}
use Rattle.paint.proofs.lines.add_means.Goals as goal

pub loop-node-init : goal.loop-node-init
loop-node-init c = lines_none (mean_line c.args.means.now) c.args.text.now.items

pub loop-node-preserved : goal.loop-node-preserved
loop-node-preserved c =
    lines_more (mean_line c.args.means.now) c.loop-node.node c.args.text.now.items
    c.loop-node.text.items c.extend_from_slice.new.self.items _ c.loop-node.invariant
    (c.as_slice.ensures ∙ c.put_colour.ensures ∙ search rules)
    c.in_ok-extend_from_slice.ensures.items
