use Rattle.pm_base.specs.Sides.{Net, net_of}
use Rattle.pm_fans.proofs.CutLaws.{cut_here}
use Rattle.pm_fans.proofs.cutting.is_cut.Goals as goal

pub returns-else-are_several : goal.returns-else-are_several
returns-else-are_several c =
    let m : Net = net_of c.args.faces.now in
    cut_here m c.from-p.result c.to-q.result c.args.side.0 c.are_several.result
    c.are_several-else-are_several.result c.from-p.ensures c.to-q.ensures
    (c.are_several.ensures m c.requires.cuttable c.requires.noted) c.if-are_several.false
    (c.are_several-else-are_several.ensures m c.requires.cuttable c.requires.noted)
