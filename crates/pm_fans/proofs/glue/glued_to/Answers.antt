use Rattle.std.proofs.Common.{◌∙◌, ◌≤◌, ap, not, arith}
use Rattle.pm_base.specs.Sides.{Net, net_of, side_count}
use Rattle.pm_fans.proofs.GlueLaws.{stands_not_alone, glued_found}
use Rattle.pm_fans.proofs.glue.glued_to.Goals as goal

pub returns-then-is_none : goal.returns-then-is_none
returns-then-is_none c =
    let m : Net = net_of c.args.faces.now in
    let few : side_count m ≤ 3145728 = omega (arith, c.requires.cuttable.short) in
    stands_not_alone m c.requires.cuttable c.args.side.0 c.from-p.result c.to-q.result
    c.requires.in_range c.from-p.ensures c.to-q.ensures c.alone.result
    (c.alone.ensures m (side_count m) few c.requires.noted) (c.is_none.ensures
    ∙ ap not c.if-is_none.true)

pub returns : goal.returns
returns c =
    let m : Net = net_of c.args.faces.now in
    let few : side_count m ≤ 3145728 = omega (arith, c.requires.cuttable.short) in
    glued_found m c.requires.cuttable c.args.side.0 c.from-p.result c.to-q.result
    c.requires.in_range c.from-p.ensures c.to-q.ensures c.alone.result c.alone-2.result
    (c.alone.ensures m (side_count m) few c.requires.noted) (c.is_none.ensures
    ∙ ap not c.if-is_none.false) (c.alone-2.ensures m (side_count m) few c.requires.noted)
