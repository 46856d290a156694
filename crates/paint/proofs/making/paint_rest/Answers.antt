use Rattle.paint.proofs.MadeLaws.{painted}
use Rattle.paint.proofs.making.paint_rest.Goals as goal

pub returns-in-Ok-lines-clause-ok : goal.returns-in-Ok-lines-clause-ok
returns-in-Ok-lines-clause-ok c =
    let none = rw (c.leaves.ensures.value, c.faces.ensures.value) at c.in-Ok.ensures.none in
    let are = rw (c.in-Ok.ensures.sizes, c.leaves.ensures.value, c.faces.ensures.value) at
    c.in-Ok-lines.ensures in
    painted c.args.h.now c.args.rest.now c.in-Ok-lines.text.items none are
