use Rattle.std.proofs.Common.{◌∙◌, ◌*◌, ap}
use Rattle.pm_base.specs.Sides.{face_of}
use Rattle.pm_links.specs.Lists.{Lists, list_of}
use Rattle.pm_simplify.proofs.AwaitedLaws.{empty_none}
use Rattle.pm_simplify.proofs.edges.Edges.of.Goals as goal

pub returns-clause-right : goal.returns-clause-right
returns-clause-right g c p m log on =
    c.in_ok-queue.ensures.right p m log on c.in_ok-waiting.waiting

-- At first no pair waits.
pub returns-clause-awaited : goal.returns-clause-awaited
returns-clause-awaited g c e st un =
    ap (λ (l : Lists). list_of l (face_of e)) c.in_ok-waiting.ensures.value
    ∙ empty_none (3 * c.args.faces) c.args.faces (face_of e)
