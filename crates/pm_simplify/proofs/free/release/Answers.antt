use Rattle.std.proofs.Common.{◌∙◌, sym, subst}
use Rattle.std.proofs.lemmas.Bool.{false≢true}
use Rattle.pm_base.specs.Sides.{Stands}
use Rattle.pm_runs.specs.Surfaces.{Surface, net_of_surface}
use Rattle.pm_simplify.specs.Items.{item_of}
use Rattle.pm_simplify.specs.Choices.{net_after}
use Rattle.pm_simplify.proofs.Freeing.{released}
use Rattle.pm_simplify.proofs.free.release.Goals as goal

pub returns-then-is_there-clause-right : goal.returns-then-is_there-clause-right
returns-then-is_there-clause-right g c = λ p m log on right.
    released p m log c.args.queue.now c.weigh.new.queue c.args.waiting.now c.unlink.new.self
    c.args.item right c.unlink.ensures.lists (c.weigh.ensures.stays p m log on)
    (λ st. c.weigh.ensures.right p m log on (right.keys (item_of (net_after m log) c.args.item)))

pub returns-else-is_there-clause-right : goal.returns-else-is_there-clause-right
returns-else-is_there-clause-right g c = λ p m log on right.
    released p m log c.args.queue.now c.args.queue.now c.args.waiting.now c.unlink.new.self
    c.args.item right c.unlink.ensures.lists (λ e. (λ h. h, λ h. h))
    (λ st. absurd
    (false≢true (sym c.if-is_there.false
    ∙ c.is_there.ensures.1
    (subst (λ (t : Surface). Stands (net_of_surface t) c.args.item) (sym on.after.surface)
    st))))
