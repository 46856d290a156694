use Rattle.std.proofs.Common.{◌∙◌, not, ap, subst}
use Rattle.pm_base.specs.Sides.{prev, twin_of}
use Rattle.pm_runs.specs.Surfaces.{Surface, net_of_surface}
use Rattle.pm_shrink.specs.Shrinking.{net_at}
use Rattle.pm_simplify.specs.Items.{item_of}
use Rattle.pm_simplify.specs.Choices.{net_after, IsRightAt}
use Rattle.pm_simplify.proofs.Weighing.{renews_right, renews_trans}
use Rattle.pm_simplify.proofs.AroundLaws.{not_none}
use Rattle.pm_simplify.proofs.around.renew_beside.Goals as goal

pub returns-then-is_none-clause-right : goal.returns-then-is_none-clause-right
returns-then-is_none-clause-right g c = λ p m log on.
    let n = net_after m log in
    let mid = c.renew.new.queue in
    let last = c.renew-then-is_none.new.queue in
    record {
      out = renews_right p m log mid last (c.renew-then-is_none.ensures.renews p m log on)
          (item_of n c.args.corner.0) (c.renew.ensures.right p m log on);
      back = λ none. subst (λ e. IsRightAt p m log last (item_of n e)) c.prev-before.ensures.value
          (c.renew-then-is_none.ensures.right p m log on);
    }

pub returns-then-is_none-clause-renews : goal.returns-then-is_none-clause-renews
returns-then-is_none-clause-renews g c = λ p m log on.
    renews_trans p m log c.args.queue.now c.renew.new.queue c.renew-then-is_none.new.queue
    (c.renew.ensures.renews p m log on) (c.renew-then-is_none.ensures.renews p m log on)

pub returns-else-is_none-clause-right : goal.returns-else-is_none-clause-right
returns-else-is_none-clause-right g c = λ p m log on.
    let s = c.args.shrink.now in
    let n = net_after m log in
    let across =
    c.across.ensures ∙ ap (twin_of (net_at s)) c.prev-before.ensures.value
    ∙ ap (λ (t : Surface). twin_of (net_of_surface t) (prev c.args.corner.0))
    on.after.surface in
    record {
      out = c.renew.ensures.right p m log on;
      back = λ none. absurd
          (not_none c.across.result (twin_of n (prev c.args.corner.0)) across (c.is_none.ensures
          ∙ ap not c.if-is_none.false) none);
    }
