use Rattle.std.proofs.Common.{◌∙◌, ap, sym}
use Rattle.std.proofs.lemmas.Bool.{false≢true}
use Rattle.pm_runs.proofs.Found.{none-side}
use Rattle.pm_shrink.specs.Shrinking.{net_at}
use Rattle.pm_shrink.specs.Writes.{side_number}
use Rattle.pm_shrink.proofs.ObstacleLaws.{alone_at}
use Rattle.pm_shrink.proofs.shrink.Shrink.is_alone_along.Goals as goal

pub returns-in-None : goal.returns-in-None
returns-in-None c = (
  λ t. absurd (false≢true t),
  λ (e, r, x, y, z). absurd
      (none-side (net_at c.args.self.now) c.args.p c.args.q (sym c.side_to.ensures.value
      ∙ ap side_number c.in-None.is) (e, r)),
)

pub returns-then-is_border_side : goal.returns-then-is_border_side
returns-then-is_border_side c =
    let alone = alone_at c.side_to.ensures.once
    (sym c.side_to.ensures.value ∙ ap side_number c.in-Some.is) in (
      λ t. alone.1 (
        sym c.is_border_side.ensures ∙ c.if-is_border_side.true,
        sym c.is_alone_beside.ensures ∙ t,
      ),
      λ k. c.is_alone_beside.ensures ∙ (alone.0 k).1,
    )

pub returns-else-is_border_side : goal.returns-else-is_border_side
returns-else-is_border_side c = (
  λ t. absurd (false≢true (sym c.if-is_border_side.false ∙ t)),
  λ k. c.is_border_side.ensures
      ∙ ((alone_at c.side_to.ensures.once
      (sym c.side_to.ensures.value ∙ ap side_number c.in-Some.is)).0 k).0,
)
