use Rattle.pm_shrink.proofs.shrink.Shrink.keeps_border.Goals as goal

pub returns-then-are_once_on_border : goal.returns-then-are_once_on_border
returns-then-are_once_on_border c = (
  λ t. (
    c.are_once_on_border.ensures.0 c.if-are_once_on_border.true,
    c.are_not_alone.ensures.0
        t,
  ),
  λ k. c.are_not_alone.ensures.1 k.1,
)
