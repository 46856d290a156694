use Rattle.pm_shrink.proofs.shrink.Shrink.is_linkable.Goals as goal

pub returns-then-keeps_apart : goal.returns-then-keeps_apart
returns-then-keeps_apart c = (
  λ t. (c.keeps_apart.ensures.0 c.if-keeps_apart.true, c.keeps_border.ensures.0 t),
  λ k. c.keeps_border.ensures.1 k.1,
)
