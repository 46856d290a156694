use Rattle.pm_shrink.proofs.shrink.Shrink.keeps_apart.Goals as goal

pub returns-then-have_common_thirds : goal.returns-then-have_common_thirds
returns-then-have_common_thirds c = (
  λ t. (
    c.have_common_thirds.ensures.0 c.if-have_common_thirds.true,
    c.share_no_triangle.ensures.0 t,
  ),
  λ k. c.share_no_triangle.ensures.1 k.1,
)
