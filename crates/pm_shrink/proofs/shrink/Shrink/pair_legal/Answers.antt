use Rattle.std.proofs.Common.{◌∙◌, sym}
use Rattle.std.proofs.lemmas.Bool.{false≢true}
use Rattle.pm_shrink.proofs.shrink.Shrink.pair_legal.Goals as goal

pub returns-then-not-is_joined : goal.returns-then-not-is_joined
returns-then-not-is_joined c = (
  λ t. absurd (false≢true t),
  λ ok. absurd (false≢true (sym c.if-not-is_joined.true ∙ c.is_joined.ensures.1 ok.joined)),
)

pub returns-then-is_linkable : goal.returns-then-is_linkable
returns-then-is_linkable c =
    let link = c.is_linkable.ensures.0 c.if-is_linkable.true in (
      λ t. record {
        joined = c.is_joined.ensures.0 c.if-not-is_joined.false;
        common = link.0.0;
        border = link.1.0;
        triangles = link.0.1;
        single = link.1.1;
        upright =
            c.stay_upright.ensures.0 t;
      },
      λ ok. c.stay_upright.ensures.1 ok.upright,
    )

pub returns-else-is_linkable : goal.returns-else-is_linkable
returns-else-is_linkable c = (
  λ t. absurd (false≢true (sym c.if-is_linkable.false ∙ t)),
  λ ok. c.is_linkable.ensures.1 ((ok.common, ok.triangles), (ok.border, ok.single)),
)
