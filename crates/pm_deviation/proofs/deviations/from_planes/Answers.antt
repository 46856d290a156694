use Rattle.std.proofs.Common.{List, sym, subst, ◌∙◌}
use Rattle.pm_deviation.specs.declared.heading.Heading.{Heading}
use Rattle.pm_deviation.specs.Normals.{spread_of, cosine_of}
use Rattle.pm_deviation.specs.Tables.{HaveSpreads}
use Rattle.pm_deviation.proofs.deviations.from_planes.Goals as goal

pub cosines-requires-clause-space : goal.cosines-requires-clause-space
cosines-requires-clause-space c spread have =
    c.in_ok-spreads.ensures spread
    (subst (λ (ds : List Heading). HaveSpreads c.args.h.now spread ds)
    (c.deref-2.ensures.value ∙ sym c.deref.ensures.value) have)

pub plane_deviations-requires-clause-spreads : goal.plane_deviations-requires-clause-spreads
plane_deviations-requires-clause-spreads c =
    let h = c.args.h.now in
    c.in_ok-spreads.ensures (spread_of h)
    (subst (λ (ds : List Heading). HaveSpreads h (spread_of h) ds) (sym c.deref.ensures.value)
    c.in_ok-headings.ensures.spreads)

pub returns-clause-cosines : goal.returns-clause-cosines
unfolding cosine_of
returns-clause-cosines c =
    let h = c.args.h.now in
    c.in_ok-cosines.ensures (spread_of h)
    (subst (λ (ds : List Heading). HaveSpreads h (spread_of h) ds) (sym c.deref-2.ensures.value)
    c.in_ok-headings.ensures.spreads)
