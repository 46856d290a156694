use Rattle.std.proofs.Common.{◌≡◌, ◌∙◌, refl, rules, subst, ℕ}
use Rattle.std.specs.Prelude.{option_map}
use Rattle.pm_base.specs.declared.ids.Side.{Side}
use Rattle.pm_links.specs.Lists.{first_of, after}
use Rattle.pm_shrink.specs.FaceRows.{side_from}
use Rattle.pm_shrink.specs.Shrinking.{Shrinking, AreCornersAt, net_at, fan_at}
use Rattle.pm_shrink.proofs.ReaderLaws.{next_stands}
use Rattle.pm_shrink.proofs.shrink.Shrink.next_corner.Goals as goal

pub next-requires : goal.next-requires
next-requires c =
    let stands = rw (← c.self.view_is) at c.requires in
    let v = side_from c.self.inside.tables.faces.faces c.args.corner.0 in
    (v, ((c.self.invariant.kept.corners v).each c.args.corner.0).1 (stands, refl))

pub returns-clause-value : goal.returns-clause-value
returns-clause-value c =
    let stands = rw (← c.self.view_is) at c.requires in
    let v : ℕ = side_from c.self.inside.tables.faces.faces c.args.corner.0 in
    let is = c.next.ensures.value v
    (((c.self.invariant.kept.corners v).each c.args.corner.0).1 (stands, refl)) in
    let same : option_map (λ (k : Side). k.0) c.map.result ≡ c.next.result = search rules in
    subst (λ (s : Shrinking). option_map (λ (k : Side). k.0) c.map.result
    ≡ first_of (after c.args.corner.0 (fan_at s ((net_at s).from c.args.corner.0))))
    c.self.view_is
    (same ∙ is)

pub returns-clause-stands : goal.returns-clause-stands
returns-clause-stands c =
    let v : ℕ = (net_at c.args.self.now).from c.args.corner.0 in
    let are = subst (λ (s : Shrinking). AreCornersAt (net_at s) v (fan_at s v)) c.self.view_is
    (c.self.invariant.kept.corners v) in
    next_stands (net_at c.args.self.now) v c.args.corner.0 (fan_at c.args.self.now v) are
    c.map.result (returns-clause-value c)
