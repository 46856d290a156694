use Rattle.std.proofs.Common.{◌≡◌, ◌<◌, None, ap, ◌∙◌, refl, arith}
use Rattle.std.specs.Option.{unwrap_or}
use Rattle.std.proofs.lemmas.List.{get_or_default}
use Rattle.pm_forest.specs.Forest.{node_count}
use Rattle.pm_deviation.specs.Normals.{x_axis, y_axis, z_axis}
use Rattle.pm_deviation.specs.Spreads.{no_spread}
use Rattle.pm_deviation.proofs.space_spreads.SpaceSpreads.under.Goals as goal

pub returns : goal.returns
returns c h spread are =
    let v = c.args.node.0 in
    let self = c.args.self.now in
    let node : v < node_count h = omega (arith, are.along_x.nodes, c.requires.x) in
    let x : c.or_none.result ≡ unwrap_or (spread x_axis v) no_spread =
    c.or_none.ensures ∙ ap (λ o. unwrap_or o no_spread) (c.index.ensures
    ∙ get_or_default self.x.items v c.index.result.now None c.requires.x ∙ are.along_x.each v node)
    in
    let y : c.or_none-2.result ≡ unwrap_or (spread y_axis v) no_spread =
    c.or_none-2.ensures ∙ ap (λ o. unwrap_or o no_spread) (c.index-2.ensures
    ∙ get_or_default self.y.items v c.index-2.result.now None c.requires.y
    ∙ are.along_y.each v node)
    in
    let z : c.or_none-3.result ≡ unwrap_or (spread z_axis v) no_spread =
    c.or_none-3.ensures ∙ ap (λ o. unwrap_or o no_spread) (c.index-3.ensures
    ∙ get_or_default self.z.items v c.index-3.result.now None c.requires.z
    ∙ are.along_z.each v node)
    in
    rw (x, y, z) refl
