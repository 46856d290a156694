use Rattle.std.proofs.Common.{◌≡◌, ◌∙◌, ap}
use Rattle.std.specs.Ordering.{nat_cmp}
use Rattle.std.specs.BTreeMap.{get}
use Rattle.pm_base.specs.Sides.{Net, net_of}
use Rattle.pm_turn.specs.Edges.{edge_key, edge_key_at, has_two}
use Rattle.pm_turn.proofs.EdgeLaws.{one_noted}
use Rattle.pm_turn.proofs.Thirds.{third_told}
use Rattle.pm_turn.proofs.edges.note.Goals as goal

pub returns-clause-noted : goal.returns-clause-noted
returns-clause-noted c =
    let m : Net = net_of c.args.faces.now in
    let key : c.ends-key.result ≡ edge_key_at m c.args.side.0 =
    c.ends-key.ensures ∙ ap (λ i. edge_key i c.to.result) c.from.ensures
    ∙ ap (edge_key (m.from c.args.side.0)) c.to.ensures in
    one_noted m c.args.edges.now c.insert.new.self c.args.side c.ends-key.result
    c.edge_at-edge.result c.with_side.result
    c.requires.noted key c.edge_at-edge.ensures c.with_side.ensures c.in_ok-insert.ensures.updates

pub returns-clause-third : goal.returns-clause-third
returns-clause-third c =
    let m : Net = net_of c.args.faces.now in
    let k = edge_key_at m c.args.side.0 in
    let key : c.ends-key.result ≡ k =
    c.ends-key.ensures ∙ ap (λ i. edge_key i c.to.result) c.from.ensures
    ∙ ap (edge_key (m.from c.args.side.0)) c.to.ensures in
    c.has_two.ensures
    ∙ ap has_two (c.edge_at-edge.ensures ∙ ap (get nat_cmp c.args.edges.now) key)
    ∙ third_told m c.args.side.0 k _ (c.requires.noted k)
