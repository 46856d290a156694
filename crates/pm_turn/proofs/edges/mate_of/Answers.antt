use Rattle.std.proofs.Common.{◌≡◌, ◌∙◌, ap}
use Rattle.pm_base.specs.Sides.{Net, net_of}
use Rattle.pm_turn.specs.Edges.{edge_key, edge_key_at}
use Rattle.pm_turn.proofs.EdgeLaws.{mate_found}
use Rattle.pm_turn.proofs.edges.mate_of.Goals as goal

pub returns : goal.returns
returns c =
    let m : Net = net_of c.args.faces.now in
    let key : c.ends.result ≡ edge_key_at m c.args.side.0 =
    c.ends.ensures ∙ ap (λ i. edge_key i c.to.result) c.from.ensures
    ∙ ap (edge_key (m.from c.args.side.0)) c.to.ensures in
    mate_found m c.requires.cuttable c.args.side c.args.edges.now c.ends.result c.edge_at.result
    c.mate_in.result
    c.requires.in_range c.requires.noted key c.edge_at.ensures c.mate_in.ensures
