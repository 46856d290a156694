use Rattle.std.proofs.Common.{ap, ◌∙◌}
use Rattle.pm_base.specs.Counts.{set_of}
use Rattle.pm_beyond.specs.Walks.{number_of, beyond_of}
use Rattle.pm_beyond.specs.Moves.{same_side}
use Rattle.pm_sides.proofs.ToldLaws.{read_told}
use Rattle.pm_sides.proofs.table.SideTable.is_as_told.Goals as goal

pub returns : goal.returns
returns c =
    let h = c.args.indexed.now in
    let T = set_of c.args.split.now in
    let e = c.args.side.0 in
    let read = read_told h c.invariant.ensures c.requires.once T c.requires.front c.args.k
    c.requires.is_split c.args.self.now c.requires.stored e c.requires.side c.requires.own in
    c.has_beside.ensures ∙ ap (λ r. same_side r (number_of c.expected.result)) read
    ∙ ap (same_side (beyond_of h T e)) c.expected.ensures
