use Rattle.std.proofs.Common.{◌≡◌, ◌+◌, ◌*◌, ◌∙◌, Some, ap, length, sym, subst, arith}
use Rattle.pm_forest.proofs.LeafNodes.{length-noted}
use Rattle.pm_forest.proofs.GrowingLaws.{TakesRecord}
use Rattle.pm_forest.proofs.GrowthLaws.{split_leaves_fit, record_added}
use Rattle.pm_forest.proofs.growing.Growing.add_record.Goals as goal

pub note_node-requires-clause-leaves : goal.note_node-requires-clause-leaves
note_node-requires-clause-leaves c =
    let takes : TakesRecord c.args.self.now c.args.split = record {
      settled = c.requires.settled;
      roots = c.requires.roots;
      bases = c.requires.bases;
      next = c.requires.next;
      faces = c.requires.faces;
      node = c.requires.node;
      unsplit = c.requires.unsplit;
      first = c.requires.first;
      rest = c.requires.rest;
    } in
    let seen = subst (λ v. TakesRecord v c.args.split) (sym c.self.view_is) takes in
    (split_leaves_fit c.self.invariant c.args.split seen c.index.result.now c.index.ensures).0

pub note_node-requires-2-clause-leaves : goal.note_node-requires-2-clause-leaves
note_node-requires-2-clause-leaves c =
    let at = c.index.result.now in
    let takes : TakesRecord c.args.self.now c.args.split = record {
      settled = c.requires.settled;
      roots = c.requires.roots;
      bases = c.requires.bases;
      next = c.requires.next;
      faces = c.requires.faces;
      node = c.requires.node;
      unsplit = c.requires.unsplit;
      first = c.requires.first;
      rest = c.requires.rest;
    } in
    let seen = subst (λ v. TakesRecord v c.args.split) (sym c.self.view_is) takes in
    let fits = split_leaves_fit c.self.invariant c.args.split seen at c.index.ensures in
    let node = c.len.result + 2 * c.len-number.result in
    let len = ap length c.note_node.ensures.leaf_nodes
    ∙ length-noted c.self.inside.leaf_nodes.items node at.0 (at.0 + c.args.split.width) in
    omega arith

pub invariant_of-self : goal.invariant_of-self
invariant_of-self c =
    let takes : TakesRecord c.args.self.now c.args.split = record {
      settled = c.requires.settled;
      roots = c.requires.roots;
      bases = c.requires.bases;
      next = c.requires.next;
      faces = c.requires.faces;
      node = c.requires.node;
      unsplit = c.requires.unsplit;
      first = c.requires.first;
      rest = c.requires.rest;
    } in
    let seen = subst (λ v. TakesRecord v c.args.split) (sym c.self.view_is) takes in
    let node : c.len.result + 2 * c.len-number.result
    ≡ length c.self.inside.roots.items + 2 * length c.self.inside.records.items =
    omega (arith, c.len.ensures, c.len-number.ensures) in
    record_added c.self.invariant c.args.split seen _ _ _ _ _ _
    c.index.result.now c.index.ensures node (c.of.ensures ∙ ap Some c.len-number.ensures)
    c.note_node.ensures.intervals c.note_node.ensures.leaf_nodes c.note_node-2.ensures.intervals
    c.note_node-2.ensures.leaf_nodes
