use Rattle.std.proofs.Common.{◌≡◌, suc, ◌-◌, ◌<◌, refl, sym, ap, subst, ◌∙◌, arith}
use Rattle.pm_links.specs.Lists.{Lists}
use Rattle.pm_forest.specs.Forest.{Hierarchy, node_count, record_count, t_of, u_of}
use Rattle.pm_sides.proofs.SplitNodeLaws.{s_below}
use Rattle.pm_front.proofs.CornerTables.{children-differ}
use Rattle.pm_front.proofs.BaseCorners.{Gathered, first-heads, gathered-begins, gathered-more}
use Rattle.pm_front.proofs.BaseCorners.{gathered-ends}
use Rattle.pm_front.proofs.base_corners.gather.Goals as goal

pub loop-k-init : goal.loop-k-init
loop-k-init c = record {
  items = refl;
  gathered = gathered-begins c.args.indexed.now c.records-k.result c.args.corners.now
      (c.records-k.ensures.value ∙ ap (λ (g : Hierarchy). record_count g) c.hierarchy-h.ensures)
      c.requires;
}

pub move_all-requires-clause-to_in : goal.move_all-requires-clause-to_in
move_all-requires-clause-to_in c =
    let h = c.args.indexed.now in
    let k = c.loop-k.k - 1 in
    let old = c.loop-k.invariant.gathered in
    let most = old.most in
    let is = c.split_node-s.ensures.value in
    let low = s_below h c.invariant.ensures k (omega (arith, c.loop-k-test.true)) in
    omega (arith, is, low, old.heads)

pub move_all-requires-clause-differ : goal.move_all-requires-clause-differ
move_all-requires-clause-differ c same =
    let h = c.args.indexed.now in
    let k = c.loop-k.k - 1 in
    let most = c.loop-k.invariant.gathered.most in
    let is = c.split_node-s.ensures.value in
    (children-differ h c.invariant.ensures k (omega (arith, c.loop-k-test.true))).0
    (sym (c.children.ensures.t ∙ ap (λ (g : Hierarchy). t_of g k) c.hierarchy-h.ensures) ∙ same
    ∙ is)

pub move_all-requires-in-loop-k-clause-to_in : goal.move_all-requires-in-loop-k-clause-to_in
move_all-requires-in-loop-k-clause-to_in c =
    let h = c.args.indexed.now in
    let k = c.loop-k.k - 1 in
    let old = c.loop-k.invariant.gathered in
    let most = old.most in
    let is = c.split_node-s.ensures.value in
    let l : k < record_count h = omega (arith, c.loop-k-test.true) in
    let low = s_below h c.invariant.ensures k l in
    let heads = first-heads h c.invariant.ensures k l c.loop-k.corners c.move_all.new.self old.heads
    c.split_node-s.result.0 c.children.result.0.0 is (c.children.ensures.t
    ∙ ap (λ (g : Hierarchy). t_of g k) c.hierarchy-h.ensures) c.move_all.ensures.lists in
    omega (arith, is, low, heads)

pub move_all-requires-in-loop-k-clause-differ : goal.move_all-requires-in-loop-k-clause-differ
move_all-requires-in-loop-k-clause-differ c same =
    let h = c.args.indexed.now in
    let k = c.loop-k.k - 1 in
    let most = c.loop-k.invariant.gathered.most in
    let is = c.split_node-s.ensures.value in
    (children-differ h c.invariant.ensures k (omega (arith, c.loop-k-test.true))).1
    (sym (c.children.ensures.u ∙ ap (λ (g : Hierarchy). u_of g k) c.hierarchy-h.ensures) ∙ same
    ∙ is)

pub loop-k-preserved : goal.loop-k-preserved
loop-k-preserved c =
    let h = c.args.indexed.now in
    let k = c.loop-k.k - 1 in
    let old = c.loop-k.invariant.gathered in
    let most = old.most in
    let at : c.loop-k.k ≡ suc k = omega (arith, c.loop-k-test.true) in
    let is = c.split_node-s.ensures.value in
    let child = c.children in
    let same = c.hierarchy-h.ensures in
    record {
      items = ap (λ (w : Lists). w.items) c.move_all-in-loop-k.ensures.lists
          ∙ ap (λ (w : Lists). w.items) c.move_all.ensures.lists ∙ c.loop-k.invariant.items;
      gathered = gathered-more h c.invariant.ensures k (omega (arith, at)) c.loop-k.corners
          c.move_all.new.self c.move_all-in-loop-k.new.self
          (subst (λ n. Gathered h n c.loop-k.corners) at old) c.split_node-s.result.0
          child.result.0.0 child.result.1.0 is (child.ensures.t
          ∙ ap (λ (g : Hierarchy). t_of g k) same) (child.ensures.u
          ∙ ap (λ (g : Hierarchy). u_of g k) same)
          (omega (arith, child.ensures.nodes, ap (λ (g : Hierarchy). node_count g) same))
          c.move_all.ensures.lists c.move_all-in-loop-k.ensures.lists;
    }

pub returns-clause-lists : goal.returns-clause-lists
returns-clause-lists c =
    gathered-ends c.args.indexed.now c.invariant.ensures c.loop-k.k c.loop-k.corners
    c.loop-k.invariant.gathered (omega (arith, c.loop-k-test.false))
