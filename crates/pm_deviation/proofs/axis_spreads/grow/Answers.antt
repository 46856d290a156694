use Rattle.std.proofs.Common.{◌≡◌, suc, ◌<◌, ◌-◌, None, get_or, set, length-set, ap, ◌∙◌, subst}
use Rattle.std.proofs.Common.{sym, arith}
use Rattle.pm_forest.specs.Forest.{record_count, t_of, u_of}
use Rattle.pm_deviation.specs.Spreads.{join}
use Rattle.pm_deviation.proofs.NodeTables.{AreFoundFrom, found_start, found_child, found_step}
use Rattle.pm_deviation.proofs.NodeTables.{found_all}
use Rattle.pm_deviation.proofs.axis_spreads.grow.Goals as goal

pub loop-k-init : goal.loop-k-init
loop-k-init c =
    let h = c.args.h.now in
    record {
      len = c.requires;
      found = λ value joins own. subst (AreFoundFrom h None value c.args.table.now.items)
          (sym c.records-k.ensures.value)
          (found_start h c.invariant.ensures None value c.args.table.now.items c.requires
          own);
    }

pub loop-k-preserved : goal.loop-k-preserved
loop-k-preserved c =
    let h = c.args.h.now in
    let old = c.loop-k.table.items in
    let k = c.loop-k.k - 1 in
    let x = c.joined_children-spread.result in
    let nodes = c.nodes_of-node.ensures in
    let at : c.loop-k.k ≡ suc k = omega (arith, c.loop-k-test.true) in
    let below : k < record_count h = omega (arith, c.loop-k.auto.k, c.records-k.ensures.value) in
    let was = c.loop-k.invariant in
    record {
      len = length-set old c.nodes_of-node.result.s.0 x ∙ was.len;
      found = λ value joins own.
          let found : AreFoundFrom h None value old (suc k) =
          subst (AreFoundFrom h None value old) at (was.found value joins own) in
          let t = found_child h c.invariant.ensures None value old k (t_of h k) below (omega arith)
          nodes.t_node found in
          let v = found_child h c.invariant.ensures None value old k (u_of h k) below (omega arith)
          nodes.u_node found in
          let joined : x ≡ join (get_or old (t_of h k) None) (get_or old (u_of h k) None) =
          c.joined_children-spread.ensures
          ∙ ap (λ l. join (get_or l (t_of h k) None) (get_or l (u_of h k) None))
          c.deref.ensures.value in
          subst (λ s. AreFoundFrom h None value (set old s x) k) (sym nodes.s)
          (found_step h c.invariant.ensures None value old k x below found
          (joined ∙ (rw (t, v) (sym (joins k below)))));
    }

pub returns : goal.returns
returns c value joins own =
    let h = c.args.h.now in
    let none : c.loop-k.k ≡ 0 = omega (arith, c.loop-k-test.false) in
    found_all h c.invariant.ensures None value c.loop-k.table.items
    (subst (AreFoundFrom h None value c.loop-k.table.items) none
    (c.loop-k.invariant.found value joins own))
