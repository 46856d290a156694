use Rattle.std.proofs.Common.{◌∙◌, arith}
use Rattle.std.proofs.lemmas.Result.{err_from_is_err_and}
use Rattle.pm_forest.specs.Forest.{node_count}
use Rattle.pm_base.specs.Counts.{set_of}
use Rattle.pm_forest.proofs.ShapeLaws.{leaf_count-le, record_count-roots}
use Rattle.pm_forest.specs.Fronts.{is_active}
use Rattle.pm_frame.specs.Frame.{shown_node}
use Rattle.pm_io.proofs.PutLaws.{through_failed, through_done}
use Rattle.pm_frame.proofs.Lines.{line_next, line_cut, line_gap}
use Rattle.pm_frame.proofs.frame.put_nodes.Goals as goal

pub overflow_add-from : goal.overflow_add-from
overflow_add-from g c =
    let h = c.args.front.now.h in
    let few = leaf_count-le h c.invariant.ensures.valid.shape in
    let all = record_count-roots h c.invariant.ensures.valid.shape in
    omega (arith, c.in-Some.ensures.below, few, all)

pub returns-in_err-add : goal.returns-in_err-add
returns-in_err-add g c =
    let p = err_from_is_err_and c.from_residual.result c.from_residual.ensures.1 in
    let h = c.args.front.now.h in
    let shown = is_active h (set_of c.args.front.now.flags) in
    let line = shown_node h in
    let n = c.in-Some.node.0 in
    let least = c.in-Some.ensures.some in
    let so_far =
    line_gap shown line c.loop-node.from n _ _ _ _ least.from least.none
    c.loop-node.invariant.text in
    let part = line_cut shown line n (node_count h) _ _ _ _ _ _ c.in-Some.ensures.below least.passes
    (c.as_slice.ensures ∙ c.put_active.ensures) so_far c.in_err-add.ensures.puts.err in
    rw (p.1, p.2)
    (through_failed g.K.Sink c.args.out.now c.loop-node.out _ _ _ _ _ part
    c.loop-node.invariant.count c.in_err-add.ensures.puts.cause)

pub loop-node-preserved : goal.loop-node-preserved
loop-node-preserved g c =
    let h = c.args.front.now.h in
    let shown = is_active h (set_of c.args.front.now.flags) in
    let line = shown_node h in
    let n = c.in-Some.node.0 in
    let least = c.in-Some.ensures.some in
    let so_far =
    line_gap shown line c.loop-node.from n _ _ _ _ least.from least.none
    c.loop-node.invariant.text in
    record {
      within = omega (arith, c.in-Some.ensures.below);
      text = line_next shown line n _ _ _ _ _ _ _ least.passes (c.as_slice.ensures
          ∙ c.put_active.ensures) so_far c.in_ok-add.ensures.puts.ok;
      count = c.in_ok-add.ensures.puts.cause.same ∙ c.loop-node.invariant.count;
    }

pub returns : goal.returns
returns g c =
    let h = c.args.front.now.h in
    let shown = is_active h (set_of c.args.front.now.flags) in
    let line = shown_node h in
    let i = c.loop-node.invariant in
    through_done g.K.Sink c.args.out.now c.loop-node.out c.args.page.now c.loop-node.page _ _
    (line_gap shown line c.loop-node.from (node_count h) _ _ _ _ i.within c.in_default.ensures.none
    i.text) i.count
