use Rattle.std.proofs.Common.{◌≡◌, ◌≤◌, ◌-◌, filter}
use Rattle.std.specs.List.{flat_map}
use Rattle.pm_io.specs.Bytes.{GainsThrough}
use Rattle.pm_forest.specs.Forest.{node_count}
use Rattle.pm_forest.specs.Fronts.{is_active}
use Rattle.pm_base.specs.Counts.{set_of, numbers_below}
use Rattle.pm_frame.specs.Frame.{shown_node}
use Rattle.pm_frame.proofs.frame.put_nodes.Given as goal

abbrev pub invariant-loop-node : goal.invariant-loop-node
invariant-loop-node g l = record {
  within : l.from ≤ node_count l.front.h;
  text : GainsThrough (g.K.Sink.got l.fn.out) (g.K.Sink.got l.out) l.fn.page l.page
      (flat_map (shown_node l.front.h)
      (filter (is_active l.front.h (set_of l.front.flags)) (numbers_below l.from)));
  count : g.K.Sink.faults l.out ≡ g.K.Sink.faults l.fn.out;
}

abbrev pub decreases-loop-node : goal.decreases-loop-node
decreases-loop-node g l = node_count l.front.h - l.from
