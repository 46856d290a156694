use Rattle.std.proofs.Common.{◌≡◌, true, length}
use Rattle.pm_base.specs.Sides.{face_of}
use Rattle.pm_base.specs.Counts.{set_of}
use Rattle.pm_forest.specs.Faces.{face_count}
use Rattle.pm_strips.specs.Shown.{is_there, beyond_in, node_of_corner}
use Rattle.pm_strips.proofs.Entering.{IsEntering}
use Rattle.pm_strips.proofs.strip.put_entered.Given as goal

abbrev pub invariant-loop-turn : goal.invariant-loop-turn
invariant-loop-turn g l = record {
  so_far : IsEntering (beyond_in l.front.h (set_of l.front.flags))
      (node_of_corner l.front.h (set_of l.front.flags)) (face_count l.front.h) l._turn
      (set_of l.fn.free.items) l.fn.first_exit.0 (set_of l.free.items) l.is_odd l.exit.0
      (g.K.Sink.got l.fn.out) (g.K.Sink.got l.out) l.fn.page l.page;
  there : is_there l.front.h (set_of l.front.flags) (face_of l.exit.0) ≡ true;
  len : length l.free.items ≡ length l.fn.free.items;
  count : g.K.Sink.faults l.out ≡ g.K.Sink.faults l.fn.out;
}
