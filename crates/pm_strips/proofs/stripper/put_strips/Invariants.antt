use Rattle.std.proofs.Common.{◌≡◌, length}
use Rattle.pm_base.specs.Counts.{set_of}
use Rattle.pm_forest.specs.Faces.{face_count}
use Rattle.pm_strips.specs.Shown.{beyond_in, node_of_corner}
use Rattle.pm_strips.proofs.Stripping.{IsStripping}
use Rattle.pm_strips.proofs.stripper.put_strips.Given as goal

abbrev pub invariant-loop-face : goal.invariant-loop-face
invariant-loop-face g l = record {
  so_far : IsStripping (beyond_in l.front.h (set_of l.front.flags))
      (node_of_corner l.front.h (set_of l.front.flags)) (face_count l.front.h) l.face
      (set_of l.fn.free.items) (set_of l.free.items) l.strips (g.K.Sink.got l.fn.out)
      (g.K.Sink.got l.out) l.fn.page l.page;
  len : length l.free.items ≡ length l.fn.free.items;
  count : g.K.Sink.faults l.out ≡ g.K.Sink.faults l.fn.out;
}
