use Rattle.std.proofs.Common.{◌≡◌, ◌≤◌, ◌-◌, filter}
use Rattle.std.specs.List.{flat_map}
use Rattle.pm_io.specs.Bytes.{GainsThrough}
use Rattle.pm_base.specs.Counts.{set_of, numbers_below}
use Rattle.pm_forest.specs.Faces.{face_count}
use Rattle.pm_forest.specs.Kept.{is_kept}
use Rattle.pm_frame.specs.Frame.{shown_face}
use Rattle.pm_frame.proofs.frame.put_faces.Given as goal

abbrev pub invariant-loop-face : goal.invariant-loop-face
invariant-loop-face g l = record {
  within : l.from ≤ face_count l.front.h;
  text : GainsThrough (g.K.Sink.got l.fn.out) (g.K.Sink.got l.out) l.fn.page l.page
      (flat_map (shown_face l.front.h (set_of l.front.flags))
      (filter (is_kept l.front.h (set_of l.front.flags)) (numbers_below l.from)));
  count : g.K.Sink.faults l.out ≡ g.K.Sink.faults l.fn.out;
}

abbrev pub decreases-loop-face : goal.decreases-loop-face
decreases-loop-face g l = face_count l.front.h - l.from
