use Rattle.std.proofs.Common.{◌≡◌, ◌≤◌, ◌<◌, ◌+◌, ℕ, true}
use Rattle.pm_base.specs.Counts.{set_of}
use Rattle.pm_change.specs.Changes.{is_gone_face}
use Rattle.pm_change.specs.Gathering.{Gathers}
use Rattle.pm_change.proofs.gathering.see_faces.Given as goal

abbrev pub invariant-loop-face : goal.invariant-loop-face
invariant-loop-face g l = record {
  got : Gathers (is_gone_face l.front.h (set_of l.marks) (set_of l.front.flags)) l.fn.gone l.gone;
  seen : (f : ℕ) → l.first ≤ f → f < l.face
      → is_gone_face l.front.h (set_of l.marks) (set_of l.front.flags) f ≡ true
      → set_of l.gone f ≡ true;
  cost : l.steps + l.first ≤ l.fn.steps + 21 + l.face;
}
