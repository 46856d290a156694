use Rattle.std.proofs.Common.{◌-◌, ◌^◌, ◌+◌, ◌<◌, ◌≤◌, ℕ}
use Rattle.pm_forest.specs.Faces.{first_face, face_count}
use Rattle.pm_change.proofs.faces.first_face.Given as goal

abbrev pub invariant-loop-low : goal.invariant-loop-low
invariant-loop-low g l = record {
  from : l.low ≤ first_face l.h l.k;
  until : first_face l.h l.k ≤ l.high;
  there : l.high ≤ face_count l.h;
  halved : (n : ℕ) × (l.high - l.low < 2 ^ n) × (l.steps + n ≤ l.fn.steps + 21);
}

abbrev pub decreases-loop-low : goal.decreases-loop-low
decreases-loop-low g l = l.high - l.low
