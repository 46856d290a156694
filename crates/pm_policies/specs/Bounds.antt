-- How many planes a policy gives.
use Rattle.std.specs.Prelude.{ℕ, ◌+◌, ◌*◌, ◌≤◌, List, length}
use Rattle.pm_base.specs.declared.log.Collapse.{Collapse}
use Rattle.pm_base.specs.Meshes.{Mesh}
use Rattle.pm_runs.specs.Surfaces.{Surface}
use Rattle.pm_runs.specs.Planes.{planes_at}
use Rattle.pm_runs.specs.Runs.{surface_after, IsRun}
use Rattle.pm_policies.specs.Policies.{Policy}

-- Each input vertex brings at most n planes for each of its faces, and so many more: `planes_at`
-- has one a face.
abbrev pub BringsAtMost : Policy → Mesh → ℕ → ℕ → Type 0
BringsAtMost p m n more = (v : ℕ) → length (p.brought m v) ≤ n * length (planes_at m v) + more

-- Then all together bring at most three times n for each face, and so many more for each vertex.
abbrev pub most_brought : Mesh → ℕ → ℕ → ℕ
most_brought m n more = 3 * (n * length m.faces) + more * length m.points

-- No vertex takes more than n planes of a surface of a run.
abbrev pub TakesAtMost : Policy → Mesh → ℕ → Type 0
TakesAtMost p m n =
    (log : List Collapse) → IsRun m log → (v : ℕ) → length (p.taken (surface_after m log) v) ≤ n

-- None takes more than n planes for each face of the surface, dropped ones included.
abbrev pub TakesByFaces : Policy → ℕ → Type 0
TakesByFaces p n = (s : Surface) (v : ℕ) → length (p.taken s v) ≤ n * length s.faces
