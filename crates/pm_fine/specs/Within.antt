-- How great the numbers of matrices and vectors are.
use Rattle.std.specs.Prelude.{ℕ, ◌≤◌, unsigned_abs}
use Rattle.pm_fine.specs.declared.matrix.Matrix.{Matrix}
use Rattle.pm_fine.specs.declared.matrix.Vector.{Vector}

-- No number of a matrix, or of a vector, is further from 0 than m.
abbrev pub IsMatrixWithin : ℕ → Matrix → Type 0
IsMatrixWithin m a =
    (unsigned_abs a.xx ≤ m) × (unsigned_abs a.xy ≤ m) × (unsigned_abs a.xz ≤ m) ×
    (unsigned_abs a.yy ≤ m) × (unsigned_abs a.yz ≤ m) × (unsigned_abs a.zz ≤ m)

abbrev pub IsVectorWithin : ℕ → Vector → Type 0
IsVectorWithin m u = (unsigned_abs u.x ≤ m) × (unsigned_abs u.y ≤ m) × (unsigned_abs u.z ≤ m)
