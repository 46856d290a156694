-- Steps, one after the other, up to the first fault.
use Rattle.std.specs.Prelude.{ℕ, suc, zero, List, [], ◌∷◌, Result, Ok, Err}
use Rattle.ply_read.specs.declared.fault.PlyFault.{PlyFault}
use Rattle.ply_read.specs.declared.stop.Stop.{Stop}
use Rattle.ply_read.specs.Results.{◌>>=◌}

-- A fault where so many bytes are left.
abbrev pub stopped : {A : Type 0} → PlyFault → ℕ → Result A Stop
stopped fault left = Err (record { fault = fault; left = left })

-- A step so many times.
abbrev pub repeated : {S : Type 0} → (S → Result S Stop) → ℕ → S → Result S Stop
repeated step zero s = Ok s
repeated step (suc n) s = step s >>= repeated step n

-- A step for each of a list.
abbrev pub folded : {X S : Type 0} → (X → S → Result S Stop) → List X → S → Result S Stop
folded step [] s = Ok s
folded step (x ∷ xs) s = step x s >>= folded step xs
