-- Fans and oriented manifolds (Dey, Edelsbrunner, Guha and Nekhayev 1999, with borders).
use Rattle.std.specs.Prelude.{◌≡◌, ◌≢◌, ℕ, suc, ◌<◌, ◌≤◌, ◌⊎◌}
use Rattle.pm_base.specs.Sides.{Net, to, third, Stands, NoSideTwice}

-- A face has the corners v, x and y in its own cyclic order: (x, y) is one of the pairs of other
-- corners at v.
pub record IsPairAt (m : Net) (v x y : ℕ) : Type 0 where
  pub side : ℕ
  pub stands : Stands m side
  pub at : m.from side ≡ v
  pub one : to m side ≡ x
  pub two : third m side ≡ y

-- A face has the corner v.
abbrev pub IsUsed : Net → ℕ → Type 0
IsUsed m v = (e : ℕ) × Stands m e × (m.from e ≡ v)

-- The pairs at v are (w 0, w 1), (w 1, w 2) and so on, n of them.
pub record IsChain (m : Net) (v : ℕ) (w : ℕ → ℕ) (n : ℕ) : Type 0 where
  pub here : (i : ℕ) → i < n → IsPairAt m v (w i) (w (suc i))
  pub all : (x y : ℕ) → IsPairAt m v x y → (i : ℕ) × (i < n) × (x ≡ w i) × (y ≡ w (suc i))

-- w 0 to w (n - 1) are n different vertices.
abbrev pub IsDistinctBelow : (ℕ → ℕ) → ℕ → Type 0
IsDistinctBelow w n = (i j : ℕ) → i < j → j < n → w i ≢ w j

-- A chain of n pairs that ends at another vertex than it began with.
abbrev pub IsOpen : (ℕ → ℕ) → ℕ → Type 0
IsOpen w n = IsDistinctBelow w (suc n)

-- A chain of at least three pairs that comes back to its first vertex.
abbrev pub IsClosedChain : (ℕ → ℕ) → ℕ → Type 0
IsClosedChain w n = (3 ≤ n) × (w n ≡ w 0) × IsDistinctBelow w n

-- The faces at v are one chain, open or closed.
pub record IsFan (m : Net) (v : ℕ) : Type 0 where
  pub w : ℕ → ℕ
  pub n : ℕ
  pub chain : IsChain m v w n
  pub ends : IsOpen w n ⊎ IsClosedChain w n

-- No directed side stands twice, and the faces at each vertex that a face uses are a fan.
pub record IsOrientedManifold (m : Net) : Type 0 where
  pub no_side_twice : NoSideTwice m
  pub fans : (v : ℕ) → IsUsed m v → IsFan m v
