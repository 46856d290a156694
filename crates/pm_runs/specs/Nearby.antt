-- What a collapse can change: only what is near the two vertices.
use Rattle.std.specs.Prelude.{◌≡◌, ◌≢◌, ℕ}
use Rattle.pm_base.specs.Sides.{to, third, Stands}
use Rattle.pm_runs.specs.Surfaces.{Surface, next_vertex, place_at, net_of_surface}
use Rattle.pm_runs.specs.Pairs.{Joined}
use Rattle.pm_runs.specs.Merged.{AgreesAt}

-- Two surfaces look the same around a vertex: the same faces hold it, with the same other corners,
-- at the same places.
pub record LooksSameAt (s r : Surface) (p : ℕ) : Type 0 where
  pub faces : AgreesAt (net_of_surface s) (net_of_surface r) p
  pub places : (e : ℕ) → Stands (net_of_surface s) e → (net_of_surface s).from e ≡ p →
      let m = net_of_surface s in
      (place_at r p ≡ place_at s p) × (place_at r (to m e) ≡ place_at s (to m e)) ×
      (place_at r (third m e) ≡ place_at s (third m e))

-- A vertex that the collapse of a and b neither merges nor makes.
pub record IsOther (s : Surface) (a b p : ℕ) : Type 0 where
  pub not_new : p ≢ next_vertex s
  pub not_first : p ≢ a
  pub not_second : p ≢ b

-- And that is a neighbour of neither of the two.
pub record IsFar (s : Surface) (a b p : ℕ) : Type 0 where
  pub other : IsOther s a b p
  pub off_first : Joined (net_of_surface s) p a → ⊥
  pub off_second : Joined (net_of_surface s) p b → ⊥
