-- Faces that a collapse leaves alone.
use Rattle.std.specs.Prelude.{ℕ}
use Rattle.pm_base.specs.Sides.{to, third}
use Rattle.pm_runs.specs.Surfaces.{Surface, net_of_surface}
use Rattle.pm_runs.specs.Nearby.{IsOther}

-- The face of a side has no corner that the collapse of t and u merges or makes.
pub record IsFaceSpared (s : Surface) (t u e : ℕ) : Type 0 where
  pub from : IsOther s t u ((net_of_surface s).from e)
  pub to : IsOther s t u (to (net_of_surface s) e)
  pub third : IsOther s t u (third (net_of_surface s) e)
