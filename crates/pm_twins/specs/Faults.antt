-- The two faults of a mesh that is no oriented manifold, and what each answer says.
use Rattle.std.specs.Prelude.{◌≡◌, ℕ, ◌<◌}
use Rattle.pm_base.specs.Sides.{Net, face_of, to}
use Rattle.pm_base.specs.Fans.{IsUsed, IsFan}
use Rattle.pm_twins.specs.declared.twins.TwinsFail.{TwinsFail}
use Rattle.pm_twins.specs.declared.twins.TwinsFail.TheVariants as twins
use Rattle.pm_twins.specs.declared.fans.FansFail.{FansFail}
use Rattle.pm_twins.specs.declared.fans.FansFail.TheVariants as fans

-- Face f has a directed side that an earlier face has.
pub record RepeatsASide (m : Net) (f : ℕ) : Type 0 where
  pub side : ℕ
  pub earlier : ℕ
  pub of_face : face_of side ≡ f
  pub before : face_of earlier < f
  pub from : m.from earlier ≡ m.from side
  pub to : to m earlier ≡ to m side

-- Face f is the least that does.
pub record IsFirstRepeating (m : Net) (f : ℕ) : Type 0 where
  pub in_range : f < m.faces
  pub repeats : RepeatsASide m f
  pub least : (g : ℕ) → g < f → RepeatsASide m g → ⊥

-- A face uses vertex v, and the faces there are no fan.
pub record IsBroken (m : Net) (v : ℕ) : Type 0 where
  pub used : IsUsed m v
  pub no_fan : IsFan m v → ⊥

-- Vertex v is the least that is broken.
pub record IsFirstBroken (m : Net) (v : ℕ) : Type 0 where
  pub broken : IsBroken m v
  pub fans_below : (u : ℕ) → u < v → IsFan m u

abbrev pub IsTwinsFault : Net → TwinsFail → Type 0
IsTwinsFault m (twins.EdgeTwice f) = IsFirstRepeating m f.0
IsTwinsFault m twins.OutOfMemory = Unit {0}

abbrev pub IsFansFault : Net → FansFail → Type 0
IsFansFault m (fans.NotFan v) = IsFirstBroken m v
IsFansFault m fans.OutOfMemory = Unit {0}
