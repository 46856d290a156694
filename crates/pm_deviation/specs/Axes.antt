-- The 13 axes along which normals are looked at: with their opposites, the directions to the 26
-- neighbours of a cell.
use Rattle.std.specs.Prelude.{◌≡◌, ℤ, pos, negsuc, [], ◌∷◌}
use Rattle.pm_deviation.specs.declared.axes.Axis.{Axis}
use Rattle.pm_deviation.specs.declared.axes.TheConstants.{AXES}

abbrev pub axis : ℤ → ℤ → ℤ → Axis
axis x y z = record { x = x; y = y; z = z }

-- They are these.
abbrev pub AxesAreTold : Type 0
AxesAreTold = AXES ≡
    axis (pos 1) (pos 0) (pos 0) ∷ axis (pos 0) (pos 1) (pos 0) ∷
    axis (pos 0) (pos 0) (pos 1) ∷ axis (pos 1) (pos 1) (pos 0) ∷
    axis (pos 1) (negsuc 0) (pos 0) ∷ axis (pos 1) (pos 0) (pos 1) ∷
    axis (pos 1) (pos 0) (negsuc 0) ∷ axis (pos 0) (pos 1) (pos 1) ∷
    axis (pos 0) (pos 1) (negsuc 0) ∷ axis (pos 1) (pos 1) (pos 1) ∷
    axis (pos 1) (pos 1) (negsuc 0) ∷ axis (pos 1) (negsuc 0) (pos 1) ∷
    axis (pos 1) (negsuc 0) (negsuc 0) ∷ []
