-- How places on the grid lead back to coordinates in units of 10^-18.
use Rattle.std.specs.Prelude.{◌≡◌, ℕ, ◌+◌, ◌-◌, ◌*◌, ◌/◌, ◌^◌, ◌<◌, ◌≤◌, ℤ, pos, ◌+ℤ◌, ◌-ℤ◌, ◌*ℤ◌}
use Rattle.std.specs.Prelude.{unsigned_abs}
use Rattle.pm_base.specs.Place.{Place}
use Rattle.obj_prepare.specs.declared.extents.PointBox.{PointBox}
use Rattle.obj_prepare.specs.declared.placing.Fit.{Fit}
use Rattle.obj_prepare.specs.declared.placing.Fit.TheVariants as fits
use Rattle.obj_prepare.specs.Boxes.{extent}

-- A coordinate is extent / steps * place + middle. The extent is in units of 10^-18, and the middle
-- in units of 10^-19.
pub record WayBack : Type 0 where
  pub extent : ℕ
  pub steps : ℕ
  pub middle : Place

-- The middle of an axis with these ends, in units of 10^-19: half of 10^-18 is 5 of them.
abbrev pub middle : ℤ → ℤ → ℤ
middle low high = pos 5 *ℤ (low +ℤ high)

-- The middle of a box.
abbrev pub middle_of : PointBox → Place
middle_of b = record {
  x = middle b.low.x b.high.x;
  y = middle b.low.y b.high.y;
  z = middle b.low.z b.high.z;
}

-- The way back from places that were scaled by their box: the extent became twice the size.
abbrev pub way_back_of : ℕ → PointBox → WayBack
way_back_of size b = record { extent = extent b; steps = 2 * size; middle = middle_of b }

-- Along an axis with this middle: `steps` times the coordinate that is given back for a place, in
-- units of 10^-19.
abbrev pub given_back : WayBack → ℤ → ℤ → ℤ
given_back way middle place = (pos (10 * way.extent) *ℤ place) +ℤ (pos way.steps *ℤ middle)

-- It is at most half a step from the coordinate n, in units of 10^-18. A step is extent / steps.
abbrev pub IsHalfAStepOff : WayBack → ℤ → ℤ → ℤ → Type 0
IsHalfAStepOff way middle place n =
    2 * unsigned_abs (given_back way middle place -ℤ (pos (10 * way.steps) *ℤ n)) ≤ 10 * way.extent

-- On each axis a place leads back to at most half a step from the point.
pub record LeadsNear (way : WayBack) (place p : Place) : Type 0 where
  pub some : 0 < way.steps
  pub x : IsHalfAStepOff way way.middle.x place.x p.x
  pub y : IsHalfAStepOff way way.middle.y place.y p.y
  pub z : IsHalfAStepOff way way.middle.z place.z p.z

-- Half a step, rounded up to a whole number of units of 10^-18.
abbrev pub within_of : WayBack → ℕ
within_of way = (way.extent + 2 * way.steps - 1) / (2 * way.steps)

-- Along an axis a place leads back to at most d units from the coordinate n.
abbrev pub IsWithinUnits : WayBack → ℕ → ℤ → ℤ → ℤ → Type 0
IsWithinUnits way d middle place n = unsigned_abs
    (given_back way middle place -ℤ (pos (10 * way.steps) *ℤ n)) ≤ 10 * way.steps * d

-- On each axis it does.
pub record LeadsWithin (way : WayBack) (d : ℕ) (place p : Place) : Type 0 where
  pub x : IsWithinUnits way d way.middle.x place.x p.x
  pub y : IsWithinUnits way d way.middle.y place.y p.y
  pub z : IsWithinUnits way d way.middle.z place.z p.z

-- The point is the place itself, in units.
pub record StandsAt (place p : Place) : Type 0 where
  pub x : p.x ≡ pos (10 ^ 18) *ℤ place.x
  pub y : p.y ≡ pos (10 ^ 18) *ℤ place.y
  pub z : p.z ≡ pos (10 ^ 18) *ℤ place.z

-- A place leads back to within half a step, rounded up, of its point, or is the point.
abbrev pub StandsWithin : Fit → Place → Place → Type 0
StandsWithin fits.Standing place p = StandsAt place p
StandsWithin (fits.Scaled size b) place p = LeadsWithin (way_back_of size b)
    (within_of (way_back_of size b)) place p

-- A place leads back to its point.
abbrev pub LeadsBack : Fit → Place → Place → Type 0
LeadsBack fits.Standing place p = StandsAt place p
LeadsBack (fits.Scaled size b) place p = LeadsNear (way_back_of size b) place p
