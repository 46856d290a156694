-- What a view is: an eye, how fine it looks, and the planes in front of which it looks.
use Rattle.std.specs.Prelude.{◌≡◌, ℕ, ◌≤◌, nat_le, Bool, true, ◌&&◌, List, length, unsigned_abs}
use Rattle.std.specs.List.{list_all}
use Rattle.pm_base.specs.Place.{Place}
use Rattle.pm_view.specs.declared.limits.TheConstants.{GREATEST_EYE_COORDINATE}
use Rattle.pm_view.specs.declared.limits.TheConstants.{GREATEST_FOCAL_LENGTH}
use Rattle.pm_view.specs.declared.limits.TheConstants.{GREATEST_NORMAL_COMPONENT, GREATEST_OFFSET}
use Rattle.pm_view.specs.declared.limits.TheConstants.{GREATEST_TOLERANCE}
use Rattle.pm_view.specs.declared.measure.Measure.{Measure}
use Rattle.pm_view.specs.declared.measure.Measure.TheVariants as measures
use Rattle.pm_view.specs.declared.plane.Plane.{Plane}

-- By which number of a node it judges, the eye, its focal length, its tolerance and its tolerance
-- for outlines, and its planes in order. The eye may stand outside the range of points.
pub record View : Type 0 where
  pub measure : Measure
  pub eye : Place
  pub focal : ℕ
  pub tol : ℕ
  pub sil : ℕ
  pub planes : List Plane

-- Each number of the eye is from -16,777,215 to 16,777,215.
abbrev pub is_eye : Place → Bool
is_eye p = nat_le (unsigned_abs p.x) GREATEST_EYE_COORDINATE && nat_le (unsigned_abs p.y)
    GREATEST_EYE_COORDINATE
    && nat_le (unsigned_abs p.z) GREATEST_EYE_COORDINATE

-- The same as three facts.
pub record IsEye (p : Place) : Type 0 where
  pub x : unsigned_abs p.x ≤ GREATEST_EYE_COORDINATE
  pub y : unsigned_abs p.y ≤ GREATEST_EYE_COORDINATE
  pub z : unsigned_abs p.z ≤ GREATEST_EYE_COORDINATE

-- Of a plane a, b and c are from -32,767 to 32,767, and d is from -4,398,046,511,104 to
-- 4,398,046,511,104.
abbrev pub is_plane : Plane → Bool
is_plane f =
    nat_le (unsigned_abs f.a) GREATEST_NORMAL_COMPONENT && nat_le (unsigned_abs f.b)
    GREATEST_NORMAL_COMPONENT
    && nat_le (unsigned_abs f.c) GREATEST_NORMAL_COMPONENT && nat_le (unsigned_abs f.d)
    GREATEST_OFFSET

-- A tolerance is at most 65,535, and the one for outlines at most the tolerance.
abbrev pub are_tolerances : ℕ → ℕ → Bool
are_tolerances tol sil = nat_le tol GREATEST_TOLERANCE && nat_le sil tol

-- All numbers are in range; the focal length is at most 65,535.
abbrev pub is_view : View → Bool
is_view v = is_eye v.eye && nat_le v.focal GREATEST_FOCAL_LENGTH && are_tolerances v.tol v.sil &&
    list_all is_plane v.planes

-- The same as facts, with at most six planes.
pub record IsView (v : View) : Type 0 where
  pub eye : IsEye v.eye
  pub focal : v.focal ≤ GREATEST_FOCAL_LENGTH
  pub tol : v.tol ≤ GREATEST_TOLERANCE
  pub sil : v.sil ≤ v.tol
  pub planes : list_all is_plane v.planes ≡ true
  pub few : length v.planes ≤ 6

-- The same view, which judges by deviations.
abbrev pub by_deviation : View → View
by_deviation v = record {
  measure = measures.Deviation;
  eye = v.eye;
  focal = v.focal;
  tol = v.tol;
  sil = v.sil;
  planes = v.planes;
}
