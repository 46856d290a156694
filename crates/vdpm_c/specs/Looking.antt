-- A view as C tells it, and what it came to.
use Rattle.std.specs.Prelude.{◌≡◌, ℕ, zero, suc, ℤ, ◌≤◌, true, List, [], ◌∷◌, length}
use Rattle.std.specs.Prelude.{Option, Some, None}
use Rattle.std.specs.Option.{option_map}
use Rattle.pm_base.specs.Counts.{set_of}
use Rattle.pm_view.specs.declared.plane.Plane.{Plane}
use Rattle.pm_view.specs.declared.measure.Measure.{Measure}
use Rattle.pm_view.specs.declared.measure.Measure.TheVariants as measures
use Rattle.pm_view.specs.Views.{View, is_view}
use Rattle.pm_refine.specs.declared.refiner.Adapted.{Adapted}
use Rattle.pm_refine.specs.declared.refiner.Adapted.TheVariants as adapted
use Rattle.pm_session.specs.Script.{now_split, adapted_to, after_view}
use Rattle.pm_viewer.specs.Viewing.{Viewed, viewer_state}
use Rattle.vdpm_c.specs.declared.tables.Look.{Look}
use Rattle.vdpm_c.specs.declared.tables.Moved.{Moved}

-- The planes that numbers tell, four for each; none where some are left over.
abbrev pub with_plane : ℤ → ℤ → ℤ → ℤ → List Plane → List Plane
with_plane a b c d planes = record { a = a; b = b; c = c; d = d } ∷ planes

unfoldable pub planes_told : List ℤ → Option (List Plane)
planes_told [] = Some []
planes_told (a ∷ b ∷ c ∷ d ∷ rest) = option_map (with_plane a b c d) (planes_told rest)
planes_told _ = None

-- By what a view judges nodes.
abbrev pub measure_told : ℕ → Option Measure
measure_told zero = Some measures.Error
measure_told (suc zero) = Some measures.Deviation
measure_told _ = None

-- The view of these numbers, whether it is in range or not.
abbrev pub view_with : Look → List Plane → Measure → View
view_with look planes measure = record {
  measure = measure;
  eye = record { x = look.eye_x; y = look.eye_y; z = look.eye_z };
  focal = look.focal;
  tol = look.tolerance;
  sil = look.silhouette;
  planes = planes;
}

-- These numbers ask for the view: it is theirs, in range, and has at most six planes.
pub record AskFor (look : Look) (numbers : List ℤ) (view : View) : Type 0 where
  pub planes : planes_told numbers ≡ Some view.planes
  pub measure : measure_told look.measure ≡ Some view.measure
  pub numbers_are : view ≡ view_with look view.planes view.measure
  pub in_range : is_view view ≡ true
  pub few : length view.planes ≤ 6

-- How many moves a view made, and how many are left.
abbrev pub moves_told : Adapted → Moved
moves_told (adapted.Settled moves) = record { moves = moves; left = 0 }
moves_told (adapted.Spent moves left) = record { moves = moves; left = left }

-- What a view came to: it does what its line does, and tells the moves; all else is as before.
pub record Looked (before : Viewed) (view : View) (moved : Moved) (after : Viewed) : Type 0 where
  pub told : moved ≡ moves_told
      (adapted_to before.shown.h before.shown.budget (set_of before.shown.flags) view)
  pub state : viewer_state after ≡ now_split (viewer_state before)
      (after_view before.shown.h before.shown.budget (set_of before.shown.flags) view)
  pub hierarchy : after.shown.h ≡ before.shown.h
  pub digits : after.digits ≡ before.digits
  pub reply : after.reply ≡ before.reply
