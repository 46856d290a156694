-- Places lead back to within half a step, rounded up.
use Rattle.std.proofs.Common.{ℕ, ◌+◌, ◌-◌, ◌*◌, ◌/◌, ◌<◌, ◌≤◌, arith}
use Rattle.std.proofs.lemmas.Grind.{common_steps}
use Rattle.std.proofs.Math.Nat.{div-add-mod, mod-lt}
use Rattle.pm_base.specs.Place.{Place}
use Rattle.obj_prepare.specs.declared.placing.Fit.{Fit}
use Rattle.obj_prepare.specs.declared.placing.Fit.TheVariants as fits
use Rattle.obj_prepare.specs.Back.{WayBack, within_of, LeadsNear, LeadsWithin, StandsWithin}
use Rattle.obj_prepare.specs.Back.{LeadsBack, way_back_of}
use Rattle.obj_prepare.specs.Laws.{PlacesAreWithin}
use Rattle.obj_prepare.proofs.BackLaws.{places_lead_back}

-- An extent is no more than so many times its part, rounded up.
rounded_up : (extent parts : ℕ) → 0 < parts → extent ≤ parts * ((extent + parts - 1) / parts)
rounded_up extent parts some = grind (arith, common_steps, div-add-mod, mod-lt)

half_within : (far steps extent d : ℕ) → 2 * far ≤ 10 * extent → extent ≤ 2 * steps * d
    → far ≤ 10 * steps * d
half_within far steps extent d near most = omega (arith, near, most)

near_within : (way : WayBack) (place p : Place) → LeadsNear way place p
    → LeadsWithin way (within_of way) place p
near_within way place p near = grind (arith, common_steps, half_within, rounded_up)

back_within : (fit : Fit) (place p : Place) → LeadsBack fit place p → StandsWithin fit place p
back_within fits.Standing place p stands = stands
back_within (fits.Scaled size b) place p near = near_within (way_back_of size b) place p near

pub places_are_within : PlacesAreWithin
places_are_within size points faces v is l named = back_within _ _ _
    (places_lead_back size points faces v is l named)
