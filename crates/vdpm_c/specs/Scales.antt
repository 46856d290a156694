-- How the positions of a prepared text lead back to coordinates, as C takes it.
use Rattle.std.specs.Prelude.{Bool, true, false, ℕ, Option, None, Some}
use Rattle.obj_fit.specs.declared.scale.Decimal.{Decimal}
use Rattle.obj_fit.specs.declared.scale.Scale.{Scale}
use Rattle.vdpm_c.specs.declared.tables.DecimalTold.{DecimalTold}
use Rattle.vdpm_c.specs.declared.tables.ScaleTold.{ScaleTold}

-- 1 for a number below zero, and else 0.
abbrev pub sign_told : Bool → ℕ
sign_told true = 1
sign_told false = 0

abbrev pub decimal_told : Decimal → DecimalTold
decimal_told n = record { whole = n.whole; part = n.part; negative = sign_told n.negative }

abbrev pub scale_of : Scale → ScaleTold
scale_of s = record {
  extent = decimal_told s.extent;
  x = decimal_told s.x;
  y = decimal_told s.y;
  z = decimal_told s.z;
  steps = s.steps;
}

abbrev pub no_decimal : DecimalTold
no_decimal = record { whole = 0; part = 0; negative = 0 }

-- All is 0 where positions are the coordinates.
abbrev pub no_scale : ScaleTold
no_scale = record { extent = no_decimal; x = no_decimal; y = no_decimal; z = no_decimal; steps = 0 }

abbrev pub scale_told : Option Scale → ScaleTold
scale_told None = no_scale
scale_told (Some s) = scale_of s
