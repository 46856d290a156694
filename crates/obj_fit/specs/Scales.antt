-- How positions lead back to coordinates, as whole numbers.
use Rattle.std.specs.Prelude.{◌≡◌, ℕ, ◌/◌, ◌%◌, ◌^◌, ℤ, pos, int_lt, unsigned_abs, List, ◌++◌}
use Rattle.std.specs.Prelude.{Option, Some, None, codes}
use Rattle.obj_prepare.specs.declared.placing.Fit.{Fit}
use Rattle.obj_prepare.specs.declared.placing.Fit.TheVariants as fits
use Rattle.obj_prepare.specs.Back.{WayBack, way_back_of}
use Rattle.obj_fit.specs.declared.scale.Decimal.{Decimal}
use Rattle.obj_fit.specs.declared.scale.Scale.{Scale}
use Rattle.obj_fit.specs.Texts.{way_text}

-- The number n / 10 ^ digits, by its sign, what stands before the point, and what behind it.
abbrev pub decimal_of : ℕ → ℤ → Decimal
decimal_of digits n = record {
  negative = int_lt n (pos 0);
  whole = unsigned_abs n / 10 ^ digits;
  part = unsigned_abs n % 10 ^ digits;
}

-- The numbers of a way back.
abbrev pub scale_of_way : WayBack → Scale
scale_of_way way = record {
  extent = decimal_of 18 (pos way.extent);
  steps = way.steps;
  x = decimal_of 19 way.middle.x;
  y = decimal_of 19 way.middle.y;
  z = decimal_of 19 way.middle.z;
}

-- Those of how points were brought onto the grid; none where they stand as they stood.
abbrev pub scale_in : Fit → Option Scale
scale_in fits.Standing = None
scale_in (fits.Scaled size b) = Some (scale_of_way (way_back_of size b))

-- The first line of a text tells these numbers, or that coordinates stand as they stood.
abbrev pub TellsScale : List ℕ → Option Scale → Type 0
TellsScale line None = line ≡ codes "# coordinates as they stood\n"
TellsScale line (Some scale) =
    (way : WayBack) × (line ≡ codes "# " ++ way_text way) × (scale ≡ scale_of_way way)
