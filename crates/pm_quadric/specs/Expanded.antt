-- The polynomial whose coefficients are a quadric's ten sums, in the parts in which it is computed.
use Rattle.std.specs.Prelude.{ℤ, ◌+ℤ◌, ◌*ℤ◌}
use Rattle.pm_base.specs.Place.{Place}
use Rattle.pm_quadric.specs.Sums.{Sums}

-- The terms with a square of one coordinate.
abbrev pub squares_part : Sums → Place → ℤ
squares_part s p = s.xx *ℤ (p.x *ℤ p.x) +ℤ s.yy *ℤ (p.y *ℤ p.y) +ℤ s.zz *ℤ (p.z *ℤ p.z)

-- The terms with two coordinates.
abbrev pub mixed_part : Sums → Place → ℤ
mixed_part s p = s.xy *ℤ (p.x *ℤ p.y) +ℤ s.xz *ℤ (p.x *ℤ p.z) +ℤ s.yz *ℤ (p.y *ℤ p.z)

-- The terms with one coordinate.
abbrev pub linear_part : Sums → Place → ℤ
linear_part s p = s.x *ℤ p.x +ℤ s.y *ℤ p.y +ℤ s.z *ℤ p.z

-- The polynomial at a place.
unfoldable pub polynomial : Sums → Place → ℤ
polynomial s p = squares_part s p +ℤ mixed_part s p +ℤ linear_part s p +ℤ s.one
