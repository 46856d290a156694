-- The canonical text of a mesh, in the syntax of Wavefront OBJ. Its coordinates count units of 10
-- to the power -digits.
use Rattle.std.specs.Prelude.{ℕ, zero, suc, ◌+◌, ◌/◌, ◌%◌, ◌^◌, ◌==◌, ℤ, pos, int_lt, unsigned_abs}
use Rattle.std.specs.Prelude.{Bool, List, [], ◌∷◌, ◌++◌, codes, if◌then◌else◌}
use Rattle.std.specs.List.{flat_map}
use Rattle.std.specs.Fmt.{decimal, signed_decimal}
use Rattle.pm_base.specs.Place.{Place}
use Rattle.pm_base.specs.declared.mesh.Corners.{Corners}
use Rattle.pm_base.specs.Meshes.{Mesh}

-- The last digits of a number, exactly so many. Byte 48 is the digit 0.
abbrev pub last_digits : ℕ → ℕ → List ℕ
last_digits zero n = []
last_digits (suc k) n = (48 + n / 10 ^ k % 10) ∷ last_digits k n

abbrev pub minus_if : Bool → List ℕ
minus_if negative = if negative then codes "-" else codes ""

-- Without decimals a coordinate is the whole number. Else it is a `-` where the number is negative,
-- the whole number before the point, the point, and the rest in exactly so many digits.
unfoldable pub coordinate_text : ℕ → ℤ → List ℕ
coordinate_text digits z =
    if digits == 0 then signed_decimal z
    else minus_if (int_lt z (pos 0)) ++ decimal (unsigned_abs z / 10 ^ digits) ++ codes "."
    ++ last_digits digits (unsigned_abs z % 10 ^ digits)

-- `v X Y Z`
unfoldable pub point_line : ℕ → Place → List ℕ
point_line digits p =
    codes "v " ++ coordinate_text digits p.x ++ codes " " ++ coordinate_text digits p.y ++ codes " "
    ++ coordinate_text digits p.z ++ codes "\n"

-- `f A B C`, with vertex numbers from 1
unfoldable pub corner_line : Corners → List ℕ
corner_line f = codes "f " ++ decimal (f.a + 1) ++ codes " " ++ decimal (f.b + 1) ++ codes " "
    ++ decimal (f.c + 1) ++ codes "\n"

-- One line for each point, and then one for each face.
unfoldable pub canonical_text : ℕ → Mesh → List ℕ
canonical_text digits m = flat_map (point_line digits) m.points ++ flat_map corner_line m.faces
