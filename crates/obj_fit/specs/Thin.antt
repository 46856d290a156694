-- Faces without area.
use Rattle.std.specs.Prelude.{ℕ, pos, Bool, ◌&&◌, List, length}
use Rattle.std.specs.List.{filter}
use Rattle.std.specs.Ordering.{int_eq}
use Rattle.pm_base.specs.declared.mesh.Corners.{Corners}
use Rattle.pm_base.specs.Place.{Place}
use Rattle.pm_base.specs.Geometry.{cross_of}
use Rattle.obj_prepare.specs.Joining.{place_in_list}

-- The normal of three places is 0.
abbrev pub on_a_line : Place → Place → Place → Bool
on_a_line a b c = int_eq (cross_of a b c).x (pos 0) && int_eq (cross_of a b c).y (pos 0)
    && int_eq (cross_of a b c).z (pos 0)

-- A face without area: its places are on a line.
abbrev pub is_thin : List Place → Corners → Bool
is_thin points f = on_a_line (place_in_list points f.a) (place_in_list points f.b)
    (place_in_list points f.c)

unfoldable pub thin_count : List Place → List Corners → ℕ
thin_count points faces = length (filter (is_thin points) faces)
