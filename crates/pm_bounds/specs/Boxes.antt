-- Boxes of normals: on each axis the least and the greatest number.
use Rattle.std.specs.Prelude.{List, [], ◌∷◌, Option, None, Some, pos}
use Rattle.std.specs.Int.{int_min, int_max}
use Rattle.pm_base.specs.Geometry.{Direction, IsNormal}
use Rattle.pm_bounds.specs.declared.normal_box.NormalBox.{NormalBox}

-- The box that has one normal alone.
abbrev pub box_at : Direction → NormalBox
box_at n = record {
  low = record { x = n.x; y = n.y; z = n.z };
  high = record { x = n.x; y = n.y; z = n.z };
}

-- The least box that has two others in it.
abbrev pub joined : NormalBox → NormalBox → NormalBox
joined a b = record {
  low = record {
    x = int_min a.low.x b.low.x;
    y = int_min a.low.y b.low.y;
    z = int_min a.low.z b.low.z;
  };
  high = record {
    x = int_max a.high.x b.high.x;
    y = int_max a.high.y b.high.y;
    z = int_max a.high.z b.high.z;
  };
}

-- The same where one of the two, or both, may be missing.
abbrev pub join : Option NormalBox → Option NormalBox → Option NormalBox
join None b = b
join (Some a) None = Some a
join (Some a) (Some b) = Some (joined a b)

-- On each axis the least and the greatest number of these normals; none where there is no normal.
abbrev pub box_of : List Direction → Option NormalBox
box_of [] = None
box_of (n ∷ ns) = join (Some (box_at n)) (box_of ns)

-- 0 to 0 on each axis.
abbrev pub zero_box : NormalBox
zero_box = record {
  low = record { x = pos 0; y = pos 0; z = pos 0 };
  high = record { x = pos 0; y = pos 0; z = pos 0 };
}

-- The numbers of a box as vectors.
abbrev pub low_of : NormalBox → Direction
low_of b = record { x = b.low.x; y = b.low.y; z = b.low.z }

abbrev pub high_of : NormalBox → Direction
high_of b = record { x = b.high.x; y = b.high.y; z = b.high.z }

-- No number of the box is farther from 0 than one of a face's normal.
abbrev pub IsSmallBox : NormalBox → Type 0
IsSmallBox b = IsNormal (low_of b) × IsNormal (high_of b)
