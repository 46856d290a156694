-- Meshes put together, vertices with other names, and meshes that may stand in another's place.
use Rattle.std.specs.Prelude.{◌≡◌, ℕ, ◌+◌, ◌-◌, nat_lt, cond, ◌↔◌}
use Rattle.pm_base.specs.Sides.{Net, side_count, to, IsBorderSide, IsBorder}
use Rattle.pm_base.specs.Fans.{IsPairAt, IsUsed}

-- The faces of one mesh, and after them those of another. A vertex number in both is one vertex.
abbrev pub together : Net → Net → Net
together m n = record {
  faces = m.faces + n.faces;
  from = λ e. cond (nat_lt e (side_count m)) (m.from e) (n.from (e - side_count m));
}

abbrev pub no_faces : Net
no_faces = record { faces = 0; from = λ e. e }

-- The same faces, where each vertex has the number that it is given.
abbrev pub renamed : (ℕ → ℕ) → Net → Net
renamed name m = record { faces = m.faces; from = λ e. name (m.from e) }

-- No two vertices of the mesh are given one number.
abbrev pub IsOneToOneOn : (ℕ → ℕ) → Net → Type 0
IsOneToOneOn name m = (x y : ℕ) → IsUsed m x → IsUsed m y → name x ≡ name y → x ≡ y

-- Some face has a side from x to y.
abbrev pub HasSide : Net → ℕ → ℕ → Type 0
HasSide m x y = (z : ℕ) × IsPairAt m x y z

-- A side of the border runs from x to y.
pub record HasBorderSide (m : Net) (x y : ℕ) : Type 0 where
  pub side : ℕ
  pub border : IsBorderSide m side
  pub begins : m.from side ≡ x
  pub ends : to m side ≡ y

-- Border sides run between the same vertices.
abbrev pub HaveSameBorder : Net → Net → Type 0
HaveSameBorder m n = (x y : ℕ) → HasBorderSide m x y ↔ HasBorderSide n x y

-- Mesh b may stand in the place of mesh a: both have the same border, and a side or a face of b
-- all of whose corners are on the border is one of a too. Without the last a lone triangle could
-- stand for a tetrahedron that lacks a face, and with that face it would be one triangle twice.
pub record MayStandFor (a b : Net) : Type 0 where
  pub border : HaveSameBorder a b
  pub sides : (x y : ℕ) → IsBorder b x → IsBorder b y → HasSide b x y → HasSide a x y
  pub faces :
      (x y z : ℕ) → IsBorder b x → IsBorder b y → IsBorder b z →
      IsPairAt b x y z → IsPairAt a x y z

-- A vertex that both meshes use is on the border of the first.
abbrev pub MeetsOnBorder : Net → Net → Type 0
MeetsOnBorder m n = (v : ℕ) → IsUsed m v → IsUsed n v → IsBorder m v
