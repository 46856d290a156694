-- A quadric's eleven numbers: ten sums of coefficients, and the number of planes.
use Rattle.std.specs.Prelude.{◌≡◌, ℕ, ◌+◌, List, [], ◌∷◌, ℤ, pos, ◌+ℤ◌, ◌*ℤ◌}
use Rattle.pm_quadric.specs.Planes.{Plane}

-- The coefficients of x^2, xy, xz, x, y^2, yz, y, z^2, z and 1, and the number of planes.
pub record Sums : Type 0 where
  pub xx : ℤ
  pub xy : ℤ
  pub xz : ℤ
  pub x : ℤ
  pub yy : ℤ
  pub yz : ℤ
  pub y : ℤ
  pub zz : ℤ
  pub z : ℤ
  pub one : ℤ
  pub count : ℕ

-- The sums over no plane.
abbrev pub zero_sums : Sums
zero_sums = record {
  xx = pos 0;
  xy = pos 0;
  xz = pos 0;
  x = pos 0;
  yy = pos 0;
  yz = pos 0;
  y = pos 0;
  zz = pos 0;
  z = pos 0;
  one = pos 0;
  count = 0;
}

-- Two quadrics together: each number of the one added to that of the other.
abbrev pub plus_sums : Sums → Sums → Sums
plus_sums s t = record {
  xx = s.xx +ℤ t.xx;
  xy = s.xy +ℤ t.xy;
  xz = s.xz +ℤ t.xz;
  x = s.x +ℤ t.x;
  yy = s.yy +ℤ t.yy;
  yz = s.yz +ℤ t.yz;
  y = s.y +ℤ t.y;
  zz = s.zz +ℤ t.zz;
  z = s.z +ℤ t.z;
  one = s.one +ℤ t.one;
  count = s.count + t.count;
}

-- The ten coefficients of (a x + b y + c z + d) squared, each mixed one with its factor 2.
abbrev pub coefficients : Plane → Sums
coefficients f = record {
  xx = f.a *ℤ f.a;
  xy = pos 2 *ℤ (f.a *ℤ f.b);
  xz = pos 2 *ℤ (f.a *ℤ f.c);
  x = pos 2 *ℤ (f.a *ℤ f.d);
  yy = f.b *ℤ f.b;
  yz = pos 2 *ℤ (f.b *ℤ f.c);
  y = pos 2 *ℤ (f.b *ℤ f.d);
  zz = f.c *ℤ f.c;
  z = pos 2 *ℤ (f.c *ℤ f.d);
  one = f.d *ℤ f.d;
  count = 1;
}

-- The sums over a list of planes.
abbrev pub sums_of : List Plane → Sums
sums_of [] = zero_sums
sums_of (f ∷ fs) = plus_sums (coefficients f) (sums_of fs)

-- A quadric with these numbers stands for this list of planes.
abbrev pub StandsFor : Sums → List Plane → Type 0
StandsFor s fs = s ≡ sums_of fs
