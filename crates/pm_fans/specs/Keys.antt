-- One number for the three corners of a face, in whatever order they stand.
use Rattle.std.specs.Prelude.{◌≡◌, ℕ, ◌+◌, ◌-◌, ◌*◌, ◌<◌, min, max, Bool, false, List}
use Rattle.std.specs.List.{All, list_any}
use Rattle.std.specs.Ordering.{nat_cmp, is_eq}
use Rattle.std.specs.BTreeSet.{BTreeSet, contains}
use Rattle.pm_base.specs.declared.mesh.Corners.{Corners}
use Rattle.pm_fans.specs.declared.keeping.TheConstants.{SHIFT}
use Rattle.pm_fans.specs.Kept.{is_flat}

abbrev pub least_corner : Corners → ℕ
least_corner f = min (min f.a f.b) f.c

abbrev pub greatest_corner : Corners → ℕ
greatest_corner f = max (max f.a f.b) f.c

abbrev pub middle_corner : Corners → ℕ
middle_corner f = f.a + f.b + f.c - least_corner f - greatest_corner f

unfoldable pub corners_key_of : Corners → ℕ
corners_key_of f = (least_corner f * SHIFT + middle_corner f) * SHIFT + greatest_corner f

-- Each corner is a number of 32 bits.
pub record HasShortCorners (f : Corners) : Type 0 where
  pub a : f.a < 4294967296
  pub b : f.b < 4294967296
  pub c : f.c < 4294967296

-- A face of three different corners of 32 bits.
pub record IsProperFace (f : Corners) : Type 0 where
  pub flat : is_flat f ≡ false
  pub short : HasShortCorners f

-- Whether one of the faces has the key.
abbrev pub has_key : List Corners → ℕ → Bool
has_key fs k = list_any (λ g. is_eq (nat_cmp (corners_key_of g) k)) fs

-- The set has the keys of the faces, each of which has three different corners.
pub record HoldsKeys (fs : List Corners) (keys : BTreeSet ℕ) : Type 0 where
  pub proper : All IsProperFace fs
  pub each : (k : ℕ) → contains nat_cmp keys k ≡ has_key fs k
