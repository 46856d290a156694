-- How many different points vertices have, and how many of these are no different places.
use Rattle.std.specs.Prelude.{◌≡◌, ℕ, ◌-◌, ◌&&◌, ℤ, Bool, List, ◌++◌, length}
use Rattle.std.specs.declared.cmp.Ordering.{Ordering}
use Rattle.std.specs.Ordering.{int_cmp, int_eq, ordering_then}
use Rattle.std.specs.BTreeSet.{BTreeSet, contains}
use Rattle.std.specs.Set.{is_member, distinct_count}
use Rattle.pm_base.specs.declared.mesh.Corners.{Corners}
use Rattle.pm_base.specs.Place.{Place}
use Rattle.obj_prepare.specs.Named.{named_in, chosen}

-- Two points are one.
abbrev pub is_same_point : Place → Place → Bool
is_same_point p q = (int_eq p.x q.x && int_eq p.y q.y) && int_eq p.z q.z

-- How many different points a list has.
unfoldable pub different : List Place → ℕ
different ps = distinct_count is_same_point ps

-- Of the vertices that faces name: how many different points they have, less how many different
-- places. So many were
-- joined by rounding.
unfoldable pub rounded_count : List Place → List Place → List Corners → ℕ
rounded_count points places faces = different (chosen (named_in faces (length points)) points)
    - different (chosen (named_in faces (length points)) places)

-- A point as the key of a set, and how such keys are ordered.
abbrev pub PointKey : Type 0
PointKey = (ℤ × ℤ) × ℤ

abbrev pub key_of : Place → PointKey
key_of p = ((p.x, p.y), p.z)

abbrev pub key_cmp : PointKey → PointKey → Ordering
key_cmp a b = ordering_then (ordering_then (int_cmp a.0.0 b.0.0) (int_cmp a.0.1 b.0.1))
    (int_cmp a.1 b.1)

-- The set has the points before, which are so many different ones, and these are left of the whole.
pub record IsCounted (whole left : List Place) (seen : BTreeSet PointKey) (n : ℕ) : Type 0 where
  pub before : List Place
  pub parts : before ++ left ≡ whole
  pub counted : n ≡ different before
  pub holds : (p : Place) → contains key_cmp seen (key_of p) ≡ is_member is_same_point before p
