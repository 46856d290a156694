-- What the tests of a node rest on: how the bounds of a child and of its parent hang together, and
-- the corners of the faces under a node.
use Rattle.std.specs.Prelude.{◌≡◌, ℕ, ◌+◌, ◌*◌, ◌≤◌, ◌⊎◌, List, ℤ, pos, ◌+ℤ◌, ◌-ℤ◌, ◌<ℤ◌}
use Rattle.std.specs.List.{Contains}
use Rattle.pm_base.specs.Place.{Place}
use Rattle.pm_base.specs.Geometry.{Direction, dot_of, dist2_of}
use Rattle.pm_bounds.specs.Laws.{IsIn, IsNested}
use Rattle.pm_view.specs.declared.plane.Plane.{Plane}
use Rattle.pm_view.specs.Views.{View}
use Rattle.pm_view.specs.Wanted.{Bounded, size_of, value_at, least_product, greatest_product}
use Rattle.pm_view.specs.Laws.{way}

-- Some d is at least the distance of a child and its parent, and error and radius grow by it;
-- deviations don't fall, the child's box lies in the parent's, and both are seen from as many
-- sides.
pub record IsChild (child parent : Bounded) : Type 0 where
  pub d : ℕ
  pub near : dist2_of parent.place child.place ≤ d * d
  pub error : child.error + d ≤ parent.error
  pub deviation : child.deviation ≤ parent.deviation
  pub radius : child.radius + d ≤ parent.radius
  pub nested : IsNested child.box parent.box
  pub two_sided : child.two_sided ≡ parent.two_sided

-- q is within the radius, and n in the box.
pub record IsCorner (b : Bounded) (n : Direction) (q : Place) : Type 0 where
  pub near : dist2_of b.place q ≤ b.radius * b.radius
  pub boxed : IsIn n b.box

-- The reasons of the laws, over all that the bounds allow.
abbrev pub IsBehindOne : List Plane → Bounded → Type 0
IsBehindOne fs b =
    (f : Plane) × Contains fs f
    × ((n : Direction) (q : Place) → IsCorner b n q → value_at f q <ℤ pos 0)

abbrev pub FacesAway : Bounded → Place → Type 0
FacesAway b eye = (n : Direction) (q : Place) → IsCorner b n q → pos 0 <ℤ dot_of n (way q eye)

abbrev pub FacesTo : Bounded → Place → Type 0
FacesTo b eye = (n : Direction) (q : Place) → IsCorner b n q → dot_of n (way q eye) <ℤ pos 0

-- The size by which the view judges the node looks no larger than a tolerance by way of any corner.
abbrev pub LooksWithin : Bounded → View → ℕ → Type 0
LooksWithin b v tol =
    (n : Direction) (q : Place) → IsCorner b n q
    → (size_of v.measure b * v.focal) * (size_of v.measure b * v.focal) ≤ tol * tol * dist2_of q
    v.eye

abbrev pub LooksTiny : Bounded → View → Type 0
LooksTiny b v = LooksWithin b v v.tol × (LooksWithin b v v.sil ⊎ FacesTo b v.eye)

abbrev pub least_on_axis : ℤ → ℤ → ℤ → ℕ → ℤ → ℤ
least_on_axis low high at radius eye =
    least_product low high (at -ℤ pos radius -ℤ eye) (at +ℤ pos radius -ℤ eye)

abbrev pub greatest_on_axis : ℤ → ℤ → ℤ → ℕ → ℤ → ℤ
greatest_on_axis low high at radius eye =
    greatest_product low high (at -ℤ pos radius -ℤ eye) (at +ℤ pos radius -ℤ eye)
