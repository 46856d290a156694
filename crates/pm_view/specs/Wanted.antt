-- The three tests by which a view wants a node (Hoppe 1997), in whole numbers.
use Rattle.std.specs.Prelude.{◌≡◌, true, false, ℕ, ◌+◌, ◌*◌, Bool, ◌&&◌, ◌||◌, not, nat_lt, List}
use Rattle.std.specs.Prelude.{ℤ, pos, ◌+ℤ◌, ◌-ℤ◌, ◌*ℤ◌, int_lt, int_le, unsigned_abs}
use Rattle.std.specs.Int.{int_min, int_max}
use Rattle.std.specs.List.{list_any}
use Rattle.pm_base.specs.Place.{Place}
use Rattle.pm_base.specs.Geometry.{Direction, square_of, dist2_of, norm2_of}
use Rattle.pm_forest.specs.Forest.{Hierarchy}
use Rattle.pm_forest.specs.Places.{place_of_node}
use Rattle.pm_bounds.specs.declared.normal_box.NormalBox.{NormalBox}
use Rattle.pm_bounds.specs.Bounds.{error_of, radius_of, normal_box_of, box_round}
use Rattle.pm_deviation.specs.Borders.{has_border}
use Rattle.pm_deviation.specs.Deviations.{deviation_of, Measures, AreMeasuresOf, has_deviations}
use Rattle.pm_view.specs.declared.measure.Measure.{Measure}
use Rattle.pm_view.specs.declared.measure.Measure.TheVariants as measures
use Rattle.pm_view.specs.declared.plane.Plane.{Plane}
use Rattle.pm_view.specs.Views.{View}

-- A node as the tests see it: its place, its bounds, and whether both sides of the mesh are seen,
-- since it has a border.
pub record Bounded : Type 0 where
  pub place : Place
  pub error : ℕ
  pub deviation : ℕ
  pub radius : ℕ
  pub box : NormalBox
  pub two_sided : Bool

abbrev pub bounded : Hierarchy → ℕ → Bounded
bounded h v = record {
  place = place_of_node h v;
  error = error_of h v;
  deviation = deviation_of h v;
  radius = radius_of h v;
  box = normal_box_of h v;
  two_sided = has_border h;
}

-- The number of a node by which a view judges it.
abbrev pub size_of : Measure → Bounded → ℕ
size_of measures.Error b = b.error
size_of measures.Deviation b = b.deviation

-- A view by deviations sees both sides of faces where the mesh has a border.
abbrev pub sees_both : Measure → Bounded → Bool
sees_both measures.Error b = false
sees_both measures.Deviation b = b.two_sided

-- The value of a plane at a place, and its normal, which isn't made unit.
abbrev pub value_at : Plane → Place → ℤ
value_at f p = f.a *ℤ p.x +ℤ f.b *ℤ p.y +ℤ f.c *ℤ p.z +ℤ f.d

abbrev pub normal_in : Plane → Direction
normal_in f = record { x = f.a; y = f.b; z = f.c }

-- The whole ball round p with radius r lies on the negative side of the plane: the value m at p is
-- below 0, and m m is above r r times the squared length of the normal.
abbrev pub is_outside : Plane → Place → ℕ → Bool
is_outside f p r =
    int_lt (value_at f p) (pos 0) && nat_lt (r * r * norm2_of (normal_in f))
    (square_of (unsigned_abs (value_at f p)))

abbrev pub is_outside_any : List Plane → Place → ℕ → Bool
is_outside_any fs p r = list_any (λ f. is_outside f p r) fs

-- The least of the four products of an end of one interval, a to b, and an end of another, c to d.
abbrev pub least_product : ℤ → ℤ → ℤ → ℤ → ℤ
least_product a b c d = int_min (int_min (a *ℤ c) (a *ℤ d)) (int_min (b *ℤ c) (b *ℤ d))

-- The sum over the axes of the least products of the normal box and the point box, seen from the
-- eye. Where it is above 0 every face under the node is turned away from the eye.
unfoldable pub least_facing : Bounded → Place → ℤ
least_facing b eye =
    let points = box_round b.place b.radius in
    least_product b.box.low.x b.box.high.x (points.low.x -ℤ eye.x) (points.high.x -ℤ eye.x)
    +ℤ least_product b.box.low.y b.box.high.y (points.low.y -ℤ eye.y) (points.high.y -ℤ eye.y)
    +ℤ least_product b.box.low.z b.box.high.z (points.low.z -ℤ eye.z) (points.high.z -ℤ eye.z)

-- The greatest of the same four products.
abbrev pub greatest_product : ℤ → ℤ → ℤ → ℤ → ℤ
greatest_product a b c d = int_max (int_max (a *ℤ c) (a *ℤ d)) (int_max (b *ℤ c) (b *ℤ d))

-- The sum over the axes of the greatest products. Where it is below 0 every face under the node is
-- turned to the eye; where it isn't, and the least sum isn't above 0, the outline may run through
-- the node.
unfoldable pub greatest_facing : Bounded → Place → ℤ
greatest_facing b eye =
    let points = box_round b.place b.radius in
    greatest_product b.box.low.x b.box.high.x (points.low.x -ℤ eye.x) (points.high.x -ℤ eye.x)
    +ℤ greatest_product b.box.low.y b.box.high.y (points.low.y -ℤ eye.y) (points.high.y -ℤ eye.y)
    +ℤ greatest_product b.box.low.z b.box.high.z (points.low.z -ℤ eye.z) (points.high.z -ℤ eye.z)

-- A size at a place, in a ball of radius r, looks larger than a tolerance: (size focal + tol r)
-- squared is above tol tol D, where D is the squared distance from the eye.
unfoldable pub looks_larger : ℕ → Place → ℕ → View → ℕ → Bool
looks_larger size p r v tol =
    nat_lt (tol * tol * dist2_of p v.eye) (square_of (size * v.focal + tol * r))

-- The node's error, or its deviation where the view judges by that, looks larger than a tolerance.
abbrev pub looks_large : Bounded → View → ℕ → Bool
looks_large b v tol = looks_larger (size_of v.measure b) b.place b.radius v tol

-- Not every face under the node need be turned to the eye.
abbrev pub may_turn_away : Bounded → Place → Bool
may_turn_away b eye = int_le (pos 0) (greatest_facing b eye)

-- The node looks larger than the tolerance; or it may lie on the outline, and looks larger than the
-- tolerance for outlines.
unfoldable pub is_large : Bounded → View → Bool
is_large b v = looks_large b v v.tol || (may_turn_away b v.eye && looks_large b v v.sil)

-- Both sides of the node's faces are seen, or one of them may be turned to the eye.
abbrev pub may_be_seen : Bounded → View → Bool
may_be_seen b v = sees_both v.measure b || int_le (least_facing b v.eye) (pos 0)

abbrev pub passes : Bounded → View → Bool
passes b v =
    not (is_outside_any v.planes b.place b.radius) && may_be_seen b v && is_large b v

-- The view wants node v of h.
abbrev pub is_wanted : Hierarchy → View → ℕ → Bool
is_wanted h view v = passes (bounded h v) view

-- These measures of h serve the view: where it judges by deviations, they are there.
pub record Serves (h : Hierarchy) (view : View) (m : Measures) : Type 0 where
  pub are : AreMeasuresOf h m
  pub enough : view.measure ≡ measures.Deviation → has_deviations m ≡ true
