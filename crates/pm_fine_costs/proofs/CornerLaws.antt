-- The planes at a corner by places alone are those of the policy.
use Rattle.std.proofs.Common.{◌≡◌, ℕ, cond, Option, Some, None, [], ◌∷◌, ◌++◌, refl}
use Rattle.std.proofs.Common.{ap, ◌∙◌}
use Rattle.std.specs.Prelude.{is_some, is_none}
use Rattle.std.specs.Option.{option_map}
use Rattle.pm_base.specs.Place.{Place}
use Rattle.pm_base.specs.Geometry.{Direction, cross_of}
use Rattle.pm_base.specs.Sides.{Net, next, prev, to, third, twin_of}
use Rattle.pm_base.proofs.Sides.{next-next-next}
use Rattle.pm_quadric.specs.Planes.{plane_through}
use Rattle.pm_runs.specs.Surfaces.{Surface, place_at, net_of_surface}
use Rattle.pm_fine.specs.Normals.{border_normal_of}
use Rattle.pm_fine_costs.specs.FinePolicy.{border_planes, corner_planes, face_plane}
use Rattle.pm_fine_costs.specs.CornerPlanes.{corner_of, normals_of, weighed, some_plane}
use Rattle.pm_fine_costs.specs.CornerPlanes.{planes_with}

abbrev if_none : Option ℕ → Direction → Option Direction
if_none t n = cond (is_none t) (Some n) None

weighed_plane :
    (w : Direction → Direction) (t : Option ℕ) (n : Direction) (p : Place) →
    cond (is_some t) [] (plane_through (w n) p ∷ []) ≡ some_plane (option_map w (if_none t n)) p
weighed_plane w None n p = refl
weighed_plane w (Some k) n p = refl

module _ (s : Surface) (e : ℕ) where
  abbrev m : Net
  m = net_of_surface s

  abbrev v : ℕ
  v = m.from e

  -- The normal on the side before, whose ends are the third corner and e's own.
  abbrev normal_before : ℕ → Direction
  normal_before x =
      let a = place_at s (third m e) in
      border_normal_of a (place_at s (m.from x)) (cross_of a (place_at s (m.from x))
      (place_at s (m.from (next x))))

  before_is : (w : Direction → Direction) → border_planes w s v (prev e) ≡
      cond (is_some (twin_of m (prev e))) [] (plane_through (w (normal_before e)) (place_at s v)
      ∷ [])
  before_is w =
      ap (λ (x : ℕ). cond (is_some (twin_of m (prev e))) []
      (plane_through (w (normal_before x)) (place_at s v) ∷ [])) (next-next-next e)

  abbrev normal_after : Direction
  normal_after =
      border_normal_of (place_at s v) (place_at s (to m e))
      (cross_of (place_at s v) (place_at s (to m e)) (place_at s (third m e)))

  pub planes_weighed :
      (w : Direction → Direction) →
      corner_planes w s v e ≡
      planes_with (weighed w (normals_of (corner_of s e))) (place_at s v)
  planes_weighed w =
      let first = weighed_plane w (twin_of m e) normal_after (place_at s v) in
      let last = before_is w
      ∙ weighed_plane w (twin_of m (prev e)) (normal_before e) (place_at s v) in
      λ i. face_plane w s e ∷ (first i) ++ (last i)
