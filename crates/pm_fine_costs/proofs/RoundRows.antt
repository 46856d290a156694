-- The rows worked by hand. Roots are those that their squares tell.
use Rattle.std.proofs.Common.{◌≡◌, ℕ, ◌*◌, [], ◌∷◌, sym, ap, ◌∙◌, arith}
use Rattle.std.specs.Prelude.{ℤ, pos, neg_ℤ}
use Rattle.pm_base.specs.Geometry.{Direction}
use Rattle.pm_base.specs.Sides.{stands, next, twin_of}
use Rattle.pm_quadric.specs.Planes.{plane_through}
use Rattle.pm_runs.specs.Surfaces.{surface_of}
use Rattle.pm_fine.specs.Normals.{area_normal_of, border_normal_of, halved, doubled, scaled}
use Rattle.pm_fine.specs.Normals.{product_of, way_of}
use Rattle.pm_fine.specs.Rounded.{root}
use Rattle.pm_fine.proofs.RootLaws.{root_only}
use Rattle.pm_fine_costs.specs.FinePolicy.{planes_round}
use Rattle.pm_fine_costs.specs.Rows.{at, plane, triangle, tetrahedron}

-- 16 long, so 2 ^ 12 times the root of that is 2 ^ 14, and 2 ^ 12 times that is 2 ^ 16.
twice_rooted : root (root 72057594037927936) ≡ 16384
twice_rooted =
    ap root (sym (root_only 72057594037927936 268435456 (omega arith) (omega arith)))
    ∙ sym (root_only 268435456 16384 (omega arith) (omega arith))

once_rooted : root 4294967296 ≡ 65536
once_rooted = sym (root_only 4294967296 65536 (omega arith) (omega arith))

abbrev direction : ℤ → ℤ → ℤ → Direction
direction x y z = record { x = x; y = y; z = z }

abbrev up : Direction
up = direction (pos 0) (pos 0) (pos 16)

area_up : area_normal_of up ≡ direction (pos 0) (pos 0) (pos 256)
unfolding area_normal_of
area_up = ap (λ (r : ℕ). scaled (pos 262144) r up) twice_rooted

area_down : area_normal_of (direction (pos 0) (pos 0) (neg_ℤ (pos 16))) ≡ direction (pos 0)
    (pos 0) (neg_ℤ (pos 256))
unfolding area_normal_of
area_down = ap (λ (r : ℕ). scaled (pos 262144) r (direction (pos 0) (pos 0) (neg_ℤ (pos 16))))
    twice_rooted

area_front : area_normal_of (direction (pos 0) (neg_ℤ (pos 16)) (pos 0)) ≡ direction (pos 0)
    (neg_ℤ (pos 256)) (pos 0)
unfolding area_normal_of
area_front = ap (λ (r : ℕ). scaled (pos 262144) r (direction (pos 0) (neg_ℤ (pos 16)) (pos 0)))
    twice_rooted

area_left : area_normal_of (direction (neg_ℤ (pos 16)) (pos 0) (pos 0)) ≡ direction
    (neg_ℤ (pos 256)) (pos 0) (pos 0)
unfolding area_normal_of
area_left = ap (λ (r : ℕ). scaled (pos 262144) r (direction (neg_ℤ (pos 16)) (pos 0) (pos 0)))
    twice_rooted

border_front : border_normal_of (at 0 0 0) (at 4 0 0) up ≡ direction (pos 0) (neg_ℤ (pos 1408))
    (pos 0)
unfolding border_normal_of
border_front = ap (λ (r : ℕ). scaled (pos 2883584) (2 * r)
    (product_of (way_of (at 0 0 0) (at 4 0 0)) up)) once_rooted

border_left : border_normal_of (at 0 4 0) (at 0 0 0) up ≡ direction (neg_ℤ (pos 1408)) (pos 0)
    (pos 0)
unfolding border_normal_of
border_left = ap (λ (r : ℕ). scaled (pos 2883584) (2 * r)
    (product_of (way_of (at 0 4 0) (at 0 0 0)) up)) once_rooted

pub border_row :
    planes_round halved (surface_of triangle) 0 ≡
    plane (pos 0) (pos 0) (pos 128) ∷ plane (pos 0) (neg_ℤ (pos 704)) (pos 0) ∷
    plane (neg_ℤ (pos 704)) (pos 0) (pos 0) ∷ []
unfolding planes_round stands next twin_of
border_row = λ i. plane_through (halved (area_up i)) (at 0 0 0) ∷ plane_through
    (halved (border_front i)) (at 0 0 0) ∷ plane_through (halved (border_left i)) (at 0 0 0) ∷ []

pub inner_row :
    planes_round doubled (surface_of tetrahedron) 0 ≡
    plane (pos 0) (pos 0) (neg_ℤ (pos 512)) ∷ plane (pos 0) (neg_ℤ (pos 512)) (pos 0) ∷
    plane (neg_ℤ (pos 512)) (pos 0) (pos 0) ∷ []
unfolding planes_round stands next twin_of
inner_row = λ i. plane_through (doubled (area_down i)) (at 0 0 0) ∷ plane_through
    (doubled (area_front i)) (at 0 0 0) ∷ plane_through (doubled (area_left i)) (at 0 0 0) ∷ []
