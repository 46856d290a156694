-- The fields that spell a ray. They are separated by exactly one space.
use Rattle.std.specs.Prelude.{ℕ, List, [], ◌∷◌, Option, Some, None, if◌then◌else◌}
use Rattle.std.specs.Option.{option_and_then}
use Rattle.pm_base.specs.Place.{Place}
use Rattle.pm_view.specs.declared.limits.TheConstants.{GREATEST_EYE_COORDINATE}
use Rattle.pm_view.specs.Fields.{spaced_fields, signed_of}
use Rattle.pm_pick.specs.declared.limits.TheConstants.{GREATEST_WAY_COMPONENT}
use Rattle.pm_pick.specs.Rays.{Ray, is_ray}

-- The three numbers that three fields spell, each at most `most` away from 0.
unfoldable pub three_of : ℕ → List ℕ → List ℕ → List ℕ → Option Place
three_of most x y z =
    option_and_then
    (λ a. option_and_then (λ b. option_and_then (λ c. Some (record { x = a; y = b; z = c }))
    (signed_of most z)) (signed_of most y)) (signed_of most x)

-- The ray from o whose way has the numbers of d, if it is one.
unfoldable pub ray_from : Place → Place → Option Ray
ray_from o d =
    let r : Ray = record { origin = o; way = record { x = d.x; y = d.y; z = d.z } } in
    if is_ray r then Some r else None

-- The ray that six fields spell: the numbers of its origin, and those of its way.
unfoldable pub ray_in : List (List ℕ) → Option Ray
ray_in (x ∷ y ∷ z ∷ a ∷ b ∷ c ∷ []) =
    option_and_then
    (λ o. option_and_then (λ d. ray_from o d) (three_of GREATEST_WAY_COMPONENT a b c))
    (three_of GREATEST_EYE_COORDINATE x y z)
ray_in _ = None

-- The ray that a text spells.
abbrev pub ray_of : List ℕ → Option Ray
ray_of text = ray_in (spaced_fields text)
