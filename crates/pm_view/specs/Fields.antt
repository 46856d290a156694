-- The fields that spell a view. They are separated by exactly one space.
use Rattle.std.specs.Prelude.{ℕ, zero, suc, ℤ, pos, neg_ℤ, List, [], ◌∷◌, ◌==◌, Option, Some, None}
use Rattle.std.specs.Prelude.{if◌then◌else◌}
use Rattle.std.specs.Option.{option_map, option_and_then}
use Rattle.pm_base.specs.Place.{Place}
use Rattle.pm_io.specs.Digits.{unsigned_of}
use Rattle.pm_view.specs.declared.limits.TheConstants.{GREATEST_EYE_COORDINATE}
use Rattle.pm_view.specs.declared.limits.TheConstants.{GREATEST_FOCAL_LENGTH}
use Rattle.pm_view.specs.declared.limits.TheConstants.{GREATEST_NORMAL_COMPONENT, GREATEST_OFFSET}
use Rattle.pm_view.specs.declared.limits.TheConstants.{GREATEST_TOLERANCE}
use Rattle.pm_view.specs.declared.plane.Plane.{Plane}
use Rattle.pm_view.specs.declared.fields.ViewKind.{ViewKind}
use Rattle.pm_view.specs.declared.fields.ViewKind.TheVariants as kinds
use Rattle.pm_view.specs.declared.measure.Measure.TheVariants as measures
use Rattle.pm_view.specs.Views.{View}
use Rattle.pm_io.specs.Bytes.{onto}
use Rattle.pm_io.specs.Letters.{space, minus_sign}

-- The text cut at each space: n spaces make n + 1 fields, and some of them may be empty.
abbrev pub spaced_fields : List ℕ → List (List ℕ)
spaced_fields [] = [] ∷ []
spaced_fields (b ∷ bs) = if b == space then [] ∷ spaced_fields bs else onto b (spaced_fields bs)

-- A number below 0, by what follows its sign: it isn't `-0`.
abbrev pub negative : ℕ → Option ℤ
negative n = if n == 0 then None else Some (neg_ℤ (pos n))

-- The signed number that a field is, at most `most` away from 0: an unsigned number, or one after a
-- `-` that isn't 0.
unfoldable pub signed_of : ℕ → List ℕ → Option ℤ
signed_of most [] = None
signed_of most (b ∷ bs) = if b == minus_sign then option_and_then negative (unsigned_of most bs)
    else option_map pos (unsigned_of most (b ∷ bs))

-- The eye that three fields spell.
unfoldable pub eye_of : List ℕ → List ℕ → List ℕ → Option Place
eye_of x y z =
    option_and_then
    (λ ex. option_and_then
    (λ ey. option_and_then (λ ez. Some (record { x = ex; y = ey; z = ez }))
    (signed_of GREATEST_EYE_COORDINATE z)) (signed_of GREATEST_EYE_COORDINATE y))
    (signed_of GREATEST_EYE_COORDINATE x)

-- The plane that four fields spell.
unfoldable pub plane_read : List ℕ → List ℕ → List ℕ → List ℕ → Option Plane
plane_read a b c d =
    option_and_then
    (λ fa. option_and_then
    (λ fb. option_and_then
    (λ fc. option_and_then (λ fd. Some (record { a = fa; b = fb; c = fc; d = fd }))
    (signed_of GREATEST_OFFSET d)) (signed_of GREATEST_NORMAL_COMPONENT c))
    (signed_of GREATEST_NORMAL_COMPONENT b)) (signed_of GREATEST_NORMAL_COMPONENT a)

-- The plane that the first four fields spell, and the fields after them.
unfoldable pub first_plane : List (List ℕ) → Option (Plane × List (List ℕ))
first_plane (a ∷ b ∷ c ∷ d ∷ rest) = option_map (λ f. (f, rest)) (plane_read a b c d)
first_plane _ = None

-- The planes that groups of four fields spell, n of them at most.
unfoldable pub planes_of : ℕ → List (List ℕ) → Option (List Plane)
planes_of n [] = Some []
planes_of zero (x ∷ xs) = None
planes_of (suc n) (x ∷ xs) = option_and_then (λ p. option_map (λ fs. p.0 ∷ fs) (planes_of n p.1))
    (first_plane (x ∷ xs))

-- The tolerance for outlines and the fields that are left. A plain view has its tolerance for it,
-- and no field; else it is the first field, at most the tolerance.
unfoldable pub first_sil : ViewKind → ℕ → List (List ℕ) → Option (ℕ × List (List ℕ))
first_sil kinds.Plain tol rest = Some (tol, rest)
first_sil kinds.Outline tol [] = None
first_sil kinds.Outline tol (sil ∷ rest) = option_map (λ s. (s, rest)) (unsigned_of tol sil)

-- The view by errors that fields spell: the eye, the focal length, the tolerance, the one for
-- outlines where the view has outlines, and at most six planes.
unfoldable pub view_in : ViewKind → List (List ℕ) → Option View
view_in kind (x ∷ y ∷ z ∷ focal ∷ tol ∷ rest) =
    option_and_then
    (λ eye. option_and_then
    (λ f. option_and_then
    (λ t. option_and_then
    (λ s. option_map (λ planes. record {
      measure = measures.Error;
      eye = eye;
      focal = f;
      tol = t;
      sil = s.0;
      planes = planes;
    })
    (planes_of 6 s.1)) (first_sil kind t rest)) (unsigned_of GREATEST_TOLERANCE tol))
    (unsigned_of GREATEST_FOCAL_LENGTH focal)) (eye_of x y z)
view_in kind _ = None

-- The view that a text spells.
abbrev pub view_of : ViewKind → List ℕ → Option View
view_of kind text = view_in kind (spaced_fields text)

-- The fields after a field that has just been read, where `rest` is empty or begins with the space
-- that ended that field.
abbrev pub fields_after : List ℕ → List (List ℕ)
fields_after [] = []
fields_after (b ∷ bs) = spaced_fields bs
