-- A plane in range, and its value at a place as it is computed.
use Rattle.std.proofs.Common.{arith, ◌≡◌, ◌^◌, ◌≤◌, true, w32, w64, to_z, of_z, refl, ◌∙◌, lit<}
use Rattle.std.proofs.lemmas.Grind.{common_steps}
use Rattle.std.proofs.lemmas.Bool.{and_parts, leb-true}
use Rattle.std.specs.Prelude.{ℤ, ◌+ℤ◌, ◌*ℤ◌, unsigned_abs}
use Rattle.pm_view.specs.declared.limits.TheConstants.{GREATEST_NORMAL_COMPONENT, GREATEST_OFFSET}
use Rattle.pm_view.specs.declared.plane.Plane.{Plane}
use Rattle.pm_view.specs.Views.{is_plane}
use Rattle.pm_base.proofs.ReadBack.{read_is}

-- The numbers of a plane that passes the tests.
pub record IsSmallPlane (f : Plane) : Type 0 where
  pub a : unsigned_abs f.a ≤ GREATEST_NORMAL_COMPONENT
  pub b : unsigned_abs f.b ≤ GREATEST_NORMAL_COMPONENT
  pub c : unsigned_abs f.c ≤ GREATEST_NORMAL_COMPONENT
  pub d : unsigned_abs f.d ≤ GREATEST_OFFSET

pub small_plane : (f : Plane) → is_plane f ≡ true → IsSmallPlane f
small_plane f e = grind (arith, common_steps, and_parts, leb-true)

pub term_is : (r a x y : ℤ) → r ≡ to_z w32 (of_z w32 a) *ℤ to_z w32 (of_z w32 y) → y ≡ x
    → unsigned_abs a ≤ 32767 → unsigned_abs x ≤ 32767 → r ≡ a *ℤ x
term_is r a x y e is p q =
    e ∙ rw (is, read_is w32 a 32767 p (lit< tt), read_is w32 x 32767 q (lit< tt)) refl

pub sum_is : (r p q s d p' q' s' : ℤ)
    → r ≡ to_z w64 (of_z w64 p) +ℤ to_z w64 (of_z w64 q) +ℤ to_z w64 (of_z w64 s)
    +ℤ to_z w64 (of_z w64 d)
    → unsigned_abs p ≤ 2 ^ 31 → unsigned_abs q ≤ 2 ^ 31 → unsigned_abs s ≤ 2 ^ 31
    → unsigned_abs d ≤ 2 ^ 42 → unsigned_abs r ≤ 2 ^ 43 → p ≡ p' → q ≡ q' → s ≡ s'
    → to_z w64 (of_z w64 r) ≡ p' +ℤ q' +ℤ s' +ℤ d
sum_is r p q s d p' q' s' e sp sq ss sd sr ep eq es = grind (arith, common_steps, read_is)
