-- Faces that name three vertices.
use Rattle.std.proofs.Common.{◌≡◌, ℕ, ◌≤◌, not, inl, inr, ap, refl, List, [], ◌∷◌, length}
use Rattle.std.proofs.lemmas.Grind.{common_steps}
use Rattle.std.proofs.Common.{arith}
use Rattle.std.specs.List.{All, filter}
use Rattle.std.proofs.lemmas.Bool.{cases_Bool, cond-true, cond-false, ne_eqb}
use Rattle.std.proofs.lemmas.List.Elements.{All-nil, All-cons, All-head, All-tail}
use Rattle.pm_base.specs.declared.mesh.Corners.{Corners}
use Rattle.pm_base.specs.Meshes.{IsFace}
use Rattle.pm_base.specs.Sides.{net_of}
use Rattle.pm_base.specs.Fans.{IsOrientedManifold}
use Rattle.pm_fans.specs.Kept.{is_flat, kept_of}
use Rattle.pm_fans.specs.Splits.{AllStand}
use Rattle.pm_fans.proofs.Staying.{manifolds_stay}
use Rattle.obj_prepare.specs.Named.{AreVerticesBelow, IsWithinMesh, of_three}
use Rattle.obj_prepare.proofs.KeptCounts.{kept_and_flat}

pub three_few : (fs : List Corners) → length (of_three fs) ≤ length fs
three_few [] = omega arith
three_few (f ∷ fs) = grind (arith, common_steps, cond-false, cond-true, three_few fs)

pub three_all : (P : Corners → Type 0) (fs : List Corners) → All P fs → All P (of_three fs)
three_all P [] all = All-nil P
three_all P (f ∷ fs) all =
    let rest = three_all P fs (All-tail P f fs all) in
    elim (cases_Bool (not (is_flat f))) [
      | inl t ↦ rw t (All-cons P f (of_three fs) (All-head P f fs all) rest)
      | inr n ↦ rw n rest
    ]

pub three_within : (n : ℕ) (fs : List Corners) → IsWithinMesh n fs → IsWithinMesh n (of_three fs)
three_within n fs within =
    grind (arith, common_steps, three_all (AreVerticesBelow n) fs within.corners, three_few fs)

-- Where no face names a vertex twice these are all.

none_twice : (fs : List Corners) → length (filter is_flat fs) ≡ 0 → of_three fs ≡ fs
none_twice [] none = refl
none_twice (f ∷ fs) none = grind (arith, common_steps, cond-false, cond-true, none_twice fs)

pub three_of_manifold : (fs : List Corners) → AllStand (net_of fs)
    → IsOrientedManifold (net_of fs) → of_three fs ≡ fs
unfolding kept_of
three_of_manifold fs stand is = none_twice fs
    (omega (arith, kept_and_flat [] fs, ap length (manifolds_stay fs stand is)))

pub three_of_mesh : (n : ℕ) (fs : List Corners) → All (IsFace n) fs → of_three fs ≡ fs
three_of_mesh n [] all = refl
three_of_mesh n (f ∷ fs) all =
    let face = All-head (IsFace n) f fs all in
    rw (ne_eqb f.a f.b face.ab, ne_eqb f.b f.c face.bc, ne_eqb f.c f.a face.ca)
    (ap (λ (l : List Corners). f ∷ l) (three_of_mesh n fs (All-tail (IsFace n) f fs all)))
