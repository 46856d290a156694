-- The greatest of a list is at least each of its numbers, and a box of normals has each of them in
-- it.
use Rattle.std.proofs.Common.{◌≡◌, ℕ, zero, suc, ◌<◌, ◌≤◌, Bool, true, List, [], ◌∷◌, length}
use Rattle.std.proofs.lemmas.Grind.{common_steps}
use Rattle.std.proofs.Common.{get_or, map, Option, None, Some, inl, inr, refl, ap, arith}
use Rattle.std.specs.Prelude.{ℤ, ◌≤ℤ◌}
use Rattle.std.specs.Int.{int_min, int_max}
use Rattle.std.specs.List.{filter}
use Rattle.std.proofs.lemmas.Int.{clamps}
use Rattle.std.proofs.lemmas.Bool.{cases_Bool}
use borrow.Author.Differences.{ints}
use Rattle.pm_base.specs.Geometry.{Direction}
use Rattle.pm_bounds.specs.declared.normal_box.NormalBox.{NormalBox}
use Rattle.pm_bounds.specs.Boxes.{box_at, joined, join, box_of}
use Rattle.pm_bounds.specs.Bounds.{greatest}
use Rattle.pm_bounds.specs.Laws.{IsIn}

pub greatest_above : {X : Type 0} (g : X → ℕ) (p : X → Bool) (xs : List X) (i : ℕ) (d : X)
    → i < length xs → p (get_or xs i d) ≡ true → g (get_or xs i d) ≤ greatest (map g (filter p xs))
greatest_above g p [] i d l e = absurd (omega arith)
greatest_above g p (x ∷ xs) zero d l e = rw e (omega arith)
greatest_above g p (x ∷ xs) (suc i) d l e = grind (arith, common_steps, greatest_above g p xs i d)

-- There is a box, and the normal is in it.
abbrev pub IsInSome : Direction → Option NormalBox → Type 0
IsInSome n b = (a : NormalBox) × (b ≡ Some a) × IsIn n a

pub min_left : (x y z : ℤ) → x ≤ℤ z → int_min x y ≤ℤ z
min_left x y z h = omega (arith, ints, clamps)

pub min_right : (x y z : ℤ) → y ≤ℤ z → int_min x y ≤ℤ z
min_right x y z h = omega (arith, ints, clamps)

pub max_left : (x y z : ℤ) → z ≤ℤ x → z ≤ℤ int_max x y
max_left x y z h = omega (arith, ints, clamps)

pub max_right : (x y z : ℤ) → z ≤ℤ y → z ≤ℤ int_max x y
max_right x y z h = omega (arith, ints, clamps)

pub same_z : (x : ℤ) → x ≤ℤ x
same_z x = omega (arith, ints)

pub ≤ℤ_by : (x y z : ℤ) → x ≤ℤ y → y ≤ℤ z → x ≤ℤ z
≤ℤ_by x y z p q = omega (arith, ints)

in_left : (n : Direction) (a b : NormalBox) → IsIn n a → IsIn n (joined a b)
in_left n a b i = grind (arith, common_steps, max_left, min_left)

in_right : (n : Direction) (a b : NormalBox) → IsIn n b → IsIn n (joined a b)
in_right n a b i = grind (arith, common_steps, max_right, min_right)

in_own : (n : Direction) → IsIn n (box_at n)
in_own n = grind (arith, common_steps, same_z)

in_first : (n : Direction) (b : Option NormalBox) → IsInSome n (join (Some (box_at n)) b)
in_first n None = (box_at n, refl, in_own n)
in_first n (Some b) = (joined (box_at n) b, refl, in_left n (box_at n) b (in_own n))

in_rest : (n m : Direction) (b : Option NormalBox) → IsInSome n b
    → IsInSome n (join (Some (box_at m)) b)
in_rest n m b (a, is, i) =
    (joined (box_at m) a, ap (join (Some (box_at m))) is, in_right n (box_at m) a i)

pub box_above : {X : Type 0} (g : X → Direction) (p : X → Bool) (xs : List X) (i : ℕ) (d : X)
    → i < length xs → p (get_or xs i d) ≡ true
    → IsInSome (g (get_or xs i d)) (box_of (map g (filter p xs)))
box_above g p [] i d l e = absurd (omega arith)
box_above g p (x ∷ xs) zero d l e = rw e (in_first (g x) (box_of (map g (filter p xs))))
box_above g p (x ∷ xs) (suc i) d l e =
    let rest = box_above g p xs i d (omega arith) e in
    elim (cases_Bool (p x)) [
      | inl t ↦ (rw t (in_rest (g (get_or xs i d)) (g x) (box_of (map g (filter p xs))) rest))
      | inr t ↦ (rw t rest)
    ]
