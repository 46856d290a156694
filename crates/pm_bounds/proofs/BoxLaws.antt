-- Boxes joined in any order, and any number of times, are one box.
use Rattle.std.proofs.Common.{◌≡◌, ℕ, ◌≤◌, Bool, ◌||◌, List, [], ◌∷◌, ◌++◌, map, Option, None, Some}
use Rattle.std.proofs.Common.{IfSome, inl, inr, refl, sym, ap, ◌∙◌, arith}
use Rattle.std.proofs.lemmas.Grind.{common_steps}
use Rattle.std.specs.Prelude.{ℤ, unsigned_abs}
use Rattle.std.specs.Int.{int_min, int_max}
use Rattle.std.specs.List.{filter}
use Rattle.std.proofs.lemmas.Int.{clamps}
use Rattle.std.proofs.lemmas.Bool.{cases_Bool}
use borrow.Author.Differences.{ints}
use Rattle.pm_base.specs.Geometry.{Direction}
use Rattle.pm_bounds.specs.declared.normal_box.NormalBox.{NormalBox}
use Rattle.pm_bounds.specs.Boxes.{box_at, joined, join, box_of, IsSmallBox}

-- one number

pub min_comm : (x y : ℤ) → int_min x y ≡ int_min y x
min_comm x y = omega (arith, ints, clamps)

pub max_comm : (x y : ℤ) → int_max x y ≡ int_max y x
max_comm x y = omega (arith, ints, clamps)

pub min_assoc : (x y z : ℤ) → int_min (int_min x y) z ≡ int_min x (int_min y z)
min_assoc x y z = omega (arith, ints, clamps)

pub max_assoc : (x y z : ℤ) → int_max (int_max x y) z ≡ int_max x (int_max y z)
max_assoc x y z = omega (arith, ints, clamps)

pub min_same : (x : ℤ) → int_min x x ≡ x
min_same x = omega (arith, ints, clamps)

pub max_same : (x : ℤ) → int_max x x ≡ x
max_same x = omega (arith, ints, clamps)

pub min_small : (x y : ℤ) (m : ℕ) → unsigned_abs x ≤ m → unsigned_abs y ≤ m
    → unsigned_abs (int_min x y) ≤ m
min_small x y m p q = omega (arith, ints, clamps)

pub max_small : (x y : ℤ) (m : ℕ) → unsigned_abs x ≤ m → unsigned_abs y ≤ m
    → unsigned_abs (int_max x y) ≤ m
max_small x y m p q = omega (arith, ints, clamps)

-- two boxes

joined-comm : (a b : NormalBox) → joined a b ≡ joined b a
joined-comm a b = grind (arith, common_steps, max_comm, min_comm)

joined-assoc : (a b c : NormalBox) → joined (joined a b) c ≡ joined a (joined b c)
joined-assoc a b c = grind (arith, common_steps, max_assoc, min_assoc)

joined-same : (a : NormalBox) → joined a a ≡ a
joined-same a = grind (arith, common_steps, max_same, min_same)

joined-small : (a b : NormalBox) → IsSmallBox a → IsSmallBox b → IsSmallBox (joined a b)
joined-small a b p q = search (min_small, max_small)

-- the same where one may be missing

join-comm : (a b : Option NormalBox) → join a b ≡ join b a
join-comm None None = refl
join-comm None (Some b) = refl
join-comm (Some a) None = refl
join-comm (Some a) (Some b) = ap Some (joined-comm a b)

pub join-assoc : (a b c : Option NormalBox) → join (join a b) c ≡ join a (join b c)
join-assoc None b c = refl
join-assoc (Some a) None c = refl
join-assoc (Some a) (Some b) None = refl
join-assoc (Some a) (Some b) (Some c) = ap Some (joined-assoc a b c)

join-same : (a : Option NormalBox) → join a a ≡ a
join-same None = refl
join-same (Some a) = ap Some (joined-same a)

-- taking a box in twice is taking it in once
pub join-twice : (a b : Option NormalBox) → join (join a b) b ≡ join a b
join-twice a b = join-assoc a b b ∙ ap (join a) (join-same b)

pub join-small : (a b : Option NormalBox) → IfSome a IsSmallBox → IfSome b IsSmallBox
    → IfSome (join a b) IsSmallBox
join-small None b p q = q
join-small (Some a) None p q = p
join-small (Some a) (Some b) p q = joined-small a b p q

-- Lists

-- one normal more, put last
pub box_of-more : (ns : List Direction) (n : Direction)
    → box_of (ns ++ n ∷ []) ≡ join (box_of ns) (Some (box_at n))
box_of-more [] n = refl
box_of-more (m ∷ ns) n =
    ap (join (Some (box_at m))) (box_of-more ns n)
    ∙ sym (join-assoc (Some (box_at m)) (box_of ns) (Some (box_at n)))

-- a box taken into both of two
both : (n a b : Option NormalBox) → join n (join a b) ≡ join (join n a) (join n b)
both n a b =
    let turn : join a (join n b) ≡ join n (join a b) =
    sym (join-assoc a n b) ∙ ap (λ t. join t b) (join-comm a n) ∙ join-assoc n a b in
    sym (join-assoc n a (join n b) ∙ ap (join n) turn ∙ sym (join-assoc n n (join a b))
    ∙ ap (λ t. join t (join a b)) (join-same n))

right : (n a b : Option NormalBox) → join n (join a b) ≡ join a (join n b)
right n a b = sym (join-assoc n a b) ∙ ap (λ t. join t b) (join-comm n a) ∙ join-assoc a n b

module _ {X : Type 0} (f : X → Direction) (p q : X → Bool) where
  either : X → Bool
  either x = p x || q x

  -- the box of what passes one of two tests, or both
  pub box_of-either : (xs : List X) → box_of (map f (filter (λ x. p x || q x) xs))
      ≡ join (box_of (map f (filter p xs))) (box_of (map f (filter q xs)))
  box_of-either [] = refl
  box_of-either (x ∷ xs) =
      let rest = box_of-either xs in
      let n = Some (box_at (f x)) in
      let a = box_of (map f (filter p xs)) in
      let b = box_of (map f (filter q xs)) in
      elim (cases_Bool (p x)) [
        | inl e ↦ elim (cases_Bool (q x)) [
          | inl g ↦ (rw (e, g) (ap (join n) rest ∙ both n a b))
          | inr g ↦ (rw (e, g) (ap (join n) rest ∙ sym (join-assoc n a b)))
        ]
        | inr e ↦ elim (cases_Bool (q x)) [
          | inl g ↦ (rw (e, g) (ap (join n) rest ∙ right n a b))
          | inr g ↦ (rw (e, g) rest)
        ]
      ]
