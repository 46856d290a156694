-- The sums over the faces of some corners don't depend on the order of the corners.
use Rattle.std.proofs.Common.{◌≡◌, ℕ, Bool, true, false, eqb, List, [], ◌∷◌, ◌++◌, length}
use Rattle.std.proofs.Common.{inl, inr, refl, sym, ap, ◌∙◌, subst, arith}
use Rattle.std.proofs.lemmas.Grind.{common_steps}
use borrow.Author.Differences.{ints}
use Rattle.std.specs.Prelude.{ℤ, pos, ◌+ℤ◌}
use Rattle.std.specs.List.{filter}
use Rattle.std.proofs.lemmas.Bool.{cases_Bool, or_cases, eqb-true, ne_eqb, false≢true}
use Rattle.pm_links.specs.Lists.{has, IsOnce, list_without}
use Rattle.pm_links.proofs.Members.{has_head}
use Rattle.pm_links.proofs.Without.{without_none, has-without, has-without_same, once-without}
use Rattle.pm_fine_costs.specs.declared.face_sum.FaceSum.{FaceSum}
use Rattle.pm_fine_costs.specs.Volumes.{no_faces, plus_faces, total_of}

assoc_ℤ : (x y z : ℤ) → x +ℤ y +ℤ z ≡ x +ℤ (y +ℤ z)
assoc_ℤ x y z = omega (arith, ints)

comm_ℤ : (x y : ℤ) → x +ℤ y ≡ y +ℤ x
comm_ℤ x y = omega (arith, ints)

right_ℤ : (x : ℤ) → x +ℤ pos 0 ≡ x
right_ℤ x = omega (arith, ints)

left_ℤ : (x : ℤ) → pos 0 +ℤ x ≡ x
left_ℤ x = omega (arith, ints)

pub faces-assoc :
    (a b c : FaceSum) → plus_faces (plus_faces a b) c ≡ plus_faces a (plus_faces b c)
faces-assoc a b c =
    rw (
      assoc_ℤ a.x b.x c.x,
      assoc_ℤ a.y b.y c.y,
      assoc_ℤ a.z b.z c.z,
      assoc_ℤ a.volume b.volume c.volume,
    ) refl

pub faces-zero : (a : FaceSum) → plus_faces a no_faces ≡ a
faces-zero a = rw (right_ℤ a.x, right_ℤ a.y, right_ℤ a.z, right_ℤ a.volume) refl

pub zero-faces : (a : FaceSum) → plus_faces no_faces a ≡ a
zero-faces a = rw (left_ℤ a.x, left_ℤ a.y, left_ℤ a.z, left_ℤ a.volume) refl

faces-comm : (a b : FaceSum) → plus_faces a b ≡ plus_faces b a
faces-comm a b =
    rw (comm_ℤ a.x b.x, comm_ℤ a.y b.y, comm_ℤ a.z b.z, comm_ℤ a.volume b.volume) refl

faces-swap :
    (a b c : FaceSum) → plus_faces a (plus_faces b c) ≡ plus_faces b (plus_faces a c)
faces-swap a b c =
    sym (faces-assoc a b c) ∙ ap (λ (s : FaceSum). plus_faces s c) (faces-comm a b)
    ∙ faces-assoc b a c

module _ (f : ℕ → FaceSum) where
  pub total-append :
      (xs ys : List ℕ) → total_of f (xs ++ ys) ≡ plus_faces (total_of f xs) (total_of f ys)
  total-append [] ys = sym (zero-faces (total_of f ys))
  total-append (x ∷ xs) ys =
      ap (plus_faces (f x)) (total-append xs ys)
      ∙ sym (faces-assoc (f x) (total_of f xs) (total_of f ys))

  taken_out :
      (x : ℕ) (ys : List ℕ) → IsOnce ys → has ys x ≡ true →
      total_of f ys ≡ plus_faces (f x) (total_of f (list_without x ys))
  taken_out x [] once h = absurd (false≢true h)
  taken_out x (y ∷ ys) once h =
      elim (cases_Bool (eqb y x)) [
        | inl t ↦
            let same : y ≡ x = eqb-true y x t in
            let none : list_without x ys ≡ ys =
            without_none x ys (subst (λ k. has ys k ≡ false) same once.0) in
            rw t (ap (λ k. plus_faces (f k) (total_of f ys)) same
            ∙ ap (λ (l : List ℕ). plus_faces (f x) (total_of f l)) (sym none))
        | inr t ↦
            let there : has ys x ≡ true =
            elim (or_cases (eqb y x) (has ys x) h) [
              | inl u ↦ absurd (false≢true (sym t ∙ u))
              | inr u ↦ u
            ] in
            rw t (ap (plus_faces (f y)) (taken_out x ys once.1 there)
            ∙ faces-swap (f y) (f x) (total_of f (list_without x ys)))
      ]

  -- Lists with the same members, each once, have the same sums.
  pub same_sum :
      (xs ys : List ℕ) → IsOnce xs → IsOnce ys → ((e : ℕ) → has xs e ≡ has ys e) →
      total_of f xs ≡ total_of f ys
  same_sum [] [] once_x once_y same = refl
  same_sum [] (y ∷ ys) once_x once_y same = absurd (false≢true (same y ∙ has_head y ys))
  same_sum (x ∷ xs) ys once_x once_y same =
      let rest : List ℕ = list_without x ys in
      let left : (e : ℕ) → has xs e ≡ has rest e =
      grind (arith, common_steps, has-without, has-without_same, ne_eqb) in
      ap (plus_faces (f x)) (same_sum xs rest once_x.1 (once-without x ys once_y) left)
      ∙ sym (taken_out x ys once_y (sym (same x) ∙ has_head x xs))

pub total-same :
    (f g : ℕ → FaceSum) → ((e : ℕ) → f e ≡ g e) → (xs : List ℕ) → total_of f xs ≡ total_of g xs
total-same f g same [] = refl
total-same f g same (x ∷ xs) =
    ap (λ (s : FaceSum). plus_faces s (total_of f xs)) (same x)
    ∙ ap (plus_faces (g x)) (total-same f g same xs)

-- They are as long, since that is a sum too.
abbrev one : ℕ → FaceSum
one e = record { x = pos 1; y = pos 0; z = pos 0; volume = pos 0 }

counted : (xs : List ℕ) → (total_of one xs).x ≡ pos (length xs)
counted [] = refl
counted (x ∷ xs) = omega (arith, ints, counted xs)

pub same_length :
    (xs ys : List ℕ) → IsOnce xs → IsOnce ys → ((e : ℕ) → has xs e ≡ has ys e) →
    length xs ≡ length ys
same_length xs ys once_x once_y same =
    let all = ap (λ (f : FaceSum). f.x) (same_sum one xs ys once_x once_y same) in
    omega (arith, ints, counted xs, counted ys, all)

-- Faces that are left out add nothing.
pub total-filter :
    (f g : ℕ → FaceSum) (q : ℕ → Bool) → ((e : ℕ) → q e ≡ true → g e ≡ f e) →
    ((e : ℕ) → q e ≡ false → g e ≡ no_faces) → (xs : List ℕ) →
    total_of f (filter q xs) ≡ total_of g xs
total-filter f g q take leave [] = refl
total-filter f g q take leave (x ∷ xs) =
    let rest = total-filter f g q take leave xs in
    elim (cases_Bool (q x)) [
      | inl t ↦
          rw t (ap (plus_faces (f x)) rest
          ∙ ap (λ (s : FaceSum). plus_faces s (total_of g xs)) (sym (take x t)))
      | inr t ↦
          rw t (rest ∙ sym (zero-faces (total_of g xs))
          ∙ ap (λ (s : FaceSum). plus_faces s (total_of g xs)) (sym (leave x t)))
    ]
