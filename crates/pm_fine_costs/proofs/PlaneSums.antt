-- The sums of the planes at some numbers don't depend on the order of the numbers.
use Rattle.std.proofs.Common.{◌≡◌, ℕ, ◌+◌, true, List, [], ◌∷◌}
use Rattle.std.proofs.lemmas.Grind.{common_steps}
use Rattle.std.proofs.Common.{refl}
use Rattle.std.proofs.Common.{sym, ap, ◌∙◌, arith, add_assoc, zero-add}
use Rattle.std.proofs.Math.IntN.{+ℤ_assoc, +ℤ_idl, +ℤ_idr}
use borrow.Author.Differences.{ints}
use Rattle.std.specs.Prelude.{ℤ, ◌+ℤ◌}
use Rattle.std.specs.List.{flat_map}
use Rattle.std.proofs.lemmas.Bool.{eqb-true}
use Rattle.std.proofs.lemmas.Bool.{ne_eqb, false≢true}
use Rattle.pm_links.specs.Lists.{has, IsOnce, list_without}
use Rattle.pm_links.proofs.Members.{has_head}
use Rattle.pm_links.proofs.Without.{without_none, has-without, has-without_same, once-without}
use Rattle.pm_quadric.specs.Planes.{Plane}
use Rattle.pm_quadric.specs.Sums.{Sums, plus_sums, zero_sums, sums_of}
use Rattle.pm_quadric.proofs.Expansion.{sums-append}

pub plus-assoc : (a b c : Sums) → plus_sums (plus_sums a b) c ≡ plus_sums a (plus_sums b c)
plus-assoc a b c = simp (+ℤ_assoc, add_assoc)

zero_ℕ : (n : ℕ) → n + 0 ≡ n
zero_ℕ n = omega arith

pub plus-zero : (a : Sums) → plus_sums a zero_sums ≡ a
plus-zero a = grind (arith, common_steps, +ℤ_idr, zero_ℕ)

pub zero-plus : (a : Sums) → plus_sums zero_sums a ≡ a
zero-plus a = simp (+ℤ_idl, zero-add)

comm_ℤ : (x y : ℤ) → x +ℤ y ≡ y +ℤ x
comm_ℤ x y = omega (arith, ints)

comm_ℕ : (x y : ℕ) → x + y ≡ y + x
comm_ℕ x y = omega arith

plus-comm : (a b : Sums) → plus_sums a b ≡ plus_sums b a
plus-comm a b = grind (arith, common_steps, comm_ℕ, comm_ℤ)

plus-swap : (a b c : Sums) → plus_sums a (plus_sums b c) ≡ plus_sums b (plus_sums a c)
plus-swap a b c =
    sym (plus-assoc a b c) ∙ ap (λ (s : Sums). plus_sums s c) (plus-comm a b) ∙ plus-assoc b a c

-- Two sums of two, each with the like of the other.
pub plus-paired :
    (a b c d : Sums) →
    plus_sums (plus_sums a b) (plus_sums c d) ≡ plus_sums (plus_sums a c) (plus_sums b d)
plus-paired a b c d =
    plus-assoc a b (plus_sums c d) ∙ ap (plus_sums a) (plus-swap b c d)
    ∙ sym (plus-assoc a c (plus_sums b d))

module _ (f : ℕ → List Plane) where
  abbrev pub total : List ℕ → Sums
  total xs = sums_of (flat_map f xs)

  pub total-cons :
      (x : ℕ) (xs : List ℕ) → total (x ∷ xs) ≡ plus_sums (sums_of (f x)) (total xs)
  total-cons x xs = sums-append (f x) (flat_map f xs)

  taken_out :
      (x : ℕ) (ys : List ℕ) → IsOnce ys → has ys x ≡ true →
      total ys ≡ plus_sums (sums_of (f x)) (total (list_without x ys))
  taken_out x [] once h = absurd (false≢true h)
  taken_out x (y ∷ ys) once h =
      grind (
        arith,
        common_steps,
        eqb-true,
        plus-swap,
        total-cons,
        without_none,
        taken_out x ys once.1,
      )

  -- Lists with the same members, each once, have the same sums.
  pub same_total :
      (xs ys : List ℕ) → IsOnce xs → IsOnce ys → ((e : ℕ) → has xs e ≡ has ys e) →
      total xs ≡ total ys
  same_total [] [] once_x once_y same = refl
  same_total [] (y ∷ ys) once_x once_y same =
      absurd (false≢true (same y ∙ has_head y ys))
  same_total (x ∷ xs) ys once_x once_y same =
      let rest : List ℕ = list_without x ys in
      let left : (e : ℕ) → has xs e ≡ has rest e =
      grind (arith, common_steps, has-without, has-without_same, ne_eqb) in
      total-cons x xs
      ∙ ap (plus_sums (sums_of (f x))) (same_total xs rest once_x.1 (once-without x ys once_y) left)
      ∙ sym (taken_out x ys once_y (sym (same x) ∙ has_head x xs))
