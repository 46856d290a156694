-- Faces turned one by one, and the numbers from 0.
use Rattle.std.proofs.Common.{◌≡◌, ℕ, ◌+◌, ◌<◌, ◌≤◌, inl, inr, sym, ap, ◌∙◌, subst, Bool, false}
use Rattle.std.proofs.lemmas.Grind.{common_steps}
use Rattle.std.proofs.Common.{List, [], ◌∷◌, ◌++◌, length, drop, slice_index_or, arith}
use Rattle.std.proofs.lemmas.Bool.{cases_eq}
use Rattle.std.proofs.lemmas.List.{append_assoc, append-nil, drop_more, drop_all}
use Rattle.std.proofs.lemmas.List.{get_or_append_left, length-append}
use Rattle.std.proofs.Math.Seq.{get_or-append_seam}
use Rattle.pm_base.specs.declared.mesh.Corners.{Corners}
use Rattle.pm_base.specs.Sides.{no_corners}
use Rattle.pm_turn.specs.Turning.{turned_if, turned_by}

pub turned_more : (flags : List Bool) (fs xs ys all : List Corners) (at : ℕ) (new : Corners)
    → at < length fs → length flags ≡ length fs
    → new ≡ turned_if (slice_index_or flags at false) (slice_index_or fs at no_corners)
    → ys ≡ xs ++ new ∷ []
    → xs ++ turned_by (drop at flags) (drop at fs) ≡ all
    → ys ++ turned_by (drop (at + 1) flags) (drop (at + 1) fs) ≡ all
turned_more flags fs xs ys all at new l long is items left =
    grind (arith, common_steps, append_assoc, drop_more, slice_index_or)

pub turned_all : (flags : List Bool) (fs xs all : List Corners) (at : ℕ) → length fs ≤ at
    → xs ++ turned_by (drop at flags) (drop at fs) ≡ all → xs ≡ all
turned_all flags fs xs all at l left = grind (arith, common_steps, append-nil, drop_all)

pub own_more : (xs ys : List ℕ) (n : ℕ) → length xs ≡ n
    → ((x : ℕ) → x < n → slice_index_or xs x 0 ≡ x) → ys ≡ xs ++ n ∷ []
    → (length ys ≡ n + 1) × ((x : ℕ) → x < n + 1 → slice_index_or ys x 0 ≡ x)
own_more xs ys n long each is = (
  ap length is ∙ length-append xs (n ∷ []) ∙ ap (λ i. i + 1) long,
  λ x l.
      elim (cases_eq x n) [
        | inl same ↦ ap (λ (zs : List ℕ). slice_index_or zs x 0) is
            ∙ ap (λ i. slice_index_or (xs ++ n ∷ []) i 0) (same ∙ sym long)
            ∙ get_or-append_seam xs n [] 0 ∙ sym same
        | inr ne ↦
            let l' : x < n = omega (arith, l, ne) in
            ap (λ (zs : List ℕ). slice_index_or zs x 0) is
            ∙ get_or_append_left xs (n ∷ []) 0 x (subst (λ i. x < i) (sym long) l') ∙ each x l'
      ],
)
