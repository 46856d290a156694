-- Counts of corners inside, while corners go.
use Rattle.std.proofs.Common.{◌≡◌, ℕ, zero, suc, ◌+◌, ◌-◌, ◌<◌, inl, inr, List, [], ◌∷◌, ◌++◌}
use Rattle.std.proofs.Common.{length, slice_index_or, refl, sym, ap, ◌∙◌, subst, arith}
use Rattle.std.specs.List.{remove}
use Rattle.std.proofs.lemmas.Bool.{cases_eq, cases_lt}
use Rattle.std.proofs.lemmas.List.{get_or_append_left, length_push, get_or_push}
use Rattle.std.proofs.lemmas.List.Edits.{length-remove, get_or-remove_below, get_or-remove_above}
use Rattle.pm_base.specs.Counts.{one_if}
use Rattle.pm_ears.specs.declared.spots.Spot.{Spot}
use Rattle.pm_ears.specs.declared.spots.Triangle.{Triangle}
use Rattle.pm_ears.specs.Areas.{lies_in, inside_of, nowhere, triangle_at}
use Rattle.pm_ears.specs.Ears.{without}
use Rattle.pm_ears.specs.Counted.{AreCounted}

pub none_counted : (left : List Spot) → AreCounted left 0 []
none_counted left = record { long = refl; each = λ i l. absurd (omega (arith, l)) }

pub counted_more : (left : List Spot) (n : ℕ) (inside more : List ℕ) (x : ℕ)
    → AreCounted left n inside → x ≡ inside_of (triangle_at left n) left
    → more ≡ inside ++ x ∷ [] → AreCounted left (n + 1) more
counted_more left n inside more x h is put = rw put (record {
  long = length_push inside x ∙ ap (λ k. k + 1) h.long;
  each = λ i l.
      elim (cases_eq i n) [
        | inl e ↦ get_or_push inside x 0 i (h.long ∙ sym e) ∙ is
            ∙ ap (λ k. inside_of (triangle_at left k) left) (sym e)
        | inr e ↦ (let low : i < n =
            omega (arith, l, e) in
            get_or_append_left inside (x ∷ []) 0 i (subst (λ k. i < k) (sym h.long) low)
            ∙ h.each i low)
      ];
})

-- A corner that goes is counted no more.
pub gone_counted : (t : Triangle) (left : List Spot) (j : ℕ) (p : Spot) → j < length left
    → p ≡ slice_index_or left j p
    → inside_of t left ≡ inside_of t (remove left j) + one_if (lies_in t p)
unfolding inside_of
gone_counted t [] j p l is = absurd (omega (arith, l))
gone_counted t (q ∷ left) zero p l is =
    let e = ap (λ s. one_if (lies_in t s)) is in omega (arith, e)
gone_counted t (q ∷ left) (suc j) p l is =
    let rest = gone_counted t left j p (omega (arith, l)) is in omega (arith, rest)

-- The triangles before the one that comes off, but for its neighbour, and those after it, stay.
triangle_before : (left : List Spot) (at i : ℕ) → at + 2 < length left → i + 1 < at
    → triangle_at (without left at) i ≡ triangle_at left i
triangle_before left at i l m =
    let a = get_or-remove_below left (at + 1) nowhere i (omega (arith, m)) (omega (arith, l)) in
    let b = get_or-remove_below left (at + 1) nowhere (i + 1) (omega (arith, m)) (omega
    (arith, l)) in
    let c = get_or-remove_below left (at + 1) nowhere (i + 2) (omega (arith, m)) (omega
    (arith, l)) in
    rw (a, b, c) refl

triangle_after : (left : List Spot) (at i : ℕ) → at + 2 < length left → at < i
    → triangle_at (without left at) i ≡ triangle_at left (i + 1)
triangle_after left at i l m =
    let a = get_or-remove_above left (at + 1) nowhere i (omega (arith, m)) (omega (arith, l)) in
    let b = get_or-remove_above left (at + 1) nowhere (i + 1) (omega (arith, m)) (omega
    (arith, l)) in
    let c = get_or-remove_above left (at + 1) nowhere (i + 2) (omega (arith, m)) (omega
    (arith, l)) in
    let last : i + 2 + 1 ≡ i + 1 + 2 = omega arith in
    rw (a, b, c, last) refl

-- So their counts are as they were, before the corner that went is counted no more.
pub kept_counts : (left : List Spot) (inside : List ℕ) (at i : ℕ) (gone : Spot)
    → at + 2 < length left → AreCounted left (length left - 2) inside
    → gone ≡ slice_index_or left (at + 1) gone → i + 2 < length (without left at) → (i + 1 ≡ at → ⊥)
    → (i ≡ at → ⊥)
    → slice_index_or (remove inside at) i 0
    ≡ inside_of (triangle_at (without left at) i) (without left at) + one_if
    (lies_in (triangle_at (without left at) i) gone)
kept_counts left inside at i gone l h is k not_before not_here =
    let fewer = length-remove left (at + 1) (omega (arith, l)) in
    let long = h.long in
    let less : (t : Triangle)
    → inside_of t left ≡ inside_of t (without left at) + one_if (lies_in t gone) =
    λ t. gone_counted t left (at + 1) gone (omega (arith, l)) is in
    elim (cases_lt i at) [
      | inl m ↦
          let apart : i + 1 < at = omega (arith, m, not_before) in
          let same = triangle_before left at i l apart in
          get_or-remove_below inside at 0 i m (omega (arith, long, l))
          ∙ h.each i (omega (arith, l, m))
          ∙ less (triangle_at left i)
          ∙ ap (λ t. inside_of t (without left at) + one_if (lies_in t gone)) (sym same)
      | inr m ↦
          let apart : at < i = omega (arith, m, not_here) in
          let same = triangle_after left at i l apart in
          get_or-remove_above inside at 0 i (omega (arith, apart)) (omega (arith, long, l))
          ∙ h.each (i + 1) (omega (arith, k, fewer))
          ∙ less (triangle_at left (i + 1))
          ∙ ap (λ t. inside_of t (without left at) + one_if (lies_in t gone)) (sym same)
    ]
