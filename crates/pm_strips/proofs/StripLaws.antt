-- Strips are decoded to their triangles, and they go on for as long as they can.
use Rattle.std.proofs.Common.{◌≡◌, ℕ, zero, suc, ◌<◌, ◌≤◌, Bool, true, false, cond, ◌∷◌, map}
use Rattle.std.proofs.lemmas.Grind.{common_steps}
use Rattle.std.proofs.Common.{Option, Some, None, inl, inr, refl, ap, ◌∙◌, arith}
use Rattle.std.proofs.lemmas.Bool.{cond-true, cond-false}
use Rattle.std.proofs.lemmas.Option.{none-some, same_Some}
use Rattle.pm_base.specs.Counts.{count}
use Rattle.pm_base.specs.Sides.{face_of, next}
use Rattle.pm_base.proofs.Counts.{count_le, count-true, count-false, count_more}
use Rattle.pm_base.proofs.Search.{option_cases}
use Rattle.pm_base.proofs.Sides.{next-next-next}
use Rattle.pm_forest.specs.Fronts.{without}
use Rattle.pm_forest.proofs.OneStep.{without-parts, without-from}
use Rattle.pm_strips.specs.Strips.{if_free, free_beyond, entered}
use Rattle.pm_strips.specs.Strips.{strip_from, decoded, listed_nodes, corners_from}
use Rattle.pm_strips.specs.Laws.{CarriesEnds, StripGoesOn, StripsGoOn}

pub free_is : (free : ℕ → Bool) (o : Option ℕ) (g : ℕ) → if_free free o ≡ Some g
    → (o ≡ Some g) × (free (face_of g) ≡ true)
free_is free None g e = absurd (none-some g e)
free_is free (Some x) g e = grind (arith, common_steps, cond-false, cond-true, none-some, same_Some)

-- Where the exit's ends stand in the list: they are the last two nodes, in their order where the
-- next triangle is odd.
abbrev IsExit : (ℕ → ℕ) → Bool → ℕ → ℕ → ℕ → Type 0
IsExit node is_odd exit p q = (node exit ≡ cond is_odd p q) × (node (next exit) ≡ cond is_odd q p)

further : (beyond : ℕ → Option ℕ) (node : ℕ → ℕ) → CarriesEnds beyond node
    → (n : ℕ) (free : ℕ → Bool) (is_odd : Bool) (exit p q : ℕ) → IsExit node is_odd exit p q
    → decoded is_odd (p ∷ q ∷ map (λ g. node (next (next g))) (entered beyond n free is_odd exit))
    ≡ map (corners_from node) (entered beyond n free is_odd exit)
further beyond node carries zero free is_odd exit p q ends = refl
further beyond node carries (suc n) free true exit p q ends =
    elim (option_cases (free_beyond beyond free exit)) [
      | inl none ↦ (rw none refl)
      | inr (g, some) ↦
          let back = carries exit g (free_is free (beyond exit) g some).0 in
          let from : node g ≡ q = back.0 ∙ ends.1 in
          let to : node (next g) ≡ p = back.1 ∙ ends.0 in
          let rest = further beyond node carries n (without free (face_of g)) false (next (next g))
          q (node (next (next g))) (refl, ap node (next-next-next g) ∙ from) in
          rw some (rw (from, to)
          (ap (λ ts. record { a = q; b = p; c = node (next (next g)) } ∷ ts) rest))
    ]
further beyond node carries (suc n) free false exit p q ends =
    elim (option_cases (free_beyond beyond free exit)) [
      | inl none ↦ (rw none refl)
      | inr (g, some) ↦
          let back = carries exit g (free_is free (beyond exit) g some).0 in
          let from : node g ≡ p = back.0 ∙ ends.1 in
          let to : node (next g) ≡ q = back.1 ∙ ends.0 in
          let rest = further beyond node carries n (without free (face_of g)) true (next g) q
          (node (next (next g))) (to, refl) in
          rw some (rw (from, to)
          (ap (λ ts. record { a = p; b = q; c = node (next (next g)) } ∷ ts) rest))
    ]

pub strip_decoded : (beyond : ℕ → Option ℕ) (node : ℕ → ℕ) → CarriesEnds beyond node
    → (n : ℕ) (free : ℕ → Bool) (f : ℕ)
    → decoded false (listed_nodes node (strip_from beyond n free f))
    ≡ map (corners_from node) (strip_from beyond n free f)
strip_decoded beyond node carries n free f = grind (arith, common_steps, further)

-- Taking a free face leaves one less.
fewer : (free : ℕ → Bool) (f n : ℕ) → f < n → free f ≡ true
    → suc (count (without free f) n) ≤ count free n
fewer free f zero l is = absurd (omega arith)
fewer free f (suc n) l is =
    grind (
      arith,
      common_steps,
      count-false,
      count-true,
      count_more,
      without-from,
      without-parts,
      fewer free f n,
    )

-- As many turns as there are free faces are enough.
enough : (beyond : ℕ → Option ℕ) (m n : ℕ) (free : ℕ → Bool) (is_odd : Bool) (exit : ℕ)
    → ((f : ℕ) → free f ≡ true → f < m) → count free m ≤ n
    → StripGoesOn beyond free is_odd exit (entered beyond n free is_odd exit)
enough beyond m zero free is_odd exit within few =
    elim (option_cases (free_beyond beyond free exit)) [
      | inl none ↦ none
      | inr (g, some) ↦
          let is = (free_is free (beyond exit) g some).1 in
          let less = fewer free (face_of g) m (within (face_of g) is) is in
          absurd (omega arith)
    ]
enough beyond m (suc n) free is_odd exit within few =
    grind (arith, common_steps, fewer, free_is, option_cases, without-parts, enough beyond m n)

pub strips_go_on : StripsGoOn
strips_go_on beyond m free is_odd exit within =
    enough beyond m m free is_odd exit within (count_le free m)
