-- The rows of the table of what records need.
use Rattle.std.proofs.Common.{◌≡◌, ℕ, ◌+◌, ◌<◌, List, [], ◌∷◌, ◌++◌, length, get_or, Option, inl}
use Rattle.std.proofs.lemmas.Grind.{common_steps}
use Rattle.std.proofs.Common.{inr, refl, sym, subst, arith}
use Rattle.std.proofs.Math.ListN.{get_or-append}
use Rattle.std.proofs.Math.Seq.{get_or-append_seam}
use Rattle.std.specs.List.{All}
use Rattle.std.proofs.lemmas.Bool.{cases_lt}
use Rattle.std.proofs.lemmas.List.Elements.{All-cons, All-nil}
use Rattle.pm_forest.specs.Forest.{Hierarchy}
use Rattle.pm_candidates.specs.Needed.{AreNeedsOf}

-- The items of a list of five, read one by one, are the list.
pub five_are : {X : Type 0} (xs : List X) (a b c x y d e f g h : X) → length xs ≡ 5
    → a ≡ get_or xs 0 d → b ≡ get_or xs 1 e → c ≡ get_or xs 2 f → x ≡ get_or xs 3 g
    → y ≡ get_or xs 4 h →
    a ∷ b ∷ c ∷ x ∷ y ∷ [] ≡ xs
five_are [] a b c x y d e f g h five is_a is_b is_c is_x is_y = absurd (omega arith)
five_are (p ∷ []) a b c x y d e f g h five is_a is_b is_c is_x is_y = absurd (omega arith)
five_are (p ∷ q ∷ []) a b c x y d e f g h five is_a is_b is_c is_x is_y = absurd (omega arith)
five_are (p ∷ q ∷ r ∷ []) a b c x y d e f g h five is_a is_b is_c is_x is_y = absurd (omega arith)
five_are (p ∷ q ∷ r ∷ s ∷ []) a b c x y d e f g h five is_a is_b is_c is_x is_y =
    absurd (omega arith)
five_are (p ∷ q ∷ r ∷ s ∷ t ∷ []) a b c x y d e f g h five is_a is_b is_c is_x is_y =
    (rw (is_a, is_b, is_c, is_x, is_y) refl)
five_are (p ∷ q ∷ r ∷ s ∷ t ∷ u ∷ xs) a b c x y d e f g h five is_a is_b is_c is_x is_y =
    absurd (omega arith)

-- What holds of each of five holds of the list of them.
pub all_five : {X : Type 0} (P : X → Type 0) (a b c x y : X) → P a → P b → P c → P x → P y
    → All P (a ∷ b ∷ c ∷ x ∷ y ∷ [])
all_five P a b c x y of_a of_b of_c of_x of_y = grind (arith, common_steps, All-cons, All-nil)

-- One more row.
pub row_more : (h : Hierarchy) (rows : List (List (Option ℕ))) (k : ℕ) → length rows ≡ k
    → ((j : ℕ) → j < k → AreNeedsOf h j (get_or rows j [])) → (row : List (Option ℕ))
    → AreNeedsOf h k row →
    (j : ℕ) → j < k + 1 → AreNeedsOf h j (get_or (rows ++ row ∷ []) j [])
row_more h rows k len each row is j l =
    elim (cases_lt j k) [
      | inl before ↦
          subst (AreNeedsOf h j) (sym (get_or-append rows (row ∷ []) [] j (omega (arith, len))))
          (each j before)
      | inr last ↦ grind (arith, common_steps, get_or, get_or-append_seam)
    ]
