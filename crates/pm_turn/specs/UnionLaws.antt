-- The laws of joining mates, each as a statement.
use Rattle.std.specs.Prelude.{◌≡◌, ℕ, ◌+◌, ◌<◌, ◌≤◌, Bool, not}
use Rattle.pm_base.specs.Sides.{Net, face_of, side_count}
use Rattle.pm_turn.specs.Turning.{AreMates, clash, flipped_if, AreTraced}
use Rattle.pm_turn.specs.Unions.{Elders, Up, AreElders, under, marked, all_own}

-- What is done at a side, by what is found above it and its mate.
abbrev pub EldersGrow : Type 0
EldersGrow = (m : Net) (n k : ℕ) (t : Elders) → AreElders m n t → AreMates m n k
    → (r s : ℕ) (p q : Bool) → Up t (face_of n) r p → Up t (face_of k) s q
    → (r ≡ s → q ≡ flipped_if (clash m n k) p → AreElders m (n + 1) t)
    × (r ≡ s → q ≡ not (flipped_if (clash m n k) p) → AreElders m (n + 1) (marked t r))
    × (r < s → AreElders m (n + 1) (under t r s (flipped_if p (flipped_if (clash m n k) q))))
    × (s < r → AreElders m (n + 1) (under t s r (flipped_if q (flipped_if (clash m n k) p))))

abbrev pub EldersBegin : Type 0
EldersBegin = (m : Net) → AreElders m 0 all_own

abbrev pub MatelessSidesPass : Type 0
MatelessSidesPass = (m : Net) (n : ℕ) (t : Elders) → AreElders m n t
    → ((k : ℕ) → AreMates m n k → ⊥) → AreElders m (n + 1) t

abbrev pub EldersAreTraced : Type 0
EldersAreTraced = (m : Net) (t : Elders) (root : ℕ → ℕ) (parity : ℕ → Bool)
    → AreElders m (side_count m) t → ((f : ℕ) → f < m.faces → Up t f (root f) (parity f))
    → ((f : ℕ) → root f ≤ f) → AreTraced m root parity t.odd
