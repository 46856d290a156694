-- The sides that can run from a vertex of a grid.
use Rattle.std.proofs.Common.{◌≡◌, ℕ, ◌+◌, ◌-◌, ◌<◌, ◌≤◌, sym, ◌∙◌, arith}
use Rattle.pm_base.specs.Sides.{next}

-- The first sides of the lower and the upper face of a cell are told by its row and column.
module _ (n : ℕ) (lo hi : ℕ → ℕ → ℕ) where
  -- The six sides round a vertex, as far as the grid goes; each leads to the vertex to which the
  -- next one runs.
  pub data Around (R C v e x y : ℕ) : Type 0 where
    east : R < n → C < n → e ≡ lo R C → x ≡ v + 1 → y ≡ v + (n + 1) + 1 → Around R C v e x y
    north : R < n → C < n → e ≡ hi R C → x ≡ v + (n + 1) + 1 → y ≡ v + (n + 1) → Around R C v e x y
    north_west : R < n → 1 ≤ C → e ≡ next (lo R (C - 1)) → x ≡ v + (n + 1) → y + 1 ≡ v
        → Around R C v e x y
    west : 1 ≤ R → 1 ≤ C → e ≡ next (hi (R - 1) (C - 1)) → x + 1 ≡ v → y + (n + 1) + 1 ≡ v
        → Around R C v e x y
    south : 1 ≤ R → 1 ≤ C → e ≡ next (next (lo (R - 1) (C - 1))) → x + (n + 1) + 1 ≡ v
        → y + (n + 1) ≡ v → Around R C v e x y
    south_east : 1 ≤ R → C < n → e ≡ next (next (hi (R - 1) C)) → x + (n + 1) ≡ v → y ≡ v + 1
        → Around R C v e x y

  -- Of the six no two run to one vertex.
  pub same_end : (R C v e g x y z : ℕ) → Around R C v e x y → Around R C v g x z → e ≡ g
  same_end R C v e g x y z (east a b s p q) (east c d t i j) = s ∙ sym t
  same_end R C v e g x y z (east a b s p q) (north c d t i j) = absurd (omega arith)
  same_end R C v e g x y z (east a b s p q) (north_west c d t i j) = absurd (omega arith)
  same_end R C v e g x y z (east a b s p q) (west c d t i j) = absurd (omega arith)
  same_end R C v e g x y z (east a b s p q) (south c d t i j) = absurd (omega arith)
  same_end R C v e g x y z (east a b s p q) (south_east c d t i j) = absurd (omega arith)
  same_end R C v e g x y z (north a b s p q) (east c d t i j) = absurd (omega arith)
  same_end R C v e g x y z (north a b s p q) (north c d t i j) = s ∙ sym t
  same_end R C v e g x y z (north a b s p q) (north_west c d t i j) = absurd (omega arith)
  same_end R C v e g x y z (north a b s p q) (west c d t i j) = absurd (omega arith)
  same_end R C v e g x y z (north a b s p q) (south c d t i j) = absurd (omega arith)
  same_end R C v e g x y z (north a b s p q) (south_east c d t i j) = absurd (omega arith)
  same_end R C v e g x y z (north_west a b s p q) (east c d t i j) = absurd (omega arith)
  same_end R C v e g x y z (north_west a b s p q) (north c d t i j) = absurd (omega arith)
  same_end R C v e g x y z (north_west a b s p q) (north_west c d t i j) = s ∙ sym t
  same_end R C v e g x y z (north_west a b s p q) (west c d t i j) = absurd (omega arith)
  same_end R C v e g x y z (north_west a b s p q) (south c d t i j) = absurd (omega arith)
  same_end R C v e g x y z (north_west a b s p q) (south_east c d t i j) = absurd (omega arith)
  same_end R C v e g x y z (west a b s p q) (east c d t i j) = absurd (omega arith)
  same_end R C v e g x y z (west a b s p q) (north c d t i j) = absurd (omega arith)
  same_end R C v e g x y z (west a b s p q) (north_west c d t i j) = absurd (omega arith)
  same_end R C v e g x y z (west a b s p q) (west c d t i j) = s ∙ sym t
  same_end R C v e g x y z (west a b s p q) (south c d t i j) = absurd (omega arith)
  same_end R C v e g x y z (west a b s p q) (south_east c d t i j) = absurd (omega arith)
  same_end R C v e g x y z (south a b s p q) (east c d t i j) = absurd (omega arith)
  same_end R C v e g x y z (south a b s p q) (north c d t i j) = absurd (omega arith)
  same_end R C v e g x y z (south a b s p q) (north_west c d t i j) = absurd (omega arith)
  same_end R C v e g x y z (south a b s p q) (west c d t i j) = absurd (omega arith)
  same_end R C v e g x y z (south a b s p q) (south c d t i j) = s ∙ sym t
  same_end R C v e g x y z (south a b s p q) (south_east c d t i j) = absurd (omega arith)
  same_end R C v e g x y z (south_east a b s p q) (east c d t i j) = absurd (omega arith)
  same_end R C v e g x y z (south_east a b s p q) (north c d t i j) = absurd (omega arith)
  same_end R C v e g x y z (south_east a b s p q) (north_west c d t i j) = absurd (omega arith)
  same_end R C v e g x y z (south_east a b s p q) (west c d t i j) = absurd (omega arith)
  same_end R C v e g x y z (south_east a b s p q) (south c d t i j) = absurd (omega arith)
  same_end R C v e g x y z (south_east a b s p q) (south_east c d t i j) = s ∙ sym t

module _ (n : ℕ) (some : 1 ≤ n) (lo hi : ℕ → ℕ → ℕ) where
  -- No two of them have the same two other corners.
  pub no_turn : (R C v e g x y : ℕ) → Around n lo hi R C v e x y → Around n lo hi R C v g y x → ⊥
  no_turn R C v e g x y (east a b s p q) (east c d t i j) = omega arith
  no_turn R C v e g x y (east a b s p q) (north c d t i j) = omega arith
  no_turn R C v e g x y (east a b s p q) (north_west c d t i j) = omega arith
  no_turn R C v e g x y (east a b s p q) (west c d t i j) = omega arith
  no_turn R C v e g x y (east a b s p q) (south c d t i j) = omega arith
  no_turn R C v e g x y (east a b s p q) (south_east c d t i j) = omega arith
  no_turn R C v e g x y (north a b s p q) (east c d t i j) = omega arith
  no_turn R C v e g x y (north a b s p q) (north c d t i j) = omega arith
  no_turn R C v e g x y (north a b s p q) (north_west c d t i j) = omega arith
  no_turn R C v e g x y (north a b s p q) (west c d t i j) = omega arith
  no_turn R C v e g x y (north a b s p q) (south c d t i j) = omega arith
  no_turn R C v e g x y (north a b s p q) (south_east c d t i j) = omega arith
  no_turn R C v e g x y (north_west a b s p q) (east c d t i j) = omega arith
  no_turn R C v e g x y (north_west a b s p q) (north c d t i j) = omega arith
  no_turn R C v e g x y (north_west a b s p q) (north_west c d t i j) = omega arith
  no_turn R C v e g x y (north_west a b s p q) (west c d t i j) = omega arith
  no_turn R C v e g x y (north_west a b s p q) (south c d t i j) = omega arith
  no_turn R C v e g x y (north_west a b s p q) (south_east c d t i j) = omega arith
  no_turn R C v e g x y (west a b s p q) (east c d t i j) = omega arith
  no_turn R C v e g x y (west a b s p q) (north c d t i j) = omega arith
  no_turn R C v e g x y (west a b s p q) (north_west c d t i j) = omega arith
  no_turn R C v e g x y (west a b s p q) (west c d t i j) = omega arith
  no_turn R C v e g x y (west a b s p q) (south c d t i j) = omega arith
  no_turn R C v e g x y (west a b s p q) (south_east c d t i j) = omega arith
  no_turn R C v e g x y (south a b s p q) (east c d t i j) = omega arith
  no_turn R C v e g x y (south a b s p q) (north c d t i j) = omega arith
  no_turn R C v e g x y (south a b s p q) (north_west c d t i j) = omega arith
  no_turn R C v e g x y (south a b s p q) (west c d t i j) = omega arith
  no_turn R C v e g x y (south a b s p q) (south c d t i j) = omega arith
  no_turn R C v e g x y (south a b s p q) (south_east c d t i j) = omega arith
  no_turn R C v e g x y (south_east a b s p q) (east c d t i j) = omega arith
  no_turn R C v e g x y (south_east a b s p q) (north c d t i j) = omega arith
  no_turn R C v e g x y (south_east a b s p q) (north_west c d t i j) = omega arith
  no_turn R C v e g x y (south_east a b s p q) (west c d t i j) = omega arith
  no_turn R C v e g x y (south_east a b s p q) (south c d t i j) = omega arith
  no_turn R C v e g x y (south_east a b s p q) (south_east c d t i j) = omega arith
