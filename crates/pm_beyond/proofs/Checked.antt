-- Tests of a whole hierarchy of a few records that show that it is valid, by computing.
use Rattle.std.proofs.Common.{◌≡◌, ℕ, zero, suc, ◌*◌, ◌<◌, eqb, Bool, true, cond, ◌&&◌, Some, ◌∙◌}
use Rattle.pm_base.specs.Sides.{NoSideTwice}
use Rattle.pm_forest.specs.Forest.{Hierarchy, record_count}
use Rattle.pm_forest.specs.Fronts.{below}
use Rattle.pm_forest.specs.Faces.{face_count, from_leaf, to_leaf, record_of}
use Rattle.pm_forest.specs.Rules.{HasShape}
use Rattle.pm_beyond.specs.Walks.{leaf_net, beyond_of, expected}
use Rattle.pm_beyond.specs.Valid.{IsValid}
use Rattle.pm_beyond.specs.Moves.{same_side}

-- All numbers below n pass.
abbrev pub all_below : (ℕ → Bool) → ℕ → Bool
all_below p zero = true
all_below p (suc n) = p n && all_below p n

-- No other side runs where side e runs.
abbrev pub alone : Hierarchy → ℕ → Bool
alone h e = all_below
    (λ g. cond (eqb (from_leaf h e) (from_leaf h g) && eqb (to_leaf h e) (to_leaf h g)) (eqb e g)
    true) (3 * face_count h)

abbrev pub no_side_twice : Hierarchy → Bool
no_side_twice h = all_below (alone h) (3 * face_count h)

-- What record k tells of side e is so.
abbrev pub told_at : Hierarchy → ℕ → ℕ → Bool
told_at h k e =
    cond (same_side (record_of h e) (Some k))
    (same_side (beyond_of h (below (suc k)) e) (expected h e)) true

abbrev pub all_told : Hierarchy → Bool
all_told h = all_below (λ k. all_below (told_at h k) (3 * face_count h)) (record_count h)
