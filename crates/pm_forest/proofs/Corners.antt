-- The corners of a face in order, and the side of a new face that runs from one child to the other.
use Rattle.std.proofs.Common.{◌≡◌, ℕ, ◌+◌, ◌*◌, ◌<◌, true, false, cond, ◌||◌, ◌⊎◌}
use Rattle.std.proofs.lemmas.Grind.{common_steps}
use Rattle.std.proofs.Common.{inl, inr, arith}
use Rattle.std.proofs.lemmas.Bool.{or_cases, and_parts, not-true}
use Rattle.pm_base.specs.Sides.{face_of, next}
use Rattle.pm_forest.specs.declared.parts.Face.{Face}
use Rattle.pm_forest.specs.Forest.{Hierarchy, leaf_count, interval_of, holds, Holds}
use Rattle.pm_forest.specs.Faces.{corners_of, from_leaf, to_leaf}
use Rattle.pm_forest.specs.Rules.{runs, runs_from}

-- The sides of face f: the corner where each begins, and the side that follows it.

pub corner_a : (h : Hierarchy) (f : ℕ) → (from_leaf h (3 * f) ≡ (corners_of h f).a)
    × (next (3 * f) ≡ 3 * f + 1)
unfolding from_leaf next
corner_a h f = grind (arith, common_steps)

pub corner_b : (h : Hierarchy) (f : ℕ) →
    (from_leaf h (3 * f + 1) ≡ (corners_of h f).b) × (next (3 * f + 1) ≡ 3 * f + 2)
unfolding from_leaf next
corner_b h f = grind (arith, common_steps)

pub corner_c : (h : Hierarchy) (f : ℕ) → (from_leaf h (3 * f + 2) ≡ (corners_of h f).c)
    × (next (3 * f + 2) ≡ 3 * f)
unfolding from_leaf next
corner_c h f = grind (arith, common_steps)

pub which_corner : (e : ℕ)
    → (e ≡ 3 * face_of e) ⊎ ((e ≡ 3 * face_of e + 1) ⊎ (e ≡ 3 * face_of e + 2))
which_corner e = grind (arith, common_steps)

-- The corners of f are leaves, and in cyclic order there is one under p, one under q and one
-- outside s.
pub record CornersFit (h : Hierarchy) (p q s : ℕ) (f : Face) : Type 0 where
  pub a : f.a < leaf_count h
  pub b : f.b < leaf_count h
  pub c : f.c < leaf_count h
  pub runs : runs (interval_of h p) (interval_of h q) (interval_of h s) f ≡ true

-- Leaf x is under p, y under q and z outside s.
abbrev pub AreAlong : Hierarchy → ℕ → ℕ → ℕ → ℕ → ℕ → ℕ → Type 0
AreAlong h p q s x y z = Holds h p x × Holds h q y × (holds h s z ≡ false)

pub along : (h : Hierarchy) (p q s x y z : ℕ) →
    runs_from (interval_of h p) (interval_of h q) (interval_of h s) x y z ≡ true
    → AreAlong h p q s x y z
unfolding holds
along h p q s x y z e = grind (arith, common_steps, and_parts, not-true)

-- in one of the three orders that a face's corners have
pub ways : (h : Hierarchy) (p q s : ℕ) (f : Face)
    → runs (interval_of h p) (interval_of h q) (interval_of h s) f ≡ true →
    AreAlong h p q s f.a f.b f.c ⊎ (AreAlong h p q s f.b f.c f.a ⊎ AreAlong h p q s f.c f.a f.b)
unfolding runs
ways h p q s f e =
    let way = runs_from (interval_of h p) (interval_of h q) (interval_of h s) in
    elim (or_cases (way f.a f.b f.c || way f.b f.c f.a) (way f.c f.a f.b) e) [
      | inl two ↦ elim (or_cases (way f.a f.b f.c) (way f.b f.c f.a) two) [
        | inl one ↦ inl (along h p q s f.a f.b f.c one)
        | inr one ↦ inr (inl (along h p q s f.b f.c f.a one))
      ]
      | inr one ↦ inr (inr (along h p q s f.c f.a f.b one))
    ]

-- The first side of face f that begins under p.
abbrev pub side_under : Hierarchy → ℕ → ℕ → ℕ
side_under h p f =
    cond (holds h p (from_leaf h (3 * f))) (3 * f)
    (cond (holds h p (from_leaf h (3 * f + 1))) (3 * f + 1) (3 * f + 2))

-- where no leaf under p is under q or outside s, that side runs from p to q
pub side_along : (h : Hierarchy) (p q s f : ℕ) → ((x : ℕ) → Holds h p x → Holds h s x) →
    ((x : ℕ) → Holds h p x → Holds h q x → ⊥) →
    CornersFit h p q s (corners_of h f) → let i =
    side_under h p f in
    AreAlong h p q s (from_leaf h i) (to_leaf h i) (from_leaf h (next (next i)))
side_along h p q s f inside apart fits =
    grind (
      arith,
      common_steps,
      corner_a h f,
      corner_b h f,
      corner_c h f,
      ways h p q s (corners_of h f) fits.runs,
    )
