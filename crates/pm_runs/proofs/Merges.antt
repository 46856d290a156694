-- Merging two vertices into a third one.
use Rattle.std.proofs.Common.{◌≡◌, ◌≢◌, ℕ, ◌⊎◌, inl, inr, refl, arith}
use Rattle.std.proofs.lemmas.Grind.{common_steps}
use Rattle.std.proofs.lemmas.Bool.{eq-eqb, ne_eqb, or_left, or_right, or_from, cond-true}
use Rattle.std.proofs.lemmas.Bool.{cond-false}
use Rattle.pm_runs.specs.Surfaces.{merge}
use Rattle.pm_runs.specs.Pairs.{IsPair}

pub turned : (t u a b : ℕ) → IsPair t u a b → IsPair t u b a
turned t u a b pair = elim pair [ inl p ↦ inr (p.1, p.0) | inr p ↦ inl (p.1, p.0) ]

pub merge-pair : (t u s a b : ℕ) → IsPair t u a b → (merge t u s a ≡ s) × (merge t u s b ≡ s)
unfolding merge
merge-pair t u s a b pair = grind (arith, common_steps, cond-true, eq-eqb, or_left, or_right)

pub merge-other : (t u s v : ℕ) → v ≢ t → v ≢ u → merge t u s v ≡ v
unfolding merge
merge-other t u s v a b = cond-false _ s v (or_from _ _ (ne_eqb v t a) (ne_eqb v u b))

-- two vertices, neither of them s, that become one were one, or are the two of the pair
pub merge-same : (t u s v w : ℕ) → v ≢ s → w ≢ s → merge t u s v ≡ merge t u s w
    → (v ≡ w) ⊎ IsPair t u v w
merge-same t u s v w a b e =
    grind (
      arith,
      common_steps,
      merge-other t u s,
      merge-other t u s v,
      merge-other t u s w,
      merge-pair t u s t u (inl (refl, refl)),
    )
