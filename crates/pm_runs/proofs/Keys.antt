-- The place and the key of a pair depend on its two ends alone, and a collapse elsewhere leaves
-- them.
use Rattle.std.proofs.Common.{◌≡◌, ℕ, List, [], ◌∷◌, ◌++◌, sym, ap, ◌∙◌, subst, arith}
use Rattle.std.proofs.lemmas.Grind.{common_steps}
use Rattle.pm_base.specs.declared.log.Collapse.{Collapse}
use Rattle.pm_base.specs.Meshes.{Mesh}
use Rattle.pm_quadric.specs.Planes.{Plane}
use Rattle.pm_runs.specs.Surfaces.{Surface, place_at, net_of_surface, IsSurface, collapsed}
use Rattle.pm_runs.specs.Pairs.{IsLegalPair}
use Rattle.pm_runs.specs.Planes.{best_place_of, key_of, planes_after}
use Rattle.pm_runs.specs.Runs.{surface_after, IsStep, place_of_pair, key_of_pair, IsCandidate}
use Rattle.pm_runs.specs.Merged.{IsProper}
use Rattle.pm_runs.specs.Nearby.{IsOther, IsFar}
use Rattle.pm_runs.proofs.Live.{old_at}
use Rattle.pm_runs.proofs.Local.{looks-sym, legal-same, far-same}
use Rattle.pm_runs.proofs.Proper.{collapse-proper, legal-apart}
use Rattle.pm_runs.proofs.Logs.{surface_after-more, planes_after-other, step-new}

module _ (f g : ℕ → List Plane) (s r : Surface) (a b : ℕ) (planes_a : g a ≡ f a)
    (planes_b : g b ≡ f b) (at_a : place_at r a ≡ place_at s a) (at_b : place_at r b ≡ place_at s b)
  where
    planes_same : g a ++ g b ≡ f a ++ f b
    planes_same =
        ap (λ (x : List Plane). x ++ g b) planes_a ∙ ap (λ (y : List Plane). f a ++ y) planes_b

    pub best_place-same : best_place_of g r a b ≡ best_place_of f s a b
    best_place-same = grind (arith, common_steps, planes_same)

    pub key-same : key_of g r a b ≡ key_of f s a b
    key-same = grind (arith, common_steps, best_place-same, planes_same)

module _ (m : Mesh) (log : List Collapse) (c : Collapse) (step : IsStep (surface_after m log) c)
  where
    other_planes : (p : ℕ) → IsOther (surface_after m log) c.t c.u p
        → planes_after m (log ++ c ∷ []) p ≡ planes_after m log p
    other_planes p other =
        planes_after-other m log c p
        (λ is. other.not_new (is ∙ step-new (surface_after m log) c step))

    other_at : (p : ℕ) → IsOther (surface_after m log) c.t c.u p
        → place_at (surface_after m (log ++ c ∷ [])) p ≡ place_at (surface_after m log) p
    other_at p other =
        ap (λ (s : Surface). place_at s p) (surface_after-more m log c) ∙
        old_at (surface_after m log) c.t c.u c.place p other.not_new other.not_first
        other.not_second

    pub place-kept : (p q : ℕ) → IsOther (surface_after m log) c.t c.u p
        → IsOther (surface_after m log) c.t c.u q → place_of_pair m (log ++ c ∷ []) p q
        ≡ place_of_pair m log p q
    place-kept p q x y =
        best_place-same (planes_after m log) (planes_after m (log ++ c ∷ [])) (surface_after m log)
        (surface_after m (log ++ c ∷ [])) p q
        (other_planes p x) (other_planes q y) (other_at p x) (other_at q y)

    pub key-kept : (p q : ℕ) → IsOther (surface_after m log) c.t c.u p
        → IsOther (surface_after m log) c.t c.u q → key_of_pair m (log ++ c ∷ []) p q
        ≡ key_of_pair m log p q
    key-kept p q x y =
        key-same (planes_after m log) (planes_after m (log ++ c ∷ [])) (surface_after m log)
        (surface_after m (log ++ c ∷ [])) p q
        (other_planes p x) (other_planes q y) (other_at p x) (other_at q y)

    module _ (sound : IsSurface (surface_after m log))
        (proper : IsProper (net_of_surface (surface_after m log))) where
      abbrev now : Surface
      now = surface_after m log

      abbrev later : Surface
      later = collapsed (surface_after m log) c.t c.u c.place

      pub candidate-stays : (p q : ℕ) → IsFar now c.t c.u p → IsFar now c.t c.u q
          → IsCandidate m log p q → IsCandidate m (log ++ c ∷ []) p q
      candidate-stays p q x y candidate =
          let once = (collapse-proper now sound proper c.t c.u c.place
          (legal-apart now c.t c.u c.place step.legal)).once in
          let legal = legal-same now later p q (far-same now sound c.t c.u p c.place x)
          (far-same now sound c.t c.u q c.place y) once (place_of_pair m log p q)
          candidate.legal in
          record {
            ordered = candidate.ordered;
            legal = subst (λ s. IsLegalPair s p q (place_of_pair m (log ++ c ∷ []) p q))
                (sym (surface_after-more m log c))
                (subst (IsLegalPair later p q) (sym (place-kept p q x.other y.other)) legal);
          }

      pub candidate-was : (p q : ℕ) → IsFar now c.t c.u p → IsFar now c.t c.u q
          → IsCandidate m (log ++ c ∷ []) p q → IsCandidate m log p q
      candidate-was p q x y candidate =
          let legal = subst (IsLegalPair later p q) (place-kept p q x.other y.other)
          (subst (λ s. IsLegalPair s p q (place_of_pair m (log ++ c ∷ []) p q))
          (surface_after-more m log c) candidate.legal) in
          record {
            ordered = candidate.ordered;
            legal = legal-same later now p q
                (looks-sym now later p (far-same now sound c.t c.u p c.place x))
                (looks-sym now later q (far-same now sound c.t c.u q c.place y)) proper.once
                (place_of_pair m log p q) legal;
          }
