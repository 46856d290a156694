-- The ancestor of a fixed leaf is its root in every front, and that of no other leaf.
use Rattle.std.proofs.Common.{◌≡◌, ℕ, zero, suc, ◌+◌, ◌<◌, ◌≤◌, Bool, refl, ◌∙◌, subst, arith}
use Rattle.std.proofs.lemmas.Grind.{common_steps}
use Rattle.pm_forest.specs.Forest.{Hierarchy, record_at, record_count, leaf_count, s_of}
use Rattle.pm_forest.specs.Forest.{interval_of, holds, Holds}
use Rattle.pm_forest.specs.Fronts.{ancestor_after, ancestor_of}
use Rattle.pm_forest.specs.Faces.{IsForest}
use Rattle.pm_forest.proofs.Nodes.{within-from}
use Rattle.pm_forest.proofs.Ancestors.{stays, to_t, to_u, move, holds-ancestor_of}
use Rattle.pm_tiles.specs.Fixed.{root_over, IsFixed}
use Rattle.pm_tiles.specs.Laws as law

module _ (h : Hierarchy) (tree : IsForest h) (x : ℕ) (fixed : IsFixed h x) where
  -- A record splits a node of two leaves at least, and so none splits the root.
  unsplit : (k : ℕ) → k < record_count h → s_of h k ≡ root_over h x → ⊥
  unfolding holds
  unsplit k l is =
      let i = interval_of h (s_of h k) in
      let w = tree.forest.width k l in
      let last = i.from + (record_at h k).width in
      let under : (y : ℕ) → Holds h (s_of h k) y → y ≡ x =
      λ y in_s. fixed y (subst (λ v. Holds h v y) is in_s) in
      let one = under i.from (within-from i i.from (omega arith) (omega arith)) in
      let two = under last (within-from i last (omega arith) (omega arith)) in
      absurd (omega arith)

  root_stays : (T : ℕ → Bool) (k : ℕ) → k ≤ record_count h → ancestor_after h T k x ≡ root_over h x
  unfolding ancestor_after
  root_stays T zero l = refl
  root_stays T (suc k) l =
      grind (arith, common_steps, move, stays, to_t, to_u, unsplit, root_stays T k)

  pub is_root : (T : ℕ → Bool) → ancestor_of h T x ≡ root_over h x
  is_root T = root_stays T (record_count h) (omega arith)

  pub only :
      (T : ℕ → Bool) (y : ℕ) → y < leaf_count h → ancestor_of h T y ≡ ancestor_of h T x → y ≡ x
  only T y ly is =
      fixed y (subst (λ v. Holds h v y) (is ∙ is_root T) (holds-ancestor_of h tree.forest T y ly))

pub leaves_stay : law.FixedLeavesStay
leaves_stay h tree T x lx fixed = (is_root h tree x fixed T, only h tree x fixed T)
