-- What one collapse makes of the mesh that a front shows.
use Rattle.std.proofs.Common.{suc, ◌≡◌, ◌≢◌, ℕ, ◌<◌, Bool, true, inl, inr, refl, sym, ap, ◌∙◌}
use Rattle.std.proofs.lemmas.Grind.{common_steps}
use Rattle.std.proofs.Common.{subst, arith}
use Rattle.std.proofs.lemmas.Bool.{cases_Bool, lt-ltb, both_ways}
use Rattle.pm_forest.proofs.Ancestors.{active-ancestor, holds-ancestor_of, ancestor_of-unique}
use Rattle.pm_forest.proofs.Ancestors.{below-front, last_child-active}
use Rattle.pm_forest.proofs.Flags.{without-below}
use Rattle.pm_forest.proofs.Nodes.{holds-s_from_t, holds-s_from_u, holds-u_from_s}
use Rattle.pm_forest.proofs.OneStep.{collapse-under, collapse-elsewhere}
use Rattle.pm_forest.specs.Faces.{from_leaf, IsForest}
use Rattle.pm_forest.specs.Forest.{Hierarchy, record_count, leaf_count, s_of, t_of, u_of, holds}
use Rattle.pm_forest.specs.Forest.{Holds, HasForestShape}
use Rattle.pm_forest.specs.Fronts.{IsFront, IsActive, ancestor_of, below, without}
use Rattle.pm_firm.specs.Firm.{shown_net}
use Rattle.pm_number.specs.Stages.{Renames}
use Rattle.pm_runs.proofs.Merges.{merge-pair, merge-other}
use Rattle.pm_runs.specs.Merged.{merged, IsFresh}
use Rattle.pm_runs.specs.Surfaces.{merge}

module _ (h : Hierarchy) (shape : HasForestShape h) (k : ℕ) (l : k < record_count h) where
  split : below (suc k) k ≡ true
  split = lt-ltb k (suc k) (omega arith)

  t_active : IsActive h (below (suc k)) (t_of h k)
  t_active = last_child-active h shape k (t_of h k) l (inl refl)

  u_active : IsActive h (below (suc k)) (u_of h k)
  u_active = last_child-active h shape k (u_of h k) l (inr refl)

  front : IsFront h (below (suc k))
  front = below-front h shape (suc k)

  -- the leaves under t and under u, just before record k goes
  pub at-t : (x : ℕ) → Holds h (t_of h k) x → ancestor_of h (below (suc k)) x ≡ t_of h k
  at-t x e = ancestor_of-unique h shape (below (suc k)) front (t_of h k) x t_active e

  pub at-u : (x : ℕ) → Holds h (u_of h k) x → ancestor_of h (below (suc k)) x ≡ u_of h k
  at-u x e = ancestor_of-unique h shape (below (suc k)) front (u_of h k) x u_active e

  pub shown-merged : (x : ℕ) → x < leaf_count h
      → merge (t_of h k) (u_of h k) (s_of h k) (ancestor_of h (below (suc k)) x)
      ≡ ancestor_of h (below k) x
  shown-merged x m =
      let t = t_of h k in
      let u = u_of h k in
      let s = s_of h k in
      let both = merge-pair t u s t u (inl (refl, refl)) in
      let drop : (T : ℕ → Bool) → without (below (suc k)) k ≡ T
      → ancestor_of h (without (below (suc k)) k) x ≡ ancestor_of h T x =
      λ T e. ap (λ F. ancestor_of h F x) e in
      let lower = drop (below k) (without-below k) in
      elim (cases_Bool (holds h s x)) [
        | inl e ↦
            let to_s = collapse-under h shape (below (suc k)) front k l split t_active u_active x m
            e in
            elim (cases_Bool (holds h t x)) [
              | inl f ↦ ap (merge t u s) (at-t x f) ∙ both.0 ∙ sym to_s ∙ lower
              | inr f ↦ ap (merge t u s) (at-u x (holds-u_from_s h shape k x l e f)) ∙ both.1
                  ∙ sym to_s ∙ lower
            ]
        | inr e ↦
            let held = holds-ancestor_of h shape (below (suc k)) x m in
            let not_t : ancestor_of h (below (suc k)) x ≢ t =
            λ z. both_ways _ e (holds-s_from_t h shape k x l (subst (λ v. Holds h v x) z held))
            in
            let not_u : ancestor_of h (below (suc k)) x ≢ u =
            λ z. both_ways _ e (holds-s_from_u h shape k x l (subst (λ v. Holds h v x) z held))
            in
            merge-other t u s _ not_t not_u
            ∙ sym (collapse-elsewhere h shape (below (suc k)) front k l split t_active u_active
            x m e) ∙ lower
      ]

module _ (h : Hierarchy) (shape : IsForest h) (k : ℕ) (l : k < record_count h) where
  pub shown-fresh : IsFresh (shown_net h (below (suc k))) (s_of h k)
  shown-fresh e st is =
      (active-ancestor h shape.forest (below (suc k)) (from_leaf h e)
      (shape.faces.leaves e st.is_side)).1 k l (split h shape.forest k l) (sym is)

  -- the mesh shown by the records below k is the one shown by those up to k with t and u merged
  pub shown-step : Renames (merged (shown_net h (below (suc k))) (t_of h k) (u_of h k) (s_of h k))
      (shown_net h (below k)) (λ e. e) (λ v. v)
  shown-step = grind (arith, common_steps, shown-merged)
