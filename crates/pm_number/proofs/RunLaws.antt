-- What holds all along a run.
use Rattle.std.proofs.Common.{suc, zero, ◌≡◌, ◌≢◌, ℕ, ◌+◌, ◌*◌, ◌<◌, ◌≤◌, ◌⊎◌, inl, inr, refl, sym}
use Rattle.std.proofs.lemmas.Grind.{common_steps}
use Rattle.std.proofs.Common.{ap, ◌∙◌, subst, arith}
use Rattle.std.proofs.lemmas.Bool.{cases_eq, cases_lt}
use Rattle.pm_base.proofs.Sides.{stands_next}
use Rattle.pm_base.specs.Sides.{face_of, Net, Stands}
use Rattle.pm_forest.proofs.Sides.{three_sides}
use Rattle.pm_number.specs.Stages.{BeginsSide, Run, steps, entry_at, from_after, net_of_run_after}
use Rattle.pm_number.specs.Stages.{IsMerging}
use Rattle.pm_runs.proofs.Apart.{stood, gone, gone_next, gone_last, once_after, no_mirror_after}
use Rattle.pm_runs.proofs.Merges.{merge-pair, merge-other}
use Rattle.pm_runs.specs.Merged.{IsProper, IsFresh}
use Rattle.pm_runs.specs.Pairs.{Runs, Joined, Links, IsPair}
use Rattle.pm_runs.specs.Surfaces.{merge}

-- what a merge makes of a vertex
pub merge_cases : (t u s v : ℕ) → (((v ≡ t) ⊎ (v ≡ u)) × (merge t u s v ≡ s))
    ⊎ ((v ≢ t) × (v ≢ u) × (merge t u s v ≡ v))
merge_cases t u s v =
    grind (arith, common_steps, merge-other t u s v, merge-pair t u s t u (inl (refl, refl)))

pub joined_used : (m : Net) (p q : ℕ) → Joined m p q → BeginsSide m p × BeginsSide m q
joined_used m p q j =
    grind (arith, common_steps, stands_next)

module _ (r : Run) (run : IsMerging r) where
  -- each vertex in use has a number that has been given
  pub given : (i e : ℕ) → i ≤ steps r → e < 3 * r.net.faces → from_after r i e < r.vertices + i
  given zero e a l = let v = run.vertex e l in omega arith
  given (suc i) e a l =
      let c = entry_at r i in
      let v = given i e (omega arith) l in
      let n = run.named i a in
      elim (merge_cases c.t c.u c.s (from_after r i e)) [
        | inl p ↦ (let q = p.1 in omega arith)
        | inr p ↦ (let q = p.2 in omega arith)
      ]

  pub fresh-s : (i : ℕ) → i < steps r → IsFresh (net_of_run_after r i) (entry_at r i).s
  fresh-s i l e st = let g = given i e (omega arith) st.is_side in let n =
      run.named i l in λ z. omega arith

  pub proper_after : (i : ℕ) → i ≤ steps r → IsProper (net_of_run_after r i)
  proper_after zero l = record { once = run.proper.once; no_mirror = run.proper.no_mirror }
  proper_after (suc i) l =
      let c = entry_at r i in
      let old = proper_after i (omega arith) in
      let keeps = (run.linkable i l).apart in
      record {
        once = once_after (net_of_run_after r i) c.t c.u c.s (fresh-s i l) keeps old.once;
        no_mirror = no_mirror_after (net_of_run_after r i) c.t c.u c.s (fresh-s i l) keeps old.once
            old.no_mirror;
      }

  -- both ends of each collapse are in use just before, and have been given
  pub used_t : (i : ℕ) → i < steps r → BeginsSide (net_of_run_after r i) (entry_at r i).t
  used_t i l = (joined_used (net_of_run_after r i) _ _ (run.linkable i l).joined).0

  pub used_u : (i : ℕ) → i < steps r → BeginsSide (net_of_run_after r i) (entry_at r i).u
  used_u i l = (joined_used (net_of_run_after r i) _ _ (run.linkable i l).joined).1

  pub used-given : (i v : ℕ) → i ≤ steps r → BeginsSide (net_of_run_after r i) v
      → v < r.vertices + i
  used-given i v l (e, m, is) = subst (λ n. n < r.vertices + i) is (given i e l m)

  pub ends_given : (i : ℕ) → i < steps r → ((entry_at r i).t < r.vertices + i)
      × ((entry_at r i).u < r.vertices + i)
  ends_given i l =
      (used-given i _ (omega arith) (used_t i l), used-given i _ (omega arith) (used_u i l))

  -- a vertex that has been merged isn't met again
  pub never_again : (i j e : ℕ) → i ≤ steps r → j < i → e < 3 * r.net.faces
      → (from_after r i e ≢ (entry_at r j).t) × (from_after r i e ≢ (entry_at r j).u)
  never_again zero j e l a m = absurd (omega arith)
  never_again (suc i) j e l a m =
      let c = entry_at r i in
      let n = run.named i l in
      let g = ends_given j (omega arith) in
      elim (merge_cases c.t c.u c.s (from_after r i e)) [
        | inl p ↦ (let q = p.1 in (λ z. omega arith, λ z. omega arith))
        | inr p ↦
            let q = p.2 in
            elim (cases_eq j i) [
              | inl is ↦ (
                λ z. p.0 (sym q ∙ z ∙ ap (λ n. (entry_at r n).t) is),
                λ z. p.1 (sym q ∙ z ∙ ap (λ n. (entry_at r n).u) is),
              )
              | inr other ↦ (let old = never_again i j e (omega arith) (omega arith) m in
                  (λ z. old.0 (sym q ∙ z), λ z. old.1 (sym q ∙ z)))
            ]
      ]

  -- A side that stands stood before
  pub stood_before : (i j e : ℕ) → j ≤ i → i ≤ steps r → Stands (net_of_run_after r i) e
      → Stands (net_of_run_after r j) e
  stood_before zero j e l top st =
      (let is : 0 ≡ j = omega arith in subst (λ n. Stands (net_of_run_after r n) e) is st)
  stood_before (suc i) j e l top st =
      let c = entry_at r i in
      elim (cases_lt i j) [
        | inl b ↦ (let is : suc i ≡ j =
            omega arith in subst (λ n. Stands (net_of_run_after r n) e) is st)
        | inr b ↦ stood_before i j e b (omega arith)
            (stood (net_of_run_after r i) c.t c.u c.s (fresh-s i (omega arith)) e st)
      ]

  -- and a face that holds both ends is gone for good
  pub gone_for_good : (i x c : ℕ) → i < steps r
      → Links (net_of_run_after r i) x (entry_at r i).t (entry_at r i).u → face_of c ≡ face_of x
      → Stands (net_of_run_after r (suc i)) c → ⊥
  gone_for_good i x c l links on st =
      let g = entry_at r i in
      let fresh = fresh-s i l in
      let (a, b, pair, runs) : (a b : ℕ) × IsPair g.t g.u a b × Runs (net_of_run_after r i) x a b =
      elim links [
        | inl w ↦ (g.t, g.u, inl (refl, refl), w)
        | inr w ↦
            (g.u, g.t, inr (refl, refl), w)
      ] in
      elim (three_sides c x on) [
        | inl q ↦ gone (net_of_run_after r i) g.t g.u g.s fresh x a b pair runs
            (subst (Stands (net_of_run_after r (suc i))) q st)
        | inr which ↦
            elim which [
              | inl q ↦ gone_next (net_of_run_after r i) g.t g.u g.s fresh x a b pair runs
                  (subst (Stands (net_of_run_after r (suc i))) q st)
              | inr q ↦ gone_last (net_of_run_after r i) g.t g.u g.s fresh x a b pair runs
                  (subst (Stands (net_of_run_after r (suc i))) q st)
            ]
      ]
