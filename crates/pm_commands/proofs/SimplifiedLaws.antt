-- What `simplify` makes of a mesh: something, and one thing.
use Rattle.std.proofs.Common.{◌≡◌, ◌↔◌, ℕ, Bool, true, false, List, Result, Ok, Err, IfOk, inl, inr}
use Rattle.std.proofs.Common.{refl, sym, ◌∙◌, ap, subst}
use Rattle.std.proofs.lemmas.Bool.{false≢true}
use Rattle.pm_base.specs.declared.log.Collapse.{Collapse}
use Rattle.pm_base.specs.Meshes.{Mesh}
use Rattle.pm_base.specs.Sides.{net_of}
use Rattle.pm_base.proofs.Search.{Decided}
use Rattle.pm_forest.specs.Forest.{Hierarchy}
use Rattle.pm_runs.specs.Runs.{IsStartOfRun}
use Rattle.pm_runs.proofs.MergedRounds.{border?}
use Rattle.pm_keeping.specs.Keeping.{none_kept, kept_in}
use Rattle.pm_policies.specs.PolicyRuns.{IsRunBy}
use Rattle.pm_policies.proofs.OneRun.{one_run_by_a_policy}
use Rattle.pm_fine_costs.specs.FinePolicy.{fine_keeping}
use Rattle.pm_simplify.proofs.SomeRuns.{some_run}
use Rattle.pm_number.specs.Numbering.{hierarchy_of_run}
use Rattle.pm_commands.specs.declared.asked.Border.{Border}
use Rattle.pm_commands.specs.declared.asked.Border.TheVariants as borders
use Rattle.pm_commands.specs.declared.asked.Asked.TheVariants as asked
use Rattle.pm_commands.specs.Build.{IsSimplified}
use Rattle.pm_commands.specs.Simplified.{IsKeptWith, IsSimplifiedWith}
use Rattle.pm_commands.proofs.SomePolicyRuns.{some_run_by}

-- A mesh has one set of vertices that are kept with its border free, and one with its border kept.

same_flag : {P : Type 0} (a b : Bool) → (a ≡ true) ↔ P → (b ≡ true) ↔ P → a ≡ b
same_flag true true one other = refl
same_flag true false one other = sym (other.1 (one.0 refl))
same_flag false true one other = one.1 (other.0 refl)
same_flag false false one other = refl

one_kept :
    (border : Border) (m : Mesh) (f g : ℕ → Bool) → IsKeptWith border m f →
    IsKeptWith border m g → f ≡ g
one_kept borders.Free m f g one other = λ j v. (one v ∙ sym (other v)) j
one_kept borders.Kept m f g one other = λ j v. same_flag (f v) (g v) (one v) (other v) j

flag_of : {P : Type 0} → Decided P → Bool
flag_of (inl p) = true
flag_of (inr n) = false

flag_tells : {P : Type 0} (d : Decided P) → (flag_of d ≡ true) ↔ P
unfolding flag_of
flag_tells (inl p) = (λ e. p, λ q. refl)
flag_tells (inr n) = (λ e. absurd (false≢true e), λ p. absurd (n p))

some_kept : (border : Border) (m : Mesh) → (kept : ℕ → Bool) × IsKeptWith border m kept
some_kept borders.Free m = (none_kept, λ v. refl)
some_kept borders.Kept m =
    (λ v. flag_of (border? (net_of m.faces) v), λ v. flag_tells (border? (net_of m.faces) v))

-- So one hierarchy is made of it.

pub one_simplified_with :
    (border : Border) (m : Mesh) (target : ℕ) (h g : Hierarchy) → IsSimplifiedWith border m target h
    →
    IsSimplifiedWith border m target g → h ≡ g
one_simplified_with border m target h g is are =
    let same = one_kept border m is.kept are.kept is.keeps are.keeps in
    let run : IsRunBy (fine_keeping are.kept) m target is.log =
    subst (λ k. IsRunBy (fine_keeping k) m target is.log) same is.run in
    let known = one_run_by_a_policy (fine_keeping are.kept) m target are.log are.run in
    let log = known.one is.log run in
    is.made ∙ ap (λ (l : List Collapse). hierarchy_of_run m l) log ∙ sym are.made

pub some_simplified : (m : Mesh) → IsStartOfRun m → (target : ℕ)
    → (h : Hierarchy) × IsSimplified m target h
some_simplified m start target =
    let run = some_run m start target in
    (hierarchy_of_run m run.0, record { log = run.0; run = run.1; made = refl })

pub some_simplified_with :
    (border : Border) (m : Mesh) → IsStartOfRun m → (target : ℕ) →
    (h : Hierarchy) × IsSimplifiedWith border m target h
some_simplified_with border m start target =
    let (kept, keeps) = some_kept border m in
    let run = some_run_by (fine_keeping kept) m start target in (
      hierarchy_of_run m run.0,
      record { kept = kept; keeps = keeps; log = run.0; run = run.1; made = refl },
    )

-- The hierarchy of the run that keeps these vertices.
pub made_with :
    {E : Type 0} (border : Border) (n m : Mesh) (slice flags : List Bool) (target : ℕ)
    (log : List Collapse) (r : Result Hierarchy E) → n ≡ m → slice ≡ flags
    → IsKeptWith border m (kept_in flags) →
    IsRunBy (fine_keeping (kept_in slice)) m target log → IfOk r (λ h. h ≡ hierarchy_of_run n log) →
    IfOk r (IsSimplifiedWith border m target)
made_with border n m slice flags target log (Ok h) same all keeps run is = record {
  kept = kept_in slice;
  keeps = subst (λ (l : List Bool). IsKeptWith border m (kept_in l)) (sym all) keeps;
  log = log;
  run = run;
  made = is ∙ ap (λ (k : Mesh). hierarchy_of_run k log) same;
}
made_with border n m slice flags target log (Err e) same all keeps run is = tt

-- What holds of what is asked for holds of the same.
pub same_simplify :
    (P : Border → ℕ → ℕ → Type 0) (a b : Border) (t u d e : ℕ) →
    asked.Simplify t d a ≡ asked.Simplify u e b → P a t d → P b u e
same_simplify P a b t u d e is holds =
    let border : a ≡ b = cc in
    let target : t ≡ u = cc in
    let digits : d ≡ e = cc in
    subst (λ (c : Border). P c u e) border
    (subst (λ (n : ℕ). P a n e) target (subst (λ (n : ℕ). P a t n) digits holds))
