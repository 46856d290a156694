-- What a vertex takes and what it is brought, from its first surface on.
use Rattle.std.proofs.Common.{◌≡◌, ◌≢◌, ℕ, ◌<◌, Some, List, [], ◌∷◌, ◌++◌, refl}
use Rattle.std.proofs.Common.{sym, ap, ◌∙◌, arith}
use Rattle.std.proofs.lemmas.Bool.{cond-true, cond-false, eq-eqb, ne_eqb}
use Rattle.std.proofs.lemmas.List.{length-map}
use Rattle.pm_base.specs.declared.log.Collapse.{Collapse}
use Rattle.pm_base.specs.Meshes.{Mesh}
use Rattle.pm_quadric.specs.Planes.{Plane}
use Rattle.pm_runs.specs.Surfaces.{Surface, next_vertex, surface_of}
use Rattle.pm_runs.specs.Planes.{joined_planes, planes_from}
use Rattle.pm_runs.specs.Runs.{after_entry, surface_from, surface_after, AreSteps, IsRun}
use Rattle.pm_runs.proofs.Live.{next-after}
use Rattle.pm_runs.proofs.Living.{planes-stay}
use Rattle.pm_runs.proofs.Logs.{planes_from-append, surface_after-more, steps_from-parts, step-new}
use Rattle.pm_runs.proofs.Logs.{next-from}
use Rattle.pm_policies.specs.Policies.{Policy, taken_next, taken_from, taken_after, brought_after}
use Rattle.pm_policies.specs.Laws as law

taken_from-append :
    (p : Policy) (s : Surface) (planes : ℕ → List Plane) (cs ds : List Collapse) →
    taken_from p s planes (cs ++ ds) ≡
    taken_from p (surface_from s cs) (taken_from p s planes cs) ds
taken_from-append p s planes [] ds = refl
taken_from-append p s planes (c ∷ cs) ds =
    taken_from-append p (after_entry s c) (taken_next p s planes c) cs ds

-- What was taken is kept.
pub taken-stay :
    (p : Policy) (s : Surface) (planes : ℕ → List Plane) (cs : List Collapse) → AreSteps s cs →
    (v : ℕ) → v < next_vertex s → taken_from p s planes cs v ≡ planes v
taken-stay p s planes [] steps v l = refl
taken-stay p s planes (c ∷ cs) steps v l =
    let new = step-new s c steps.0 in
    let n = next-after s c.t c.u c.place in
    let other : v ≢ c.s = λ is. absurd (omega arith) in
    taken-stay p (after_entry s c) (taken_next p s planes c) cs steps.1 v (omega arith)
    ∙ cond-false _ _ _ (ne_eqb v c.s other)

module _ (p : Policy) (m : Mesh) where
  taken-nil : (v : ℕ) → taken_after p m [] v ≡ p.taken (surface_of m) v
  unfolding taken_after
  taken-nil v = refl

  brought-nil : (v : ℕ) → brought_after p m [] v ≡ p.brought m v
  unfolding brought_after
  brought-nil v = refl

  module _ (log : List Collapse) (c : Collapse) where
    taken-more :
        (v : ℕ) →
        taken_after p m (log ++ c ∷ []) v ≡
        taken_next p (surface_after m log) (taken_after p m log) c v
    unfolding taken_after surface_after
    taken-more v =
        ap (λ (f : ℕ → List Plane). f v)
        (taken_from-append p (surface_of m) (p.taken (surface_of m)) log (c ∷ []))

    brought-more :
        (v : ℕ) → brought_after p m (log ++ c ∷ []) v ≡ joined_planes (brought_after p m log) c v
    unfolding brought_after
    brought-more v =
        ap (λ (f : ℕ → List Plane). f v) (planes_from-append (p.brought m) log (c ∷ []))

    taken-new : taken_after p m (log ++ c ∷ []) c.s ≡ p.taken (surface_after m (log ++ c ∷ [])) c.s
    taken-new =
        taken-more c.s ∙ cond-true _ _ _ (eq-eqb c.s c.s refl)
        ∙ ap (λ (s : Surface). p.taken s c.s) (sym (surface_after-more m log c))

    brought-new :
        brought_after p m (log ++ c ∷ []) c.s ≡
        brought_after p m log c.t ++ brought_after p m log c.u
    brought-new = brought-more c.s ∙ cond-true _ _ _ (eq-eqb c.s c.s refl)

    pub taken-other : (v : ℕ) → v ≢ c.s → taken_after p m (log ++ c ∷ []) v ≡ taken_after p m log v
    taken-other v n = taken-more v ∙ cond-false _ _ _ (ne_eqb v c.s n)

    pub brought-other :
        (v : ℕ) → v ≢ c.s → brought_after p m (log ++ c ∷ []) v ≡ brought_after p m log v
    brought-other v n = brought-more v ∙ cond-false _ _ _ (ne_eqb v c.s n)

pub planes_are_taken : law.PlanesAreTaken
planes_are_taken p m = (
  λ v. record { taken = taken-nil p m v; brought = brought-nil p m v },
  λ log c. record {
    taken = taken-new p m log c;
    brought = brought-new p m log c;
    others = λ v n. (taken-other p m log c v n, brought-other p m log c v n);
  },
)

pub planes_stay_by : law.PlanesStayBy
unfolding IsRun taken_after brought_after
planes_stay_by p m log more run v l =
    let s = surface_of m in
    let (first, rest) = steps_from-parts s log more run in
    let n = next-from s log in
    let points = length-map m.points Some in
    let taken : ℕ → List Plane = taken_from p s (p.taken s) log in
    let brought : ℕ → List Plane = planes_from (p.brought m) log in (
      ap (λ (f : ℕ → List Plane). f v) (taken_from-append p s (p.taken s) log more)
          ∙ taken-stay p (surface_from s log) taken more rest v (omega arith),
      ap (λ (f : ℕ → List Plane). f v) (planes_from-append (p.brought m) log more)
          ∙ planes-stay brought (surface_from s log) more rest v (omega arith),
    )
