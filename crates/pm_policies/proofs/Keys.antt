-- A pair that a collapse neither merges nor makes keeps its place and its key, whatever the policy,
-- and far from the collapse it may be collapsed as before.
use Rattle.std.proofs.Common.{◌≡◌, ℕ, List, [], ◌∷◌, ◌++◌, sym, ap, ◌∙◌, subst, arith}
use Rattle.std.proofs.lemmas.Grind.{common_steps}
use Rattle.pm_base.specs.declared.log.Collapse.{Collapse}
use Rattle.pm_base.specs.Meshes.{Mesh}
use Rattle.pm_quadric.specs.Planes.{Plane}
use Rattle.pm_runs.specs.Surfaces.{Surface, place_at, collapsed}
use Rattle.pm_runs.specs.Pairs.{IsLegalPair}
use Rattle.pm_runs.specs.Runs.{surface_after, IsStep}
use Rattle.pm_runs.specs.Nearby.{IsOther}
use Rattle.pm_runs.proofs.Live.{old_at}
use Rattle.pm_runs.proofs.Logs.{surface_after-more, run-sound, run-proper, step-new}
use Rattle.pm_runs.proofs.StepLaws.{steps_are_local}
use Rattle.pm_policies.specs.Policies.{Policy, planes_by}
use Rattle.pm_policies.specs.Policies.{pair_planes_by, place_by, key_by}
use Rattle.pm_policies.specs.Laws as law
use Rattle.pm_policies.proofs.PlanesTaken.{taken-other, brought-other}

module _ (p : Policy) (m : Mesh) (log : List Collapse) (c : Collapse) where
  abbrev now : Surface
  now = surface_after m log

  abbrev more : List Collapse
  more = log ++ c ∷ []

  module _ (step : IsStep (surface_after m log) c) where
    planes_kept : (v : ℕ) → IsOther now c.t c.u v → planes_by p m more v ≡ planes_by p m log v
    planes_kept v other = grind (arith, common_steps, brought-other, step-new, taken-other)

    at_kept :
        (v : ℕ) → IsOther now c.t c.u v →
        place_at (surface_after m more) v ≡ place_at (surface_after m log) v
    at_kept v other =
        ap (λ (s : Surface). place_at s v) (surface_after-more m log c)
        ∙ old_at now c.t c.u c.place v other.not_new other.not_first other.not_second

    module _
        (a b : ℕ) (x : IsOther (surface_after m log) c.t c.u a)
        (y : IsOther (surface_after m log) c.t c.u b) where
      pair_kept : pair_planes_by p m more a b ≡ pair_planes_by p m log a b
      pair_kept =
          ap (λ (ps : List Plane). ps ++ planes_by p m more b) (planes_kept a x)
          ∙ ap (λ (ps : List Plane). planes_by p m log a ++ ps) (planes_kept b y)

      place_kept : place_by p m more a b ≡ place_by p m log a b
      place_kept = grind (arith, common_steps, at_kept, pair_kept)

      key_kept : key_by p m more a b ≡ key_by p m log a b
      key_kept = grind (arith, common_steps, pair_kept, place_kept)

pub keys_are_kept_by : law.KeysAreKeptBy
keys_are_kept_by p m log c step a b x y = grind (arith, common_steps, key_kept, place_kept)

pub candidates_are_local_by : law.CandidatesAreLocalBy
candidates_are_local_by p m start log c run step a b x y =
    let s = surface_after m log in
    let sound = run-sound m start log run in
    let proper = run-proper m start log run in
    let near = steps_are_local s sound proper c.t c.u c.place step.legal a b x y in
    let place = place_kept p m log c step a b x.other y.other in
    let later = surface_after-more m log c in (
      λ is. record {
        ordered = is.ordered;
        legal = subst (λ r. IsLegalPair r a b (place_by p m (log ++ c ∷ []) a b)) (sym later)
            (subst (IsLegalPair (collapsed s c.t c.u c.place) a b) (sym place)
            ((near (place_by p m log a b)).0 is.legal));
        first = is.first;
        second = is.second;
      },
      λ is. record {
        ordered = is.ordered;
        legal = (near (place_by p m log a b)).1
            (subst (IsLegalPair (collapsed s c.t c.u c.place) a b) place
            (subst (λ r. IsLegalPair r a b (place_by p m (log ++ c ∷ []) a b)) later is.legal));
        first = is.first;
        second = is.second;
      },
    )
