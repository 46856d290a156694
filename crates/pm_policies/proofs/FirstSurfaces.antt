-- What a vertex takes is what the policy takes of the surface in which the vertex is first there.
use Rattle.std.proofs.Common.{◌≡◌, ℕ, zero, suc, ◌+◌, ◌<◌, List, [], ◌∷◌, length, take}
use Rattle.std.proofs.lemmas.Grind.{common_steps}
use Rattle.std.proofs.Common.{arith}
use Rattle.std.proofs.lemmas.Bool.{cond-true, eq-eqb}
use Rattle.std.proofs.lemmas.List.{length-map}
use Rattle.pm_base.specs.declared.log.Collapse.{Collapse}
use Rattle.pm_quadric.specs.Planes.{Plane}
use Rattle.pm_runs.specs.Surfaces.{Surface, next_vertex}
use Rattle.pm_runs.specs.Runs.{after_entry, surface_from, surface_after, AreSteps, IsRun}
use Rattle.pm_runs.proofs.Live.{next-after}
use Rattle.pm_runs.proofs.Logs.{step-new}
use Rattle.pm_policies.specs.Policies.{Policy, taken_next, taken_from, taken_after}
use Rattle.pm_policies.specs.Laws as law
use Rattle.pm_policies.proofs.PlanesTaken.{taken-stay}

-- Vertices that collapses make are numbered on, so the one of entry i is there after i + 1 of them.
taken-made :
    (p : Policy) (s : Surface) (planes : ℕ → List Plane) (cs : List Collapse) → AreSteps s cs →
    (i v : ℕ) → v ≡ next_vertex s + i → i < length cs →
    taken_from p s planes cs v ≡ p.taken (surface_from s (take (suc i) cs)) v
taken-made p s planes [] steps i v is l = absurd (omega arith)
taken-made p s planes (c ∷ cs) steps zero v is l =
    grind (arith, common_steps, cond-true, eq-eqb, next-after, step-new, taken-stay)
taken-made p s planes (c ∷ cs) steps (suc i) v is l =
    let n = next-after s c.t c.u c.place in
    taken-made p (after_entry s c) (taken_next p s planes c) cs steps.1 i v (omega arith)
    (omega arith)

pub planes_are_of_first_surfaces : law.PlanesAreOfFirstSurfaces
unfolding IsRun surface_after taken_after
planes_are_of_first_surfaces p m log run v l =
    grind (arith, common_steps, length-map, taken-made, taken-stay)
