use Rattle.std.proofs.Common.{◌≡◌, ◌∙◌, Bool, List, refl, sym, subst}
use Rattle.std.proofs.lemmas.Bool.{false≢true}
use Rattle.pm_base.specs.Meshes.{Mesh, mesh_of}
use Rattle.pm_keeping.specs.Keeping.{kept_in}
use Rattle.pm_policies.specs.Policies.{Policy}
use Rattle.pm_simplify.specs.Going.{IsGoing}
use Rattle.pm_fine_costs.specs.FinePolicy.{fine_keeping}
use Rattle.pm_fine_costs.specs.FineCosts.{GoesByFine}
use Rattle.pm_fine_costs.proofs.steps.FineRun.begin.Goals as goal

pub begin-requires : goal.begin-requires
begin-requires c =
    let p : Policy = fine_keeping (kept_in c.args.kept.items) in
    record { known = (p, c.in_ok-costs.ensures (kept_in c.args.kept.items), refl) }

pub invariant_of-result : goal.invariant_of-result
invariant_of-result c =
    let run = c.in_ok-run.run' in
    let m : Mesh = c.args.surface in
    let p : Policy = fine_keeping (kept_in c.args.kept.items) in
    let goes = c.in_ok-costs.ensures (kept_in c.args.kept.items) in
    let begun = c.in_ok-run.ensures.begun p goes refl in
    let same : mesh_of c.in_ok-mesh.mesh ≡ m = c.in_ok-mesh.ensures ∙ c.mesh.ensures in
    record {
      going = subst (λ (n : Mesh).
          IsGoing run.shrink (GoesByFine run.costs) run.kept.items run.edges run.log
          run.target_faces (fine_keeping (kept_in run.kept.items)) n) (sym same)
          (subst (λ (l : List Bool).
          IsGoing run.shrink (GoesByFine run.costs) run.kept.items run.edges run.log
          run.target_faces (fine_keeping (kept_in l)) m) (sym c.in_ok-run.ensures.kept) begun);
      end = λ is. absurd (false≢true is);
    }
