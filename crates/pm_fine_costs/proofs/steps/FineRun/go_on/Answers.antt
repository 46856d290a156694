use Rattle.std.proofs.Common.{◌≡◌, Bool, List, refl, sym, subst}
use Rattle.pm_base.specs.Meshes.{Mesh, mesh_of}
use Rattle.pm_keeping.specs.Keeping.{kept_in}
use Rattle.pm_policies.specs.Policies.{Policy}
use Rattle.pm_simplify.specs.Going.{IsGoing}
use Rattle.pm_fine_costs.specs.FinePolicy.{fine_keeping}
use Rattle.pm_fine_costs.specs.FineCosts.{GoesByFine}
use Rattle.pm_fine_costs.proofs.GoingLaws.{same_end}
use Rattle.pm_fine_costs.proofs.steps.FineRun.go_on.Goals as goal

pub invariant_of-self : goal.invariant_of-self
invariant_of-self c =
    let old = c.self.inside.run in
    let new = c.go_on-self-inside.new.self in
    let m : Mesh = mesh_of c.self.inside.mesh in
    let p : Policy = fine_keeping (kept_in old.kept.items) in
    let same : new.kept.items ≡ old.kept.items = rw c.go_on-self-inside.ensures.kept refl in
    record {
      going = subst (λ (l : List Bool).
          IsGoing new.shrink (GoesByFine new.costs) new.kept.items new.edges new.log
          new.target_faces (fine_keeping (kept_in l)) m) (sym same)
          (c.go_on-self-inside.ensures.goes_on p m c.self.invariant.going);
      end = λ is.
          same_end m new.kept.items old.kept.items new.target_faces old.target_faces new.log.items
          same c.go_on-self-inside.ensures.target
          ((c.go_on-self-inside.ensures.end p m c.self.invariant.going).0 is);
    }

pub returns-then-not-self-clause-end : goal.returns-then-not-self-clause-end
returns-then-not-self-clause-end c =
    let old = c.self.inside.run in
    let new = c.go_on-self-inside.new.self in
    let m : Mesh = mesh_of c.self.inside.mesh in
    let p : Policy = fine_keeping (kept_in old.kept.items) in
    let same : new.kept.items ≡ old.kept.items = rw c.go_on-self-inside.ensures.kept refl in
    let to = c.go_on-self-inside.ensures.target in
    let told = c.go_on-self-inside.ensures.end p m c.self.invariant.going in (
      λ is.
          same_end m new.kept.items old.kept.items new.target_faces old.target_faces new.log.items
          same to (told.0 is),
      λ end.
          told.1 (same_end m old.kept.items new.kept.items old.target_faces new.target_faces
          new.log.items (sym same) (sym to) end),
    )
