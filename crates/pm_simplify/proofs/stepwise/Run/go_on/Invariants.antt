use Rattle.std.proofs.Common.{◌≡◌}
use Rattle.pm_base.specs.Meshes.{Mesh}
use Rattle.pm_policies.specs.Policies.{Policy}
use Rattle.pm_simplify.specs.Going.{IsGoing}
use Rattle.pm_simplify.proofs.Running.{HasAdded}
use Rattle.pm_simplify.proofs.stepwise.Run.go_on.Given as goal

abbrev pub invariant-loop-self : goal.invariant-loop-self
invariant-loop-self g l = record {
  by : (p : Policy) (m : Mesh) →
      IsGoing l.fn.self.shrink (g.C.Costs.goes_by l.fn.self.costs) l.fn.self.kept.items
      l.fn.self.edges l.fn.self.log l.fn.self.target_faces p m →
      IsGoing l.self.shrink (g.C.Costs.goes_by l.self.costs) l.self.kept.items l.self.edges
      l.self.log l.self.target_faces p m;
  kept : l.self.kept ≡ l.fn.self.kept;
  target : l.self.target_faces ≡ l.fn.self.target_faces;
  added : HasAdded l.most l.left l.fn.self.log.items l.self.log.items;
}

abbrev pub decreases-loop-self : goal.decreases-loop-self
decreases-loop-self g l = l.left
