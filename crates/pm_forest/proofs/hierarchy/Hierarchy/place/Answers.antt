use Rattle.std.proofs.Common.{◌-◌, ◌/◌, ap, ◌∙◌, arith}
use Rattle.pm_forest.specs.declared.parts.Record.{Record}
use Rattle.pm_forest.specs.Forest.{record_at}
use Rattle.pm_forest.proofs.HierarchyLaws.{place-root, place-t, place-u}
use Rattle.pm_forest.proofs.hierarchy.Hierarchy.place.Goals as goal

pub returns-then-node-roots : goal.returns-then-node-roots
returns-then-node-roots c =
    place-root c.args.self.now c.args.node.0 c.root_at.result (omega arith) c.root_at.ensures

pub returns-then-node-roots-eq0 : goal.returns-then-node-roots-eq0
returns-then-node-roots-eq0 c =
    let h = c.args.self.now in
    let v = c.args.node.0 in
    let split = c.record_at-split.ensures
    ∙ ap (λ n. record_at h ((v - n) / 2)) c.roots-roots.ensures.value in
    ap (λ (r : Record). r.t.place) split ∙ place-t h v (omega arith) (omega arith)

pub returns-else-node-roots-eq0 : goal.returns-else-node-roots-eq0
returns-else-node-roots-eq0 c =
    let h = c.args.self.now in
    let v = c.args.node.0 in
    let split = c.record_at-split.ensures
    ∙ ap (λ n. record_at h ((v - n) / 2)) c.roots-roots.ensures.value in
    ap (λ (r : Record). r.u.place) split ∙ place-u h v (omega arith) (omega arith)
