use Rattle.std.proofs.Common.{◌-◌, ◌/◌, ap, ◌∙◌, arith}
use Rattle.pm_forest.specs.declared.parts.Record.{Record}
use Rattle.pm_forest.specs.Forest.{record_at}
use Rattle.pm_forest.proofs.InputLaws.{read-root, read-t, read-u}
use Rattle.pm_forest.proofs.meshes.node_input.Goals as goal

pub returns-then-node-roots : goal.returns-then-node-roots
returns-then-node-roots c =
    read-root c.args.h.now c.args.node.0 c.root_at.result (omega arith) c.root_at.ensures

pub returns-then-node-roots-eq0 : goal.returns-then-node-roots-eq0
returns-then-node-roots-eq0 c =
    let h = c.args.h.now in
    let v = c.args.node.0 in
    let split = c.record_at-split.ensures
    ∙ ap (λ n. record_at h ((v - n) / 2)) c.roots-roots.ensures.value in
    ap (λ (r : Record). r.t.input) split ∙ read-t h v (omega arith) (omega arith) c.requires

pub returns-else-node-roots-eq0 : goal.returns-else-node-roots-eq0
returns-else-node-roots-eq0 c =
    let h = c.args.h.now in
    let v = c.args.node.0 in
    let split = c.record_at-split.ensures
    ∙ ap (λ n. record_at h ((v - n) / 2)) c.roots-roots.ensures.value in
    ap (λ (r : Record). r.u.input) split ∙ read-u h v (omega arith) (omega arith) c.requires
