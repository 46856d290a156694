use Rattle.std.proofs.Common.{◌≡◌, ℕ, ◌+◌, ◌<◌, ◌^◌, [], ◌∷◌, ◌++◌, length, length-append, get_or}
use Rattle.std.proofs.Common.{ap, ◌∙◌, subst, sym, rules, arith}
use Rattle.pm_deviation.specs.Deviations.{deviation_of}
use Rattle.pm_deviation.proofs.NodeTables.{pushed}
use Rattle.pm_deviation.proofs.deviations.Deviations.of.Goals as goal

pub loop-node-init : goal.loop-node-init
loop-node-init c = record {
  len = search rules;
  each = λ v l. absurd (omega arith);
  small = λ v l. absurd (omega arith);
}

pub loop-node-preserved : goal.loop-node-preserved
loop-node-preserved c =
    let h = c.args.h.now in
    let old = c.loop-node.by_node.items in
    let n = c.loop-node.node in
    let x = c.node_deviation.result in
    let was = c.loop-node.invariant in
    let P = λ (v y : ℕ). (y ≡ deviation_of h v) × (y < 2 ^ 38) in
    let items : c.push.new.self.items ≡ old ++ x ∷ [] = search rules in
    let all : (v : ℕ) → v < n + 1 → P v (get_or c.push.new.self.items v 0) =
    subst (λ l. (v : ℕ) → v < n + 1 → P v (get_or l v 0)) (sym items)
    (pushed 0 P n old x was.len (λ v l. (was.each v l, was.small v l))
    (c.node_deviation.ensures.value, c.node_deviation.ensures.small)) in
    record {
      len = ap length items ∙ length-append old (x ∷ []) ∙ ap (λ (k : ℕ). k + 1) was.len;
      each = λ v l. (all v l).0;
      small = λ v l. (all v l).1;
    }

pub node_deviation-requires-clause-bounds : goal.node_deviation-requires-clause-bounds
node_deviation-requires-clause-bounds c = c.requires.bounds

pub node_deviation-requires-clause-planes : goal.node_deviation-requires-clause-planes
node_deviation-requires-clause-planes c = c.in_ok-planes.ensures.distances

pub node_deviation-requires-clause-lines : goal.node_deviation-requires-clause-lines
node_deviation-requires-clause-lines c = c.in_ok-lines.ensures.distances

pub node_deviation-requires-clause-cosines : goal.node_deviation-requires-clause-cosines
node_deviation-requires-clause-cosines c = c.in_ok-planes.ensures.cosines

pub node_deviation-requires-clause-line_cosines : goal.node_deviation-requires-clause-line_cosines
node_deviation-requires-clause-line_cosines c = c.in_ok-lines.ensures.cosines
