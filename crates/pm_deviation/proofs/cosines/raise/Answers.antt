use Rattle.std.proofs.Common.{◌≡◌, ◌<◌, max, get_or, None, ap, ◌∙◌, arith}
use Rattle.std.proofs.lemmas.List.{get_or_default}
use Rattle.pm_forest.specs.Forest.{node_count}
use Rattle.pm_deviation.specs.Normals.{cosine_by}
use Rattle.pm_deviation.proofs.CosineTables.{raise_start, raise_step}
use Rattle.pm_deviation.proofs.cosines.raise.Goals as goal

pub loop-v-init : goal.loop-v-init
loop-v-init c =
    raise_start c.args.h.now c.args.axis c.args.spreads.now c.args.cosines.now.items c.requires.len

pub loop-v-preserved : goal.loop-v-preserved
loop-v-preserved c =
    let h = c.args.h.now in
    let now = c.loop-v.cosines.items in
    let spreads = c.args.spreads.now in
    let v = c.loop-v.v in
    let was = c.loop-v.invariant in
    let len = was.len in
    let below : v < node_count h = omega (arith, c.loop-v-test.true, c.nodes-v-end.ensures.value) in
    let read : c.index.result.now ≡ get_or now v 0 =
    c.index.ensures ∙ get_or_default now v c.index.result.now 0 (omega arith) in
    let along : c.cosine_by.result ≡ cosine_by c.args.axis (get_or spreads v None) =
    c.cosine_by.ensures in
    raise_step h c.args.axis spreads c.args.cosines.now.items now v c.max.result below was
    (c.max.ensures ∙ ap (λ x. max x c.cosine_by.result) read ∙ ap (max (get_or now v 0)) along)
