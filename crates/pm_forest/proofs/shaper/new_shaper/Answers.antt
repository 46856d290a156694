use Rattle.pm_forest.proofs.ShapingLaws.{nothing_fits}
use Rattle.pm_forest.proofs.shaper.new_shaper.Goals as goal

pub invariant_of-result : goal.invariant_of-result
invariant_of-result c =
    nothing_fits c.args.counts c.in_ok-forest.forest c.in_ok-vertices_seen.vertices_seen.items
    c.in_ok-faces_seen.faces_seen.items
    c.requires c.in_ok-forest.ensures
    c.in_ok-vertices_seen.ensures.none c.in_ok-vertices_seen.ensures.len
    c.in_ok-faces_seen.ensures.none c.in_ok-faces_seen.ensures.len
