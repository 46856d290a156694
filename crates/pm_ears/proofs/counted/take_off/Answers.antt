use Rattle.pm_ears.proofs.Counting.{kept_counts}
use Rattle.pm_ears.proofs.counted.take_off.Goals as goal

pub recount-requires-clause-same : goal.recount-requires-clause-same
recount-requires-clause-same c =
    rw (c.deref.ensures.value, c.remove-gone.ensures.items, c.remove.ensures.items)
    (λ i l before here. kept_counts c.args.left.now.items c.args.inside.now.items c.args.at i
    c.remove-gone.result c.requires.at c.requires.counted c.remove-gone.ensures.value l before
    here)
