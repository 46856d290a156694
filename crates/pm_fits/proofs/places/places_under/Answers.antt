use Rattle.std.proofs.Common.{◌+◌, get_or, ap, ◌∙◌, arith}
use Rattle.pm_forest.specs.Forest.{leaf_count}
use Rattle.pm_fit.specs.declared.moments.PlaceSums.{PlaceSums}
use Rattle.pm_fits.specs.Fits.{places_before}
use Rattle.pm_fits.specs.Sums.{less_places}
use Rattle.pm_fits.proofs.TotalLaws.{no_places, entry, entries, inside, places_left, places_up_to}
use Rattle.pm_fits.proofs.places.places_under.Goals as goal

pub bounds-totals-until : goal.bounds-totals-until
bounds-totals-until c =
    let h = c.args.h.now in
    let len = entries (places_before h) (leaf_count h + 1) c.args.totals.now c.requires.totals in
    let ends = inside h c.invariant.ensures c.args.node.0 _ _ c.requires.node
    c.interval-from.ensures in
    omega (arith, len, ends.1)

pub bounds-totals-from : goal.bounds-totals-from
bounds-totals-from c =
    let h = c.args.h.now in
    let len = entries (places_before h) (leaf_count h + 1) c.args.totals.now c.requires.totals in
    let ends = inside h c.invariant.ensures c.args.node.0 _ _ c.requires.node
    c.interval-from.ensures in
    omega (arith, len, ends.0, ends.1)

pub less-requires : goal.less-requires
less-requires c =
    let h = c.args.h.now in
    let ends = inside h c.invariant.ensures c.args.node.0 _ _ c.requires.node
    c.interval-from.ensures in
    let until = entry (places_before h) (leaf_count h + 1) c.interval-from.result.1
    c.args.totals.now no_places c.requires.totals ends.1 in
    let from = entry (places_before h) (leaf_count h + 1) c.interval-from.result.0
    c.args.totals.now no_places c.requires.totals (omega (arith, ends.0, ends.1)) in
    rw (until, from)
    (places_up_to h c.invariant.ensures c.args.node.0 _ _ c.requires.node c.interval-from.ensures)

pub returns : goal.returns
returns c =
    let h = c.args.h.now in
    let ends = inside h c.invariant.ensures c.args.node.0 _ _ c.requires.node
    c.interval-from.ensures in
    let until = entry (places_before h) (leaf_count h + 1) c.interval-from.result.1
    c.args.totals.now no_places c.requires.totals ends.1 in
    let from = entry (places_before h) (leaf_count h + 1) c.interval-from.result.0
    c.args.totals.now no_places c.requires.totals (omega (arith, ends.0, ends.1)) in
    c.less.ensures
    ∙ (ap (λ (s : PlaceSums). less_places s
    (get_or c.args.totals.now c.interval-from.result.0 no_places)) until
    ∙ (ap (λ (s : PlaceSums). less_places (places_before h c.interval-from.result.1) s) from
    ∙ places_left h c.invariant.ensures c.args.node.0 _ _ c.requires.node
    c.interval-from.ensures))
