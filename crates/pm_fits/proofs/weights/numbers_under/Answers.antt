use Rattle.std.proofs.Common.{◌+◌, get_or, ap, ◌∙◌, arith}
use Rattle.pm_forest.specs.Forest.{leaf_count}
use Rattle.pm_fit.specs.declared.moments.NumberSums.{NumberSums}
use Rattle.pm_fits.specs.Fits.{numbers_before}
use Rattle.pm_fits.specs.Sums.{less_numbers}
use Rattle.pm_fits.proofs.TotalLaws.{no_numbers, entry, entries, inside, numbers_left}
use Rattle.pm_fits.proofs.TotalLaws.{numbers_up_to}
use Rattle.pm_fits.proofs.weights.numbers_under.Goals as goal

pub bounds-totals-until : goal.bounds-totals-until
bounds-totals-until c =
    let h = c.args.h.now in
    let (numbers, are) = c.requires.totals in
    let len = entries (numbers_before h numbers) (leaf_count h + 1) c.args.totals.now are.are in
    let ends = inside h c.invariant.ensures c.args.node.0 _ _ c.requires.node
    c.interval-from.ensures in
    omega (arith, len, ends.1)

pub bounds-totals-from : goal.bounds-totals-from
bounds-totals-from c =
    let h = c.args.h.now in
    let (numbers, are) = c.requires.totals in
    let len = entries (numbers_before h numbers) (leaf_count h + 1) c.args.totals.now are.are in
    let ends = inside h c.invariant.ensures c.args.node.0 _ _ c.requires.node
    c.interval-from.ensures in
    omega (arith, len, ends.0, ends.1)

pub less-requires : goal.less-requires
less-requires c =
    let h = c.args.h.now in
    let (numbers, are) = c.requires.totals in
    let ends = inside h c.invariant.ensures c.args.node.0 _ _ c.requires.node
    c.interval-from.ensures in
    let until = entry (numbers_before h numbers) (leaf_count h + 1) c.interval-from.result.1
    c.args.totals.now no_numbers are.are ends.1 in
    let from = entry (numbers_before h numbers) (leaf_count h + 1) c.interval-from.result.0
    c.args.totals.now no_numbers are.are (omega (arith, ends.0, ends.1)) in
    rw (until, from)
    (numbers_up_to h c.invariant.ensures c.args.node.0 _ _ c.requires.node c.interval-from.ensures
    numbers)

pub returns : goal.returns
returns c = λ numbers are.
    (let h = c.args.h.now in
    let ends = inside h c.invariant.ensures c.args.node.0 _ _ c.requires.node
    c.interval-from.ensures in
    let until = entry (numbers_before h numbers) (leaf_count h + 1) c.interval-from.result.1
    c.args.totals.now no_numbers are.are ends.1 in
    let from = entry (numbers_before h numbers) (leaf_count h + 1) c.interval-from.result.0
    c.args.totals.now no_numbers are.are (omega (arith, ends.0, ends.1)) in
    c.less.ensures
    ∙ (ap (λ (s : NumberSums). less_numbers s
    (get_or c.args.totals.now c.interval-from.result.0 no_numbers)) until
    ∙ (ap (λ (s : NumberSums). less_numbers
    (numbers_before h numbers c.interval-from.result.1) s) from
    ∙ numbers_left h c.invariant.ensures c.args.node.0 _ _ c.requires.node
    c.interval-from.ensures numbers)))
