use Rattle.std.proofs.Common.{◌≡◌, ap, length, sym, subst, ◌∙◌, to_z, of_z, w32, rules, arith}
use Rattle.std.proofs.lemmas.List.{get_or_read}
use Rattle.std.proofs.lemmas.List.FromFn.{map-range_with_len_more}
use Rattle.std.specs.Prelude.{pos}
use Rattle.pm_fits.specs.Fits.{AreNumbers, numbers_by_leaf, range_under, fit_at}
use Rattle.pm_fits.specs.Ranges.{range_of, AreRanges}
use Rattle.pm_fits.specs.Sums.{AreNumberTotals}
use Rattle.pm_fits.proofs.NumberLaws.{length-numbers_by_leaf, numbers_small}
use Rattle.pm_fits.proofs.fits.fits_by.Goals as goal

pub number_totals-requires-clause-len : goal.number_totals-requires-clause-len
number_totals-requires-clause-len c =
    ap length (c.as_slice.ensures ∙ c.in_ok-numbers.ensures)
    ∙ length-numbers_by_leaf c.args.h.now c.args.values.now

pub number_totals-requires-clause-small : goal.number_totals-requires-clause-small
number_totals-requires-clause-small c =
    subst AreNumbers (sym (c.as_slice.ensures ∙ c.in_ok-numbers.ensures))
    (numbers_small c.args.h.now c.args.values.now c.invariant.ensures c.requires.len
    c.requires.small)

pub loop-node-preserved : goal.loop-node-preserved
loop-node-preserved c =
    let h = c.args.h.now in
    let values = c.args.values.now in
    let ns = numbers_by_leaf h values in
    let v = c.loop-node.node in
    let ranges = c.in_ok-ranges.ranges.items in
    let are : AreRanges h ns ranges =
    subst (λ t. AreRanges h t ranges) (c.as_slice-2.ensures ∙ c.in_ok-numbers.ensures)
    c.in_ok-ranges.ensures in
    let totals : AreNumberTotals h ns c.in_ok-totals.totals.items =
    subst (λ t. AreNumberTotals h t c.in_ok-totals.totals.items)
    (c.as_slice.ensures ∙ c.in_ok-numbers.ensures) c.in_ok-totals.ensures in
    let seen = subst (AreNumberTotals h ns) (sym c.as_slice-in-loop-node.ensures) totals in
    let range : c.index-range.result.now ≡ range_under h ns v =
    get_or_read ranges _ _ (omega (arith, are.len)) c.index-range.ensures (range_of (pos 0))
    ∙ are.each v (omega arith) in
    let read : to_z w32 (of_z w32 c.node_fit-fit.result) ≡ c.node_fit-fit.result = search rules in
    let fit : to_z w32 (of_z w32 c.node_fit-fit.result) ≡ fit_at h values v =
    read ∙ c.node_fit-fit.ensures ns seen range in
    record {
      fits = rw (c.push_within_room.ensures.items, c.loop-node.invariant.fits, fit)
          (sym (map-range_with_len_more (fit_at h values) 0 v v (omega arith)));
      spare = omega arith;
    }
