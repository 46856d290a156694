use Rattle.std.proofs.Common.{◌≡◌, ◌+◌, ◌<◌, length, w32, refl, sym, ap, subst, ◌∙◌}
use Rattle.std.proofs.Common.{lit<, arith}
use Rattle.std.proofs.lemmas.List.FromFn.{map-range_with_len_more}
use Rattle.pm_base.proofs.ReadBack.{read_is}
use Rattle.pm_fit.specs.declared.moments.NumberSums.{NumberSums}
use Rattle.pm_fit.specs.declared.moments.Spot.{Spot}
use Rattle.pm_fits.specs.Fits.{number_at, lifted, spot_of, number_terms, leaf_spot, leaf_numbers}
use Rattle.pm_fits.specs.Fits.{numbers_before}
use Rattle.pm_fits.specs.Sums.{plus_numbers, AreNumbersWithin}
use Rattle.pm_fits.proofs.BoundLaws.{numbers_before_small}
use Rattle.pm_fits.proofs.TotalLaws.{numbers_none, numbers_more}
use Rattle.pm_fits.proofs.weights.number_totals.Goals as goal

pub loop-leaf-init : goal.loop-leaf-init
loop-leaf-init c =
    let none = numbers_none c.args.h.now c.args.numbers.now in
    record {
      total = none;
      totals = rw (
        c.push_within_room.ensures.items,
        c.in_ok-reserve.ensures.items,
        c.new-totals.ensures.items,
        ← none,
      ) refl;
      spare = omega (
        arith,
        c.in_ok-reserve.ensures.room,
        c.push_within_room.ensures.spare,
        c.leaves.ensures.value,
      );
    }

pub plus-total-requires-clause-b : goal.plus-total-requires-clause-b
plus-total-requires-clause-b c =
    subst (AreNumbersWithin 1152921504606846976) (sym c.loop-leaf.invariant.total)
    (numbers_before_small c.args.h.now c.invariant.ensures c.args.numbers.now c.requires.len
    c.requires.small c.loop-leaf.leaf (omega arith))

pub loop-leaf-preserved : goal.loop-leaf-preserved
loop-leaf-preserved c =
    let h = c.args.h.now in
    let numbers = c.args.numbers.now in
    let x = c.loop-leaf.leaf in
    let was = c.loop-leaf.invariant in
    let spot : c.spot-place.result ≡ leaf_spot h x =
    c.spot-place.ensures.value ∙ ap (spot_of h) c.leaf_node.ensures.value in
    let inside : x < length numbers = omega (arith, c.requires.len) in
    let read = read_is w32 (number_at numbers x) 2097152 (c.requires.small x inside) (lit< tt) in
    let number : c.lifted.result ≡ lifted (number_at numbers x) =
    c.lifted.ensures.value ∙ ap lifted read in
    let terms : c.number_terms.result ≡ leaf_numbers h numbers x =
    c.number_terms.ensures.value
    ∙ (ap (λ (p : Spot). number_terms p c.lifted.result) spot
    ∙ ap (number_terms (leaf_spot h x)) number) in
    let next : c.plus-total.result ≡ numbers_before h numbers (x + 1) =
    c.plus-total.ensures
    ∙ (ap (λ (s : NumberSums). plus_numbers s c.loop-leaf.total) terms
    ∙ (ap (plus_numbers (leaf_numbers h numbers x)) was.total ∙ numbers_more h numbers x)) in
    record {
      total = next;
      totals = rw (c.push_within_room-in-loop-leaf.ensures.items, was.totals, next)
          (sym (map-range_with_len_more (numbers_before h numbers) 0 (x + 1) (x + 1)
          (omega arith)));
      spare = omega arith;
    }
