use Rattle.std.proofs.Common.{◌≡◌, ◌+◌, refl, sym, ap, subst, ◌∙◌, arith}
use Rattle.std.proofs.lemmas.List.FromFn.{map-range_with_len_more}
use Rattle.pm_fit.specs.declared.moments.PlaceSums.{PlaceSums}
use Rattle.pm_fit.specs.declared.moments.Spot.{Spot}
use Rattle.pm_fits.specs.Fits.{spot_of, place_terms, leaf_spot, leaf_places, places_before}
use Rattle.pm_fits.specs.Sums.{plus_places, ArePlacesWithin}
use Rattle.pm_fits.proofs.BoundLaws.{places_before_small}
use Rattle.pm_fits.proofs.TotalLaws.{places_none, places_more}
use Rattle.pm_fits.proofs.places.place_totals.Goals as goal

pub loop-leaf-init : goal.loop-leaf-init
loop-leaf-init c =
    let none = places_none c.args.h.now in
    record {
      total = none;
      totals = rw (
        c.push_within_room.ensures.items,
        c.in_ok-reserve.ensures.items,
        c.new-totals.ensures.items,
        ← none,
      ) refl;
      spare = omega (
        arith,
        c.in_ok-reserve.ensures.room,
        c.push_within_room.ensures.spare,
        c.leaves.ensures.value,
      );
    }

pub plus-total-requires-clause-b : goal.plus-total-requires-clause-b
plus-total-requires-clause-b c =
    let h = c.args.h.now in
    subst (ArePlacesWithin 1152921504606846976 1152921504606846976)
    (sym c.loop-leaf.invariant.total)
    (places_before_small h c.invariant.ensures c.loop-leaf.leaf (omega arith))

pub loop-leaf-preserved : goal.loop-leaf-preserved
loop-leaf-preserved c =
    let h = c.args.h.now in
    let x = c.loop-leaf.leaf in
    let was = c.loop-leaf.invariant in
    let spot : c.spot.result ≡ leaf_spot h x =
    c.spot.ensures.value ∙ ap (spot_of h) c.leaf_node.ensures.value in
    let terms : c.place_terms.result ≡ leaf_places h x =
    c.place_terms.ensures.value ∙ ap (λ (p : Spot). place_terms p) spot in
    let next : c.plus-total.result ≡ places_before h (x + 1) =
    c.plus-total.ensures
    ∙ (ap (λ (s : PlaceSums). plus_places s c.loop-leaf.total) terms
    ∙ (ap (plus_places (leaf_places h x)) was.total ∙ places_more h x)) in
    record {
      total = next;
      totals = rw (c.push_within_room-in-loop-leaf.ensures.items, was.totals, next)
          (sym (map-range_with_len_more (places_before h) 0 (x + 1) (x + 1) (omega arith)));
      spare = omega arith;
    }
