use Rattle.std.proofs.Common.{◌≡◌, map, ap, sym, ◌∙◌, to_z, of_z, w32, rules, arith}
use Rattle.std.proofs.lemmas.List.FromFn.{map-range_with_len_more}
use Rattle.std.specs.List.{range_with_len}
use Rattle.pm_forest.specs.Forest.{leaf_count}
use Rattle.pm_fits.specs.Fits.{number_of, numbers_by_leaf}
use Rattle.pm_fits.proofs.numbers.numbers_by_leaf.Goals as goal

pub loop-leaf-preserved : goal.loop-leaf-preserved
loop-leaf-preserved c =
    let f = number_of c.args.h.now c.args.values.now in
    let x = c.loop-leaf.leaf in
    let read : to_z w32 (of_z w32 c.leaf_number.result) ≡ c.leaf_number.result = search rules in
    let number : to_z w32 (of_z w32 c.leaf_number.result) ≡ f x = read ∙ c.leaf_number.ensures in
    record {
      numbers =
          rw (c.push_within_room.ensures.items, c.loop-leaf.invariant.numbers, number)
          (sym (map-range_with_len_more f 0 x x (omega arith)));
      spare = omega arith;
    }

pub returns : goal.returns
unfolding numbers_by_leaf
returns c =
    let h = c.args.h.now in
    let end : c.loop-leaf.leaf ≡ leaf_count h = omega arith in
    c.loop-leaf.invariant.numbers
    ∙ ap (λ n. map (number_of h c.args.values.now) (range_with_len 0 n)) end
