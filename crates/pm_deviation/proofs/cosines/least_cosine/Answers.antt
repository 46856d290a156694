use Rattle.std.proofs.Common.{refl, pos, ◌-ℤ◌, FitsSigned, w32, lit<, rules}
use Rattle.std.proofs.lemmas.Int.{to_z-of_z}
use Rattle.pm_base.proofs.ReadBack.{fits_small}
use Rattle.pm_deviation.proofs.WordLaws.{zero_minus, minus_small}
use Rattle.pm_deviation.proofs.cosines.least_cosine.Goals as goal

pub above_zero-requires : goal.above_zero-requires
above_zero-requires c =
    let f : FitsSigned w32 c.args.spread.low = search rules in
    simp to_z-of_z c.requires.small.0

pub overflow_sub-spread : goal.overflow_sub-spread
overflow_sub-spread c =
    let high = c.args.spread.high in
    let f : FitsSigned w32 high = search rules in
    let small = minus_small high 49152 c.requires.small.1 in
    simp to_z-of_z (fits_small w32 (pos 0 -ℤ high) 49152 small (lit< tt))

pub above_zero-requires-2 : goal.above_zero-requires-2
above_zero-requires-2 c =
    let high = c.args.spread.high in
    let f : FitsSigned w32 high = search rules in
    let small = minus_small high 49152 c.requires.small.1 in
    let g : FitsSigned w32 (pos 0 -ℤ high) =
    fits_small w32 (pos 0 -ℤ high) 49152 small (lit< tt) in
    simp to_z-of_z small

pub length-requires : goal.length-requires
length-requires c = c.requires.axis

pub nonzero_div-result : goal.nonzero_div-result
nonzero_div-result c = c.length.ensures.some

pub returns : goal.returns
returns c =
    let high = c.args.spread.high in
    let fl : FitsSigned w32 c.args.spread.low = search rules in
    let fh : FitsSigned w32 high = search rules in
    let small = minus_small high 49152 c.requires.small.1 in
    let fm : FitsSigned w32 (pos 0 -ℤ high) =
    fits_small w32 (pos 0 -ℤ high) 49152 small (lit< tt) in
    let low_side = simp to_z-of_z at c.above_zero.ensures.value in
    let high_side = simp to_z-of_z at c.above_zero-2.ensures.value in
    rw (c.max-side.ensures, low_side, high_side, zero_minus, c.length.ensures.value) refl
