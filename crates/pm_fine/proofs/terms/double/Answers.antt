use Rattle.std.proofs.Common.{FitsSigned, lit≤, rules}
use Rattle.std.proofs.Math.Nat.{le_trans}
use mir.Syntax.{w128}
use Rattle.std.proofs.lemmas.Int.{to_z-of_z}
use Rattle.pm_quadric.proofs.ReadBack.{twice_fits}
use Rattle.pm_fine.proofs.terms.double.Goals as goal

pub overflow_mul-result : goal.overflow_mul-result
overflow_mul-result c =
    let fa = c.ranges.a in
    let fb = c.ranges.b in
    let e = simp to_z-of_z at c.pair.ensures in
    let fr : FitsSigned w128 c.pair.result = search rules in
    rw (to_z-of_z w128 c.pair.result fr, e)
    (twice_fits c.args.a c.args.b (le_trans c.requires.a_small (lit≤ tt))
    (le_trans c.requires.b_small (lit≤ tt)))

pub returns : goal.returns
returns c =
    let fa = c.ranges.a in
    let fb = c.ranges.b in
    let e = simp to_z-of_z at c.pair.ensures in
    let fr : FitsSigned w128 c.pair.result = search rules in
    rw (to_z-of_z w128 c.pair.result fr, e)
    (to_z-of_z w128 _ (twice_fits c.args.a c.args.b (le_trans c.requires.a_small (lit≤ tt))
    (le_trans c.requires.b_small (lit≤ tt))))
