use Rattle.std.proofs.Common.{w32, FitsSigned, rules, lit≤, ◌^◌, unsigned_abs}
use Rattle.std.proofs.lemmas.Int.{to_z-of_z}
use Rattle.pm_quadric.proofs.Words.{at_most_product}
use Rattle.pm_fine.proofs.terms.quadratic.Goals as goal

pub times-requires : goal.times-requires
times-requires c =
    let fa = c.ranges.coefficient in
    let fr : FitsSigned w32 c.product.result = search rules in
    simp to_z-of_z
    (at_most_product (unsigned_abs c.args.coefficient) (unsigned_abs c.product.result) (2 ^ 80)
    1073676289 (2 ^ 122) c.requires.coefficient_small c.product.ensures.small (lit≤ tt))
