use Rattle.std.proofs.Common.{lit≤, ◌^◌, unsigned_abs}
use Rattle.std.proofs.lemmas.Int.{to_z-of_z}
use Rattle.pm_quadric.proofs.Words.{at_most_product}
use Rattle.pm_fine.proofs.terms.linear.Goals as goal

pub times-requires : goal.times-requires
times-requires c =
    let fa = c.ranges.coefficient in
    let fx = c.ranges.x in
    simp to_z-of_z (at_most_product (unsigned_abs c.args.coefficient) (unsigned_abs c.args.x)
    (2 ^ 97) 32767 (2 ^ 122) c.requires.coefficient_small c.requires.x_small (lit≤ tt))
