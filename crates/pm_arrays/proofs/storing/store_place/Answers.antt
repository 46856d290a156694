use Rattle.std.proofs.Common.{rules}
use Rattle.pm_arrays.proofs.StoreLaws.{three_stored}
use Rattle.pm_arrays.proofs.storing.store_place.Goals as goal

pub returns-clause-stored : goal.returns-clause-stored
returns-clause-stored c =
    three_stored c.args.count c.store_coordinate-3.new.to c.store_coordinate-2.new.to
    c.store_coordinate.new.to c.args.to.now c.args.place.now.x c.args.place.now.y
    c.args.place.now.z (search rules) (search rules) (search rules)
