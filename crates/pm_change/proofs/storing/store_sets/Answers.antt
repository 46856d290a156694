use Rattle.std.proofs.Common.{arith}
use Rattle.pm_base.specs.Counts.{set_of}
use Rattle.pm_change.proofs.PartLaws.{nodes_most, faces_most}
use Rattle.pm_change.proofs.StoreLaws.{begins, leaves}
use Rattle.pm_change.proofs.storing.store_sets.Goals as goal

pub store_numbers-requires-clause-few : goal.store_numbers-requires-clause-few
store_numbers-requires-clause-few c =
    let most = faces_most c.args.front.now.h c.invariant.ensures.valid.shape in
    omega (arith, c.requires.room.gone_faces)

pub store_numbers-requires-2-clause-few : goal.store_numbers-requires-2-clause-few
store_numbers-requires-2-clause-few c =
    let most = nodes_most c.args.front.now.h c.invariant.ensures.valid.shape in
    omega (arith, c.requires.room.gone_nodes)

pub store_numbers-requires-3-clause-few : goal.store_numbers-requires-3-clause-few
store_numbers-requires-3-clause-few c =
    let most = nodes_most c.args.front.now.h c.invariant.ensures.valid.shape in
    omega (arith, c.requires.room.new_nodes)

pub store_numbers-requires-4-clause-few : goal.store_numbers-requires-4-clause-few
store_numbers-requires-4-clause-few c =
    let most = faces_most c.args.front.now.h c.invariant.ensures.valid.shape in
    omega (arith, c.requires.room.put_faces)

pub returns-clause-arrays : goal.returns-clause-arrays
returns-clause-arrays c =
    begins c.args.front.now.h (set_of c.args.front.now.flags) c.args.sets.now
    c.store_numbers.new.to c.store_numbers-2.new.to c.store_numbers-3.new.to
    c.store_places.new.to c.store_numbers-4.new.to c.store_corners.new.to
    c.store_numbers.ensures.stored c.store_numbers-2.ensures.stored
    c.store_numbers-3.ensures.stored c.store_places.ensures.stored
    c.store_numbers-4.ensures.stored c.store_corners.ensures.stored

pub returns-clause-behind : goal.returns-clause-behind
returns-clause-behind c =
    let a = c.args in
    leaves a.front.now.h (set_of a.front.now.flags) a.sets.now
    a.gone_faces.now a.gone_nodes.now a.new_nodes.now a.new_places.now a.put_faces.now
    a.put_corners.now c.store_numbers.new.to c.store_numbers-2.new.to c.store_numbers-3.new.to
    c.store_places.new.to c.store_numbers-4.new.to c.store_corners.new.to
    c.store_numbers.ensures.behind c.store_numbers-2.ensures.behind
    c.store_numbers-3.ensures.behind c.store_places.ensures.behind
    c.store_numbers-4.ensures.behind c.store_corners.ensures.behind
