use Rattle.std.proofs.Common.{◌+◌, ◌*◌, ◌<◌, length, subst, arith}
use Rattle.pm_base.proofs.NetLaws.{first_side, second_side, third_side}
use Rattle.pm_turn.proofs.areas.area_of.Goals as goal

pub area-requires-clause-a : goal.area-requires-clause-a
area-requires-clause-a c =
    subst (λ i. i < length c.args.places.now) (first_side c.args.faces.now c.args.face).0
    (c.requires.placed (3 * c.args.face) (omega (arith, c.requires.in_range)))

pub area-requires-clause-b : goal.area-requires-clause-b
area-requires-clause-b c =
    subst (λ i. i < length c.args.places.now) (second_side c.args.faces.now c.args.face).0
    (c.requires.placed (3 * c.args.face + 1) (omega (arith, c.requires.in_range)))

pub area-requires-clause-c : goal.area-requires-clause-c
area-requires-clause-c c =
    subst (λ i. i < length c.args.places.now) (third_side c.args.faces.now c.args.face).0
    (c.requires.placed (3 * c.args.face + 2) (omega (arith, c.requires.in_range)))
