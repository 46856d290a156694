use Rattle.std.proofs.Common.{◌+◌, ◌*◌, ◌<◌, length, subst, arith}
use Rattle.pm_base.proofs.NetLaws.{first_side, second_side, third_side}
use Rattle.pm_turn.proofs.volumes.volume_of.Goals as goal

pub volume-requires-clause-a : goal.volume-requires-clause-a
volume-requires-clause-a c =
    subst (λ i. i < length c.args.places.now) (first_side c.args.faces.now c.args.face).0
    (c.requires.placed (3 * c.args.face) (omega (arith, c.requires.in_range)))

pub volume-requires-clause-b : goal.volume-requires-clause-b
volume-requires-clause-b c =
    subst (λ i. i < length c.args.places.now) (second_side c.args.faces.now c.args.face).0
    (c.requires.placed (3 * c.args.face + 1) (omega (arith, c.requires.in_range)))

pub volume-requires-clause-c : goal.volume-requires-clause-c
volume-requires-clause-c c =
    subst (λ i. i < length c.args.places.now) (third_side c.args.faces.now c.args.face).0
    (c.requires.placed (3 * c.args.face + 2) (omega (arith, c.requires.in_range)))
