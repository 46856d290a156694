use Rattle.std.proofs.Common.{refl}
use Rattle.pm_base.specs.Sides.{net_of}
use Rattle.pm_turn.proofs.turning.turns.Goals as goal

pub join_all-requires-clause-begun : goal.join_all-requires-clause-begun
join_all-requires-clause-begun c = c.in_ok-patches.ensures.begun (net_of c.args.faces.now) refl
