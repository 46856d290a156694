use Rattle.pm_base.specs.Counts.{set_of}
use Rattle.pm_beyond.specs.Walks.{number_of}
use Rattle.pm_front.specs.State.{IsSoundFront}
use Rattle.pm_strips.proofs.SideLaws.{beyond_is, far_there}
use Rattle.pm_strips.proofs.sides.beyond.Goals as goal

pub returns-clause-value : goal.returns-clause-value
returns-clause-value c =
    let s = c.args.front.now in
    let sound : IsSoundFront s.h s.flags =
    record {
      valid = c.invariant.ensures.valid;
      closed = c.invariant.ensures.closed;
      flag_len =
          c.invariant.ensures.flags;
    } in
    beyond_is s.h s.flags sound c.args.side.0 c.requires (number_of c.beyond.result)
    c.beyond.ensures.stands

pub returns-clause-there : goal.returns-clause-there
returns-clause-there c =
    let s = c.args.front.now in
    far_there s.h c.invariant.ensures.valid (set_of s.flags) c.invariant.ensures.closed
    c.args.side.0 c.beyond.result (returns-clause-value c)
