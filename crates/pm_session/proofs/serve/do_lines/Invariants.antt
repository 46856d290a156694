use Rattle.std.proofs.Common.{◌≡◌, ℕ, ◌+◌, ◌-◌, ◌≤◌, min, List, drop, length, Option}
use Rattle.std.specs.Io.KnownBytes.{prepend_known}
use Rattle.pm_session.specs.Steps.{Begun, StillShows, IsReady}
use Rattle.pm_session.specs.Holding.{Filled, IsHolding, holding_at, underway}
use Rattle.pm_session.proofs.serve.do_lines.Given as goal

abbrev pub invariant-loop-used : goal.invariant-loop-used
invariant-loop-used g l = record {
  within : l.used ≤ length l.piece;
  eats : l.fn.used ≤ l.used;
  ready : IsReady l.line.items l.at;
  further : l.fn.at.before + length l.fn.line.items + min 1 (l.used - l.fn.used)
      ≤ l.at.before + length l.line.items;
  hierarchy : l.session.h ≡ l.fn.session.h;
  grammar : l.session.grammar ≡ l.fn.session.grammar;
  serves : (b : Begun) (f : Filled) (left : Option (List ℕ)) → StillShows b l.fn.session
      → IsHolding b f (holding_at l.fn.session l.fn.at l.fn.line.items
      (prepend_known (drop l.fn.used l.piece) left) (g.K.Sink.got l.fn.out) l.fn.page)
      (underway (g.K.Sink.got l.fn.out) l.fn.page (drop l.fn.used l.piece))
      → IsHolding b f (holding_at l.session l.at l.line.items
      (prepend_known (drop l.used l.piece) left) (g.K.Sink.got l.out) l.page)
      (underway (g.K.Sink.got l.out) l.page (drop l.used l.piece));
  count : g.K.Sink.faults l.out ≡ g.K.Sink.faults l.fn.out;
}

abbrev pub decreases-loop-used : goal.decreases-loop-used
decreases-loop-used g l = length l.piece - l.used
