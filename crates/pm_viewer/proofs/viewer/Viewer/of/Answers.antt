use Rattle.std.proofs.Common.{ℕ, ap}
use Rattle.pm_session.specs.Session.{Shown}
use Rattle.pm_viewer.specs.Viewing.{Replied, Viewed}
use Rattle.pm_viewer.proofs.viewer.Viewer.of.Goals as goal

pub returns : goal.returns
returns c = ap (λ (r : Replied). made c.args.session.value c.args.digits r) c.in_ok-reply.ensures
  where
    made : Shown → ℕ → Replied → Viewed
    made s d r = record { shown = s; digits = d; reply = r.got }
