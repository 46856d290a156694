use Rattle.pm_commands.proofs.FrameLaws.{scripts_closed}
use Rattle.pm_commands.proofs.LiveLaws.{live_does_as_view}
use Rattle.pm_commands.proofs.outcomes.outcomes_are_sound.Goals as goal

pub returns-clause-closed : goal.returns-clause-closed
returns-clause-closed c = scripts_closed

pub returns-clause-live : goal.returns-clause-live
returns-clause-live c = live_does_as_view
