use Rattle.pm_beyond.proofs.PlanTheory as law
use Rattle.pm_beyond.proofs.theory.plans_are_sound.Goals as goal

pub returns-clause-least : goal.returns-clause-least
returns-clause-least c = law.targets

pub returns-clause-legal : goal.returns-clause-legal
returns-clause-legal c = law.legal

pub returns-clause-closed : goal.returns-clause-closed
returns-clause-closed c = law.stay_closed

pub returns-clause-on : goal.returns-clause-on
returns-clause-on c = law.go_on

pub returns-clause-there : goal.returns-clause-there
returns-clause-there c = law.lead_there

pub returns-clause-short : goal.returns-clause-short
returns-clause-short c = law.short
