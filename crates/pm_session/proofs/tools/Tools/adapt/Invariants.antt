use Rattle.pm_session.proofs.tools.Tools.adapt.Given as goal

abbrev pub ghosts-adapt : goal.ghosts-adapt
ghosts-adapt a = record { name = a.blank.name; parts = a.blank.parts }
