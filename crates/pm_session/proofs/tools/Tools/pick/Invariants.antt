use Rattle.pm_session.proofs.tools.Tools.pick.Given as goal

abbrev pub ghosts-pick_face : goal.ghosts-pick_face
ghosts-pick_face a = record { name = a.blank.name; parts = a.blank.parts }
