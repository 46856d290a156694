use Rattle.pm_change.proofs.changer.Changer.write.Given as goal

abbrev pub ghosts-write_uncounted : goal.ghosts-write_uncounted
ghosts-write_uncounted g a = record { name = a.blank.name; parts = a.blank.parts }
