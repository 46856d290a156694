use Rattle.pm_change.proofs.changer.Changer.store.Given as goal

abbrev pub ghosts-gather_uncounted : goal.ghosts-gather_uncounted
ghosts-gather_uncounted a = record { name = a.blank.name; parts = a.blank.parts }

abbrev pub ghosts-clear_uncounted : goal.ghosts-clear_uncounted
ghosts-clear_uncounted a = record { name = a.blank.name; parts = a.blank.parts }
