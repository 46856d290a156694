use Rattle.pm_number.proofs.LawsProved as law
use Rattle.pm_number.proofs.FirmRuns as firm
use Rattle.pm_number.proofs.theory.numbers_are_sound.Goals as goal

pub returns-clause-shape : goal.returns-clause-shape
returns-clause-shape c = law.have_shape

pub returns-clause-mesh : goal.returns-clause-mesh
returns-clause-mesh c = law.keep_meshes

pub returns-clause-shown : goal.returns-clause-shown
returns-clause-shown c = law.are_shown

pub returns-clause-valid : goal.returns-clause-valid
returns-clause-valid c = law.are_valid

pub returns-clause-firm : goal.returns-clause-firm
returns-clause-firm c = firm.are_firm
