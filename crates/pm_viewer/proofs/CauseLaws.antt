-- A fault that is told with a place.
use Rattle.std.proofs.Common.{◌≡◌, ℕ, List, Option, Some}
use Rattle.pm_commands.specs.declared.fault.Fault.{Fault}
use Rattle.pm_commands.specs.FaultText.{place_text, fault_text}
use Rattle.pm_viewer.specs.Causes.{Tells}

pub tells_placed :
    (f g : Fault) (number : ℕ) (told : Option ℕ) (n p q : ℕ) (word : List ℕ) → f ≡ g → number ≡ n →
    told ≡ Some p → p ≡ q → fault_text g ≡ place_text n word q → Tells f number told
tells_placed f g number told n p q word is same place from text =
    rw (is, same, place, from) (word, text)
