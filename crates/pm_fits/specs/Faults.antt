-- Which numbers of the input's vertices have no fits.
use Rattle.std.specs.Prelude.{ℕ, ℤ, nat_le, Bool, not, ◌==◌, List, length, Option, None, Some}
use Rattle.std.specs.Prelude.{if◌then◌else◌, ◌≡◌, ◌⊎◌, unsigned_abs}
use Rattle.std.specs.List.{list_all}
use Rattle.pm_fits.specs.declared.faults.FitFault.{FitFault}
use Rattle.pm_fits.specs.declared.faults.FitFault.TheVariants.{Count, Number, OutOfMemory}
use Rattle.pm_fits.specs.declared.numbers.TheConstants.{GREATEST_NUMBER}

-- A number is from -2,097,152 to 2,097,152.
abbrev pub is_number : ℤ → Bool
is_number n = nat_le (unsigned_abs n) GREATEST_NUMBER

-- What is wrong with numbers of which there should be n: how many they are, or else one of them.
abbrev pub number_fault : ℕ → List ℤ → Option FitFault
number_fault n values =
    if not (length values == n) then Some Count
    else if list_all is_number values then None
    else Some Number

-- An answer is the fault of the numbers, or tells of memory where they have none.
abbrev pub IsRefusal : Option FitFault → FitFault → Type 0
IsRefusal fault e = (fault ≡ Some e) ⊎ ((fault ≡ None) × (e ≡ OutOfMemory))
