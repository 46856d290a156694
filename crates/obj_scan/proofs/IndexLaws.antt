-- Laws of the fields of a face.
use Rattle.std.proofs.Common.{◌≡◌, ℕ, true, false, nat_le, List, [], ◌∷◌, ◌++◌, length, Result, Ok}
use Rattle.std.proofs.Common.{Err, refl, ◌∙◌, ap, arith}
use Rattle.std.proofs.lemmas.Bool.Decides.{nat_tests}
use Rattle.obj_read.specs.declared.fault.ObjFault.{ObjFault}
use Rattle.obj_read.specs.declared.fault.ObjFault.TheVariants as faults
use Rattle.obj_read.specs.Judged.{◌>>=◌}
use Rattle.obj_scan.specs.Judged.{indices, polygon_of, polygon_line}

-- Three fields, one after the other.
pub three_fields : (a b c : List ℕ) (fs gs hs more : List (List ℕ)) → fs ≡ a ∷ gs → gs ≡ b ∷ hs
    → hs ≡ c ∷ more → fs ≡ a ∷ b ∷ c ∷ more
three_fields a b c fs gs hs more first second third =
    first ∙ ap (λ l. a ∷ l) (second ∙ ap (λ l. b ∷ l) third)

-- These corners, and those that follow.
abbrev pub and_then : List ℕ → Result (List ℕ) ObjFault → Result (List ℕ) ObjFault
and_then corners (Ok vs) = Ok (corners ++ vs)
and_then corners (Err e) = Err e

pub face_of_few : (n k : ℕ) (fs : List (List ℕ)) → nat_le 3 (length fs) ≡ false
    → polygon_line n k fs ≡ Err faults.TooFewFields
face_of_few n k [] few = refl
face_of_few n k (a ∷ []) few = refl
face_of_few n k (a ∷ b ∷ []) few = refl
face_of_few n k (a ∷ b ∷ c ∷ fs) few = absurd (grind (arith, nat_tests, few))

pub face_of_three : (n k : ℕ) (fs : List (List ℕ)) → nat_le 3 (length fs) ≡ true
    → polygon_line n k fs ≡ (indices n fs >>= polygon_of k)
face_of_three n k [] some = absurd (grind (arith, nat_tests, some))
face_of_three n k (a ∷ []) some = absurd (grind (arith, nat_tests, some))
face_of_three n k (a ∷ b ∷ []) some = absurd (grind (arith, nat_tests, some))
face_of_three n k (a ∷ b ∷ c ∷ fs) some = refl
