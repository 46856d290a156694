-- Laws of a meaning that tells what the lines of a text gave by rules.
use Rattle.std.proofs.Common.{◌≡◌, ℕ, List, Option, Some, None, Result, Ok, Err, IfSome, sym, ◌∙◌}
use Rattle.std.proofs.Common.{ap, subst}
use Rattle.obj_lines.specs.Rules.{Refused}
use Rattle.obj_lines.specs.Fails.{IsRefusal, FaultNotReached}

-- With what is told of what was held.
abbrev pub told : {H M F : Type 0} → (H → M) → Result H (Refused F) → Result M (Refused F)
told tell (Ok h) = Ok (tell h)
told tell (Err r) = Err r

refusal_told : {H M F : Type 0} (tell : H → M) (fault : F) (line : ℕ) (r : Result H (Refused F))
    → IsRefusal fault line r → IsRefusal fault line (told tell r)
refusal_told tell fault line (Ok h) is = absurd is
refusal_told tell fault line (Err r) is = is

before_told : {H M F : Type 0} (tell : H → M) (taken : ℕ) (r : Result H (Refused F))
    → FaultNotReached taken r → FaultNotReached taken (told tell r)
before_told tell taken (Ok h) is = tt
before_told tell taken (Err r) is = is

-- What was read, the fault that was found, and a place that wasn't reached.
pub told_ok : {H M F : Type 0} (tell : H → M) (given : List ℕ → Result H (Refused F))
    (meaning : List ℕ → Result M (Refused F)) (all : Option (List ℕ)) (end : H)
    → ((bytes : List ℕ) → meaning bytes ≡ told tell (given bytes))
    → IfSome all (λ bytes. given bytes ≡ Ok end)
    → IfSome all (λ bytes. meaning bytes ≡ Ok (tell end))
told_ok tell given meaning None end same read = tt
told_ok tell given meaning (Some bytes) end same read = same bytes ∙ ap (told tell) read

pub told_fault : {H M F : Type 0} (tell : H → M) (given : List ℕ → Result H (Refused F))
    (meaning : List ℕ → Result M (Refused F)) (all : Option (List ℕ)) (fault : F) (line : ℕ)
    → ((bytes : List ℕ) → meaning bytes ≡ told tell (given bytes))
    → IfSome all (λ bytes. IsRefusal fault line (given bytes))
    → IfSome all (λ bytes. IsRefusal fault line (meaning bytes))
told_fault tell given meaning None fault line same refused = tt
told_fault tell given meaning (Some bytes) fault line same refused =
    subst (IsRefusal fault line) (sym (same bytes))
    (refusal_told tell fault line (given bytes) refused)

pub told_before : {H M F : Type 0} (tell : H → M) (given : List ℕ → Result H (Refused F))
    (meaning : List ℕ → Result M (Refused F)) (all : Option (List ℕ)) (taken : ℕ)
    → ((bytes : List ℕ) → meaning bytes ≡ told tell (given bytes))
    → IfSome all (λ bytes. FaultNotReached taken (given bytes))
    → IfSome all (λ bytes. FaultNotReached taken (meaning bytes))
told_before tell given meaning None taken same before = tt
told_before tell given meaning (Some bytes) taken same before =
    subst (FaultNotReached taken) (sym (same bytes)) (before_told tell taken (given bytes) before)
