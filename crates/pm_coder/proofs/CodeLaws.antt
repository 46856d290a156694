-- A decoder reads the choices that were written.
use Rattle.std.proofs.Common.{◌≡◌, ℕ, Bool, true, false, List, ◌∷◌, ◌++◌}
use Rattle.std.proofs.Common.{length, drop, refl, arith, append_assoc, length-append, nat_le}
use Rattle.std.proofs.Math.Seq.{drop-append_seam}
use Rattle.std.proofs.lemmas.Bool.Decides.{nat_tests}
use Rattle.pm_coder.specs.declared.interval.Interval.{Interval}
use Rattle.pm_coder.specs.Intervals.{Choice, choice, mid, narrowed, choice_bytes, after}
use Rattle.pm_coder.specs.Coding.{AreFit, Progress, code_from, window, passed, IsRead}
use Rattle.pm_coder.proofs.IntervalLaws.{IsWide, after-wide}
use Rattle.pm_coder.proofs.HoldLaws.{Holds, window-append, part-holds, code_from-holds}

-- What a part's number says of the choice.
part-says : (i : Interval) (bit : Bool) (share : ℕ) (bytes : List ℕ)
    → Holds (narrowed i (choice bit share)) bytes
    → bit ≡ nat_le (window bytes) (mid i share)
part-says i true share bytes h = grind (arith, nat_tests, h.high)
part-says i false share bytes h = grind (arith, nat_tests, h.low)

-- A decoder at the code bytes of choices.
abbrev pub at_code : Interval → List Choice → List ℕ → Progress
at_code i cs more = record { interval = i; bytes = code_from i cs ++ more }

code_from-more : (c : Choice) (cs : List Choice) (i : Interval)
    → code_from i (c ∷ cs) ≡ choice_bytes i c ++ code_from (after i c) cs
unfolding code_from
code_from-more c cs i = refl

-- The first choice is read.
pub first-is_read : (c : Choice) (cs : List Choice) (i : Interval) (more : List ℕ) → IsWide i
    → AreFit (c ∷ cs) → IsRead (at_code i (c ∷ cs) more) c
first-is_read c cs i more w f =
    let rest = code_from-holds cs (after i c) (after-wide i c w f.0) f.1 in
    let held = part-holds c cs i w f.0 rest in
    let all = choice_bytes i c ++ code_from (after i c) cs in
    let says = part-says i c.bit c.share all held in
    let same = window-append all more held.long in
    let whole = code_from-more c cs i in
    let one = length-append (choice_bytes i c) (code_from (after i c) cs) in
    let two = length-append all more in
    record {
      said = rw (whole, same) says;
      enough = rw (whole, two, one) (omega (arith, rest.long));
    }

-- The rest stands at the code bytes of the other choices.
pub first-passed : (c : Choice) (cs : List Choice) (i : Interval) (more : List ℕ)
    → passed (at_code i (c ∷ cs) more) c ≡ at_code (after i c) cs more
first-passed c cs i more =
    let taken : drop (length (choice_bytes i c)) (code_from i (c ∷ cs) ++ more)
    ≡ code_from (after i c) cs ++ more =
    rw (code_from-more c cs i, append_assoc)
    (drop-append_seam (choice_bytes i c) (code_from (after i c) cs ++ more)) in
    rw taken refl
