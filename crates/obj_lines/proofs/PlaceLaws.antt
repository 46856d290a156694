-- Where the byte stands that shows the first fault of a text.
use Rattle.std.proofs.Common.{◌≡◌, ℕ, ◌+◌, ◌<◌, ◌≤◌, Bool, true, false, List, [], ◌∷◌, ◌++◌, length}
use Rattle.std.proofs.Common.{Option, Some, None, Result, Ok, Err, IfSome, refl, sym, ap, subst}
use Rattle.std.proofs.Common.{arith, length-append}
use Rattle.std.proofs.lemmas.Bool.{ltb-true}
use Rattle.obj_lines.specs.declared.fault.LineFault.{LineFault}
use Rattle.obj_lines.specs.Text.{until, lines}
use Rattle.obj_lines.specs.Feeding.{has_end}
use Rattle.obj_lines.specs.Rules.{Rules, SoFar, is_past, is_long, place, judged, and_line}
use Rattle.obj_lines.specs.Rules.{then_lines, at_end, reading}
use Rattle.obj_lines.specs.Fails.{FaultNotReached}
use Rattle.obj_lines.proofs.TextLaws.{until_front, First, first_line}

place_case : (bytes : ℕ) (line : List ℕ) (n : ℕ) (past long ended : Bool)
    → is_past bytes (length line) ≡ past → is_long line ≡ long → has_end line ≡ ended
    → n ≤ 1073741824 → n ≤ bytes + 65536
    → (length (until 10 line) < length line → n < bytes + length line)
    → IfSome (place bytes line) (λ p. n < p)
unfolding place
place_case bytes line n true long ended past_is long_is ended_is within near before =
    rw past_is (omega arith)
place_case bytes line n false true ended past_is long_is ended_is within near before =
    rw (past_is, long_is) (omega arith)
place_case bytes line n false false true past_is long_is ended_is within near before =
    rw (past_is, long_is, ended_is) (before (ltb-true _ _ ended_is))
place_case bytes line n false false false past_is long_is ended_is within near before =
    rw (past_is, long_is, ended_is) tt

line_case : {H F : Type 0} (r : Rules H F) (s : SoFar H) (line : List ℕ) (more : List (List ℕ))
    (n : ℕ) (j : Result H (LineFault F)) → n ≤ 1073741824 → n ≤ s.bytes + 65536
    → (length (until 10 line) < length line → n < s.bytes + length line)
    → n ≤ s.bytes + length line
    → ((t : SoFar H) → n ≤ t.bytes → FaultNotReached n (reading r t more))
    → FaultNotReached n (then_lines j s line (λ t. reading r t more))
line_case r s line more n (Ok h) within near before after later = later (and_line s line h) after
line_case r s line more n (Err e) within near before after later =
    place_case s.bytes line n (is_past s.bytes (length line)) (is_long line) (has_end line) refl
    refl refl within near before

end_case : {H F : Type 0} (e : Option (LineFault F)) (h : H) (n : ℕ)
    → FaultNotReached n (at_end e h)
end_case None h n = tt
end_case (Some e) h n = tt

-- Lines that begin after so many bytes.
places_after : {H F : Type 0} (r : Rules H F) (s : SoFar H) (ls : List (List ℕ)) (n : ℕ)
    → n ≤ s.bytes → n ≤ 1073741824 → FaultNotReached n (reading r s ls)
places_after r s [] n le within = end_case (r.end s.number s.held) s.held n
places_after r s (l ∷ ls) n le within =
    line_case r s l ls n (judged r s l) within (omega (arith, le)) (λ some. omega (arith, le, some))
    (omega (arith, le)) (λ t bytes. places_after r t ls n bytes within)

first_case : {H F : Type 0} (r : Rules H F) (s : SoFar H) (line rest : List ℕ)
    → until 10 line ≡ line → length line ≤ 65536 → s.bytes + length line ≤ 1073741824
    → First line rest
    → FaultNotReached (s.bytes + length line) (reading r s (lines (line ++ rest)))
first_case r s line rest clean short within f =
    let u : until 10 (line ++ f.line) ≡ line ++ until 10 f.line =
    until_front 10 line f.line clean in
    let n = length-append line f.line in
    let m = length-append line (until 10 f.line) in
    let e = ap length u in
    subst (FaultNotReached (s.bytes + length line))
    (sym (ap (λ (l : List (List ℕ)). reading r s l) f.are))
    (line_case r s (line ++ f.line) f.more (s.bytes + length line)
    (judged r s (line ++ f.line)) within (omega (arith, short))
    (λ some. omega (arith, n, m, e, some)) (omega (arith, n))
    (λ t bytes. places_after r t f.more (s.bytes + length line) bytes within))

-- Where a line is open, the first fault has its place after the bytes taken.
pub not_reached : {H F : Type 0} (r : Rules H F) (s : SoFar H) (line rest : List ℕ)
    → until 10 line ≡ line → length line ≤ 65536 → s.bytes + length line ≤ 1073741824
    → FaultNotReached (s.bytes + length line) (reading r s (lines (line ++ rest)))
not_reached r s [] [] clean short within = end_case (r.end s.number s.held) s.held (s.bytes + 0)
not_reached r s [] (x ∷ rest) clean short within =
    first_case r s [] (x ∷ rest) clean short within
    (first_line [] (x ∷ rest) clean (omega arith))
not_reached r s (x ∷ line) rest clean short within =
    first_case r s (x ∷ line) rest clean short within
    (first_line (x ∷ line) rest clean (omega arith))
