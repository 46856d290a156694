-- What a line is judged to be, and what the meaning of a text is where its first line has a fault.
use Rattle.std.proofs.Common.{◌≡◌, ℕ, ◌+◌, ◌<◌, ◌≤◌, min, true, false, List, [], ◌∷◌, ◌++◌, length}
use Rattle.std.proofs.Common.{nat_lt, Result, Err, refl, sym, ◌∙◌, ap, subst, arith, length-append}
use Rattle.std.proofs.lemmas.Bool.{le-ltb, lt-ltb}
use Rattle.obj_lines.specs.declared.fault.LineFault.{LineFault}
use Rattle.obj_lines.specs.Text.{until, lines}
use Rattle.obj_lines.specs.Rules.{Rules, SoFar, place, judged, then_lines, reading, refused_at}
use Rattle.obj_lines.specs.Fails.{IsRefusal}
use Rattle.obj_lines.proofs.TextLaws.{until_front, lines_whole, First, first_line}
use Rattle.obj_lines.proofs.CutLaws.{before_end}

-- A line that is neither too long nor past the end of the text is taken.
pub judged_line : {H F : Type 0} (r : Rules H F) (s : SoFar H) (text line : List ℕ)
    → until 10 line ≡ text → length text ≤ 65536 → s.bytes + length line ≤ 1073741824
    → judged r s line ≡ r.take s.number s.held text
unfolding judged
judged_line r s text line is short within =
    let past : nat_lt 1073741824 (s.bytes + min (length line) 65537) ≡ false =
    le-ltb _ _ (omega (arith, within)) in
    let n : length (until 10 line) ≤ 65536 =
    subst (λ (l : List ℕ). length l ≤ 65536) (sym is) short in
    let long : nat_lt 65536 (length (until 10 line)) ≡ false = le-ltb _ _ n in
    rw (past, long) (ap (λ (l : List ℕ). r.take s.number s.held l) is)

-- A line has a fault whatever follows its front.
refused_first : {H F : Type 0} (r : Rules H F) (s : SoFar H) (text rest : List ℕ)
    (f : First text rest) (e : LineFault F) → judged r s (text ++ f.line) ≡ Err e
    → IsRefusal e.fault e.line (reading r s (lines (text ++ rest)))
refused_first {H} {F} r s text rest f e is =
    let all : reading r s (lines (text ++ rest))
    ≡ Err (refused_at e (place s.bytes (text ++ f.line))) =
    ap (λ (l : List (List ℕ)). reading r s l) f.are
    ∙ ap (λ (j : Result H (LineFault F)). then_lines j s (text ++ f.line)
    (λ t. reading r t f.more)) is in
    subst (IsRefusal e.fault e.line) (sym all) (refl, refl)

-- A whole line has a fault.
pub refused_whole : {H F : Type 0} (r : Rules H F) (s : SoFar H) (text rest : List ℕ)
    (e : LineFault F) → until 10 text ≡ text → length text ≤ 65536
    → s.bytes + length text + 1 ≤ 1073741824 → r.take s.number s.held text ≡ Err e
    → IsRefusal e.fault e.line (reading r s (lines (text ++ 10 ∷ rest)))
refused_whole {H} {F} r s text rest e clean short within is =
    let line = text ++ 10 ∷ [] in
    let j : judged r s line ≡ Err e =
    judged_line r s text line (before_end text clean) short
    (omega (arith, within, length-append text (10 ∷ []))) ∙ is in
    let all : reading r s (lines (text ++ 10 ∷ rest))
    ≡ Err (refused_at e (place s.bytes line)) =
    ap (λ (l : List (List ℕ)). reading r s l) (lines_whole text rest clean)
    ∙ ap (λ (x : Result H (LineFault F)). then_lines x s line
    (λ t. reading r t (lines rest))) j in
    subst (IsRefusal e.fault e.line) (sym all) (refl, refl)

-- A line is too long.
pub refused_long : {H F : Type 0} (r : Rules H F) (s : SoFar H) (front rest : List ℕ)
    → until 10 front ≡ front → 65536 < length front → s.bytes + 65537 ≤ 1073741824
    → IsRefusal r.too_long s.number (reading r s (lines (front ++ rest)))
unfolding judged
refused_long r s front rest clean long within =
    let f = first_line front rest clean (omega (arith, long, length-append front rest)) in
    let past : nat_lt 1073741824 (s.bytes + min (length (front ++ f.line)) 65537) ≡ false =
    le-ltb _ _ (omega (arith, within)) in
    let n : 65536 < length (until 10 (front ++ f.line)) =
    subst (λ (l : List ℕ). 65536 < length l) (sym (until_front 10 front f.line clean))
    (omega (arith, long, length-append front (until 10 f.line))) in
    let over : nat_lt 65536 (length (until 10 (front ++ f.line))) ≡ true = lt-ltb _ _ n in
    refused_first r s front rest f (record { fault = r.too_long; line = s.number })
    (rw (past, over) refl)

-- A byte comes after the last one that a text may have.
pub refused_past : {H F : Type 0} (r : Rules H F) (s : SoFar H) (line rest : List ℕ)
    → until 10 line ≡ line → length line ≤ 65536 → s.bytes + length line ≡ 1073741824
    → 0 < length rest
    → IsRefusal r.too_many s.number (reading r s (lines (line ++ rest)))
unfolding judged
refused_past r s line rest clean short at some =
    let f = first_line line rest clean (omega (arith, some, length-append line rest)) in
    let k : 0 < length f.line = f.longer some in
    let past : nat_lt 1073741824 (s.bytes + min (length (line ++ f.line)) 65537) ≡ true =
    lt-ltb _ _ (omega (arith, k, at, short, length-append line f.line)) in
    refused_first r s line rest f (record { fault = r.too_many; line = s.number })
    (rw past refl)
