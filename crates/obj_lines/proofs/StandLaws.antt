-- How the reading goes on from place to place, and what a failure there says of the whole text.
use Rattle.std.proofs.Common.{◌≡◌, ℕ, ◌+◌, ◌≤◌, List, [], ◌∷◌, ◌++◌, length, take, drop, Option}
use Rattle.std.proofs.Common.{Some, None, Result, Ok, IfSome, refl, sym, ◌∙◌, ap, subst, arith}
use Rattle.std.proofs.Common.{length-append, append_assoc}
use Rattle.std.specs.Io.KnownBytes.{prepend_known}
use Rattle.std.proofs.lemmas.List.{take-append-drop}
use Rattle.pm_io.proofs.Known.{loses_both, loses_none}
use Rattle.obj_lines.specs.declared.fault.LineFault.{LineFault}
use Rattle.obj_lines.specs.Text.{until, lines}
use Rattle.obj_lines.specs.Rules.{Rules, SoFar, Refused, and_line, then_lines, reading}
use Rattle.obj_lines.specs.Rules.{nothing_yet, text_read}
use Rattle.obj_lines.specs.Reading.{StandsAt}
use Rattle.obj_lines.specs.Fails.{IsRefusal, FaultNotReached, FailsBefore}
use Rattle.obj_lines.proofs.TextLaws.{lines_whole}
use Rattle.obj_lines.proofs.CutLaws.{before_end}
use Rattle.obj_lines.proofs.JudgeLaws.{judged_line}
use Rattle.obj_lines.proofs.PlaceLaws.{not_reached}

-- At the start nothing was taken.
pub stands_start : {H F : Type 0} (r : Rules H F) (h : H) (whole : Option (List ℕ))
    → StandsAt r h whole (prepend_known [] whole) (nothing_yet h) []
unfolding text_read
stands_start r h None = record { same = refl; taken = []; took = refl; count = refl }
stands_start r h (Some bytes) = record { same = refl; taken = []; took = refl; count = refl }

-- From one place in the text to the next: the piece's front a is taken, and b is left of it.
stands_on : {H F : Type 0} {r : Rules H F} {h : H} (whole left : Option (List ℕ))
    (piece a b : List ℕ) (s t : SoFar H) (line line' : List ℕ)
    → StandsAt r h whole (prepend_known piece left) s line → piece ≡ a ++ b
    → ((rest : List ℕ) → reading r s (lines (line ++ (a ++ rest)))
    ≡ reading r t (lines (line' ++ rest)))
    → s.bytes + length line + length a ≡ t.bytes + length line'
    → StandsAt r h whole (prepend_known b left) t line'
stands_on whole None piece a b s t line line' stands is on bytes = record {
  same = stands.same;
  taken = stands.taken ++ a;
  took = loses_both whole None None stands.taken a stands.took refl;
  count = omega (arith, length-append stands.taken a, stands.count, bytes);
}
stands_on {H} {F} {r} {h} whole (Some rest) piece a b s t line line' stands is on bytes = record {
  same = stands.same ∙ ap (λ (l : List ℕ). Some (reading r s (lines (line ++ (l ++ rest))))) is
      ∙ ap (λ (l : List ℕ). Some (reading r s (lines (line ++ l)))) (append_assoc a b rest)
      ∙ ap (λ (m : Result H (Refused F)). Some m) (on (b ++ rest));
  taken = stands.taken ++ a;
  took = loses_both whole (Some (piece ++ rest)) (Some (b ++ rest)) stands.taken a stands.took
      (ap (λ (l : List ℕ). Some l) (ap (λ (l : List ℕ). l ++ rest) is ∙ append_assoc a b rest));
  count = omega (arith, length-append stands.taken a, stands.count, bytes);
}

-- The line goes on.
pub stands_partial : {H F : Type 0} {r : Rules H F} {h : H} (whole left : Option (List ℕ))
    (piece : List ℕ) (n : ℕ) (s : SoFar H) (line : List ℕ)
    → StandsAt r h whole (prepend_known piece left) s line
    → StandsAt r h whole (prepend_known (drop n piece) left) s (line ++ take n piece)
stands_partial {H} {F} {r} {h} whole left piece n s line stands =
    stands_on whole left piece (take n piece) (drop n piece) s s line (line ++ take n piece) stands
    (sym (take-append-drop n piece))
    (λ rest. ap (λ (l : List ℕ). reading r s (lines l))
    (sym (append_assoc line (take n piece) rest)))
    (omega (arith, length-append line (take n piece)))

-- After a line with its LF, whose bytes before that are text, where this is held.
abbrev pub line_later : {H : Type 0} → SoFar H → List ℕ → H → SoFar H
line_later s text h = record {
  bytes = s.bytes + length text + 1;
  number = s.number + 1;
  held = h;
}

and_whole : {H : Type 0} (s : SoFar H) (text : List ℕ) (h : H)
    → and_line s (text ++ 10 ∷ []) h ≡ line_later s text h
and_whole s text h =
    let n : s.bytes + length (text ++ 10 ∷ []) ≡ s.bytes + length text + 1 =
    omega (arith, length-append text (10 ∷ [])) in
    rw n refl

whole_on : {H F : Type 0} (r : Rules H F) (s : SoFar H) (line text a : List ℕ) (h : H)
    → until 10 text ≡ text → line ++ a ≡ text ++ 10 ∷ [] → length text ≤ 65536
    → s.bytes + length text + 1 ≤ 1073741824 → r.take s.number s.held text ≡ Ok h
    → (rest : List ℕ) → reading r s (lines (line ++ (a ++ rest)))
    ≡ reading r (line_later s text h) (lines rest)
whole_on {H} {F} r s line text a h clean is short within takes rest =
    let cut : line ++ (a ++ rest) ≡ text ++ 10 ∷ rest =
    sym (append_assoc line a rest) ∙ ap (λ (l : List ℕ). l ++ rest) is
    ∙ append_assoc text (10 ∷ []) rest in
    ap (λ (l : List ℕ). reading r s (lines l)) cut
    ∙ ap (λ (l : List (List ℕ)). reading r s l) (lines_whole text rest clean)
    ∙ ap (λ (j : Result H (LineFault F)). then_lines j s (text ++ 10 ∷ [])
    (λ t. reading r t (lines rest)))
    (judged_line r s text (text ++ 10 ∷ []) (before_end text clean) short
    (omega (arith, within, length-append text (10 ∷ []))) ∙ takes)
    ∙ ap (λ (t : SoFar H). reading r t (lines rest)) (and_whole s text h)

-- The line is whole.
pub stands_whole : {H F : Type 0} {r : Rules H F} {h : H} (whole left : Option (List ℕ))
    (piece : List ℕ) (n : ℕ) (s : SoFar H) (line text : List ℕ) (new : H)
    → StandsAt r h whole (prepend_known piece left) s line → until 10 text ≡ text
    → line ++ take n piece ≡ text ++ 10 ∷ [] → length text ≤ 65536
    → s.bytes + length text + 1 ≤ 1073741824 → r.take s.number s.held text ≡ Ok new
    → StandsAt r h whole (prepend_known (drop n piece) left) (line_later s text new) []
stands_whole {H} {F} {r} {h} whole left piece n s line text new stands clean is short within
    takes =
    let e = ap length is in
    stands_on whole left piece (take n piece) (drop n piece) s (line_later s text new) line []
    stands (sym (take-append-drop n piece))
    (whole_on r s line text (take n piece) new clean is short within takes)
    (omega (arith, e, length-append line (take n piece), length-append text (10 ∷ [])))

-- What the rest of the text is refused for is what the whole is refused for.
pub explains_fault : {H F : Type 0} {r : Rules H F} {h : H} (whole left : Option (List ℕ))
    (piece : List ℕ) (s : SoFar H) (line : List ℕ) (e : LineFault F)
    → StandsAt r h whole (prepend_known piece left) s line
    → ((rest : List ℕ) → IsRefusal e.fault e.line (reading r s (lines (line ++ (piece ++ rest)))))
    → IfSome whole (λ bytes. IsRefusal e.fault e.line (text_read r h bytes))
explains_fault None left piece s line e stands refused = tt
explains_fault (Some bytes) None piece s line e stands refused = let same = stands.same in cc
explains_fault {H} {F} {r} {h} (Some bytes) (Some rest) piece s line e stands refused =
    let same = stands.same in
    let is : text_read r h bytes ≡ reading r s (lines (line ++ (piece ++ rest))) = cc in
    subst (IsRefusal e.fault e.line) (sym is) (refused rest)

-- A reading that fails where the window is empty.
pub explains_read : {H F : Type 0} {r : Rules H F} {h : H} (whole left : Option (List ℕ))
    (s : SoFar H) (line : List ℕ) → StandsAt r h whole (prepend_known [] left) s line
    → until 10 line ≡ line → length line ≤ 65536 → s.bytes + length line ≤ 1073741824
    → FailsBefore r h whole left
explains_read None left s line stands clean short within = record {
  taken = stands.taken;
  took = stands.took ∙ ap (λ (o : Option (List ℕ)). prepend_known stands.taken o)
      (sym (loses_none left));
  before = tt;
}
explains_read (Some bytes) None s line stands clean short within = let same = stands.same in cc
explains_read {H} {F} {r} {h} (Some bytes) (Some rest) s line stands clean short within =
    let same = stands.same in
    let e : text_read r h bytes ≡ reading r s (lines (line ++ rest)) = cc in
    record {
      taken = stands.taken;
      took = stands.took;
      before = subst (λ (k : ℕ). FaultNotReached k (text_read r h bytes)) (sym stands.count)
          (subst (FaultNotReached (s.bytes + length line)) (sym e)
          (not_reached r s line rest clean short within));
    }
