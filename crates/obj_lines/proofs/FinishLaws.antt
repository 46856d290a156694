-- The start and the end of the reading.
use Rattle.std.proofs.Common.{◌≡◌, ℕ, ◌+◌, ◌⊎◌, inl, inr, true, List, [], ◌∷◌, ◌++◌, length}
use Rattle.std.proofs.Common.{Option, Some, None, Result, Ok, Err, IfSome, IfOk, IfErr, OnOk, sym}
use Rattle.std.proofs.Common.{◌∙◌, ap, subst, arith, refl}
use Rattle.std.specs.Io.KnownBytes.{prepend_known}
use Rattle.std.proofs.lemmas.List.{append-nil}
use Rattle.pm_io.specs.Bytes.{AtEnd}
use Rattle.pm_io.proofs.Known.{loses_none}
use Rattle.obj_lines.specs.declared.state.LineState.{LineState}
use Rattle.obj_lines.specs.declared.state.LineState.TheVariants as states
use Rattle.obj_lines.specs.declared.fault.LineFault.{LineFault}
use Rattle.obj_lines.specs.declared.fault.TextFail.{TextFail}
use Rattle.obj_lines.specs.declared.fault.TextFail.TheVariants as fails
use Rattle.obj_lines.specs.declared.step.Progress.{Progress}
use Rattle.obj_lines.specs.Text.{until, lines}
use Rattle.obj_lines.specs.Feeding.{Feeding, begun, is_line, is_going, open_line, end_state}
use Rattle.obj_lines.specs.Feeding.{finished}
use Rattle.obj_lines.specs.Rules.{Rules, SoFar, Refused, then_lines, at_end, reading, text_read}
use Rattle.obj_lines.specs.Reading.{StandsAt, IsBetween, so_far}
use Rattle.obj_lines.specs.Fails.{IsLineFault, IsRefusal, IsRefused, Explains}
use Rattle.obj_lines.proofs.TextLaws.{lines_last}
use Rattle.obj_lines.proofs.FedLaws.{end_none, end_some}
use Rattle.obj_lines.proofs.JudgeLaws.{judged_line}
use Rattle.obj_lines.proofs.StandLaws.{stands_start}

-- Before the first byte.
abbrev pub start : Progress
start = record { taken = 0; start = 0; number = 1 }

pub start_between : (f : Feeding) → f ≡ begun → IsBetween f start
start_between f is =
    let line : open_line f ≡ [] = ap open_line is in
    let long = ap length line in
    record {
      going = ap (λ (x : Feeding). is_going x.state) is;
      clean = ap (until 10) line ∙ sym line;
      short = omega (arith, long);
      at = omega (arith, long);
      counted = ap (λ (x : Feeding). x.taken) is;
      room = omega arith;
      numbered = omega arith;
    }

-- Where some bytes are held, and none of all were read.
pub held_stands : {H F : Type 0} (r : Rules H F) (h : H) (first : List ℕ)
    (left : Option (List ℕ)) (f : Feeding) → f ≡ begun
    → StandsAt r h (prepend_known first left) (prepend_known first left) (so_far start h)
    (open_line f)
held_stands r h first left f is =
    let all = prepend_known first left in
    subst (λ (o : Option (List ℕ)). StandsAt r h all o (so_far start h) (open_line f))
    (sym (loses_none all))
    (subst (λ (l : List ℕ). StandsAt r h all (prepend_known [] all) (so_far start h) l)
    (sym (ap open_line is)) (stands_start r h all))

-- At the end of input the open line is what is left.
rest_is : {H F : Type 0} {r : Rules H F} {h : H} (all now : Option (List ℕ)) (s : SoFar H)
    (line : List ℕ) → StandsAt r h all now s line → AtEnd now
    → IfSome all (λ bytes. text_read r h bytes ≡ reading r s (lines line))
rest_is None now s line stands end = tt
rest_is (Some bytes) None s line stands end = let e = stands.same in cc
rest_is {H} {F} {r} {h} (Some bytes) (Some rest) s line stands end =
    let same = stands.same in
    let e : text_read r h bytes ≡ reading r s (lines (line ++ rest)) = cc in
    e ∙ ap (λ (l : List ℕ). reading r s (lines (line ++ l))) end
    ∙ ap (λ (l : List ℕ). reading r s (lines l)) (append-nil line)

pub ended_ok : {H F : Type 0} {r : Rules H F} {h : H} (all now : Option (List ℕ)) (s : SoFar H)
    (line : List ℕ) (new : H) → StandsAt r h all now s line → AtEnd now
    → reading r s (lines line) ≡ Ok new → IfSome all (λ bytes. text_read r h bytes ≡ Ok new)
ended_ok None now s line new stands end is = tt
ended_ok (Some bytes) now s line new stands end is =
    rest_is (Some bytes) now s line stands end ∙ is

pub ended_err : {H F : Type 0} {r : Rules H F} {h : H} (all now left : Option (List ℕ))
    (s : SoFar H) (line : List ℕ) (fail : TextFail F) → StandsAt r h all now s line → AtEnd now
    → IsRefused fail (reading r s (lines line)) → Explains r h fail all left
ended_err all now left s line fails.Read stands end is = absurd is
ended_err all now left s line fails.OutOfMemory stands end is = tt
ended_err None now left s line (fails.Fault e) stands end is = tt
ended_err (Some bytes) now left s line (fails.Fault e) stands end is =
    subst (IsRefusal e.fault e.line) (sym (rest_is (Some bytes) now s line stands end)) is

-- No line is open.
pub last_none : {H F : Type 0} (r : Rules H F) (s : SoFar H) (line : List ℕ) (state : LineState)
    → state ≡ end_state line → (state ≡ states.Partial) ⊎ (state ≡ states.TooLong)
    → reading r s (lines line) ≡ at_end (r.end s.number s.held) s.held
last_none r s line state at (inl is) =
    ap (λ (l : List ℕ). reading r s (lines l)) (end_none line (ap is_line (sym at ∙ is)))
last_none r s line state at (inr is) =
    ap (λ (l : List ℕ). reading r s (lines l)) (end_none line (ap is_line (sym at ∙ is)))

-- A line is open.
is_last : (line : List ℕ) (state : LineState) → state ≡ end_state line → (state ≡ states.Whole)
    ⊎ (state ≡ states.Continued) → is_line (end_state line) ≡ true
is_last line state at (inl is) = ap is_line (sym at ∙ is)
is_last line state at (inr is) = ap is_line (sym at ∙ is)

pub last_is_line : (f f' : Feeding) (state : LineState) → state ≡ end_state (open_line f)
    → (state ≡ states.Whole) ⊎ (state ≡ states.Continued) → f' ≡ finished f
    → is_line f'.state ≡ true
unfolding finished
last_is_line f f' state at which fs =
    ap (λ (x : Feeding). is_line x.state) fs ∙ is_last (open_line f) state at which

last_judged : {H F : Type 0} (r : Rules H F) (h : H) (p : Progress) (f f' : Feeding)
    (state : LineState) (j : Result H (LineFault F)) → IsBetween f p
    → state ≡ end_state (open_line f) → (state ≡ states.Whole) ⊎ (state ≡ states.Continued)
    → f' ≡ finished f → r.take p.number h f'.text ≡ j
    → reading r (so_far p h) (lines (open_line f))
    ≡ then_lines j (so_far p h) (open_line f) (λ t. reading r t [])
last_judged {H} {F} r h p f f' state j ready at which fs takes =
    let line = open_line f in
    let s : SoFar H = so_far p h in
    let e = end_some f (is_last line state at which) in
    let is_text : f'.text ≡ line = ap (λ (x : Feeding). x.text) fs ∙ e.text in
    ap (λ (l : List (List ℕ)). reading r s l) (lines_last line ready.clean e.some)
    ∙ ap (λ (x : Result H (LineFault F)). then_lines x s line (λ t. reading r t []))
    (judged_line r s line line ready.clean ready.short (omega (arith, ready.at, ready.room))
    ∙ ap (λ (l : List ℕ). r.take p.number h l) (sym is_text) ∙ takes)

-- The last line has no fault: what is so at the end comes after it.
pub last_ok : {H F : Type 0} (r : Rules H F) (h new : H) (p : Progress) (f f' : Feeding)
    (state : LineState) → IsBetween f p → state ≡ end_state (open_line f)
    → (state ≡ states.Whole) ⊎ (state ≡ states.Continued)
    → f' ≡ finished f → r.take p.number h f'.text ≡ Ok new
    → reading r (so_far p h) (lines (open_line f)) ≡ at_end (r.end (p.number + 1) new) new
last_ok r h new p f f' state ready at which fs takes =
    last_judged r h p f f' state (Ok new) ready at which fs takes

-- The last line has a fault.
pub last_err : {H F : Type 0} (r : Rules H F) (h : H) (p : Progress) (f f' : Feeding)
    (state : LineState) (fail : TextFail F) → IsBetween f p → state ≡ end_state (open_line f)
    → (state ≡ states.Whole) ⊎ (state ≡ states.Continued)
    → f' ≡ finished f → IsLineFault fail (r.take p.number h f'.text)
    → IsRefused fail (reading r (so_far p h) (lines (open_line f)))
last_err r h p f f' state fails.Read ready at which fs fault = absurd fault
last_err r h p f f' state fails.OutOfMemory ready at which fs fault = tt
last_err r h p f f' state (fails.Fault e) ready at which fs found =
    subst (IsRefusal e.fault e.line)
    (sym (last_judged r h p f f' state (Err e) ready at which fs found)) (refl, refl)

-- What a failure says, of a meaning that is the same.
pub refused_same : {T F : Type 0} (fail : TextFail F) (a b : Result T (Refused F)) → a ≡ b
    → IsRefused fail b → IsRefused fail a
refused_same fail a b same is = subst (IsRefused fail) (sym same) is

-- From what holds of an answer to what follows from it.
pub if_ok : {T E : Type 0} (r : Result T E) (P Q : T → Type 0) → ((x : T) → P x → Q x) → IfOk r P
    → IfOk r Q
if_ok (Ok x) P Q each is = each x is
if_ok (Err e) P Q each is = tt

pub if_err : {T E : Type 0} (r : Result T E) (P Q : E → Type 0) → ((e : E) → P e → Q e) → IfErr r P
    → IfErr r Q
if_err (Ok x) P Q each is = tt
if_err (Err e) P Q each is = each e is

pub on_ok : {T E : Type 0} (r : Result T E) (P : Type 0) → P → OnOk r P
on_ok (Ok x) P is = is
on_ok (Err e) P is = tt

-- What holds where an answer is good, of what holds then.
pub then_ok : {T E : Type 0} (r : Result T E) (P Q : Type 0) → (P → Q) → OnOk r P → OnOk r Q
then_ok (Ok x) P Q each is = each is
then_ok (Err e) P Q each is = tt

-- Where the window and what the source has left are nothing, the source has nothing left.
pub left_at_end : (window : List ℕ) (left : Option (List ℕ)) → AtEnd (prepend_known window left)
    → AtEnd left
left_at_end window None end = tt
left_at_end [] (Some bytes) end = end
left_at_end (x ∷ window) (Some bytes) end = cc
