-- One step of the reading, over plain variables: a lemma for each thing that a step has to say.
use Rattle.std.proofs.Common.{◌≡◌, ℕ, ◌+◌, ◌<◌, ◌≤◌, ◌⊎◌, List, [], ◌∷◌, ◌++◌, length, take, drop}
use Rattle.std.proofs.Common.{Option, Ok, IfSome, refl, sym, ◌∙◌, ap, subst, arith}
use Rattle.std.proofs.Common.{length-append, append_assoc}
use Rattle.std.specs.Io.KnownBytes.{prepend_known}
use Rattle.std.proofs.lemmas.List.{take-append-drop, length-take-le, take-take}
use Rattle.obj_lines.specs.declared.state.LineState.{LineState}
use Rattle.obj_lines.specs.declared.state.LineState.TheVariants as states
use Rattle.obj_lines.specs.declared.fault.LineFault.{LineFault}
use Rattle.obj_lines.specs.declared.fault.TextFail.{TextFail}
use Rattle.obj_lines.specs.declared.fault.TextFail.TheVariants as fails
use Rattle.obj_lines.specs.declared.step.Progress.{Progress}
use Rattle.obj_lines.specs.Text.{until, lines}
use Rattle.obj_lines.specs.Feeding.{Feeding, is_going, open_line, fed_state, fed_used, fed}
use Rattle.obj_lines.specs.Rules.{Rules, SoFar, reading, text_read}
use Rattle.obj_lines.specs.Reading.{StandsAt, IsBetween, so_far}
use Rattle.obj_lines.specs.Fails.{IsLineFault, IsRefusal, FailsBefore, Explains}
use Rattle.obj_lines.proofs.TextLaws.{until_front, until_twice, until_split}
use Rattle.obj_lines.proofs.FedLaws.{goes_on, whole, too_long}
use Rattle.obj_lines.proofs.JudgeLaws.{refused_whole, refused_long, refused_past}
use Rattle.obj_lines.proofs.StandLaws.{stands_partial, stands_whole, line_later, explains_fault}
use Rattle.obj_lines.proofs.StandLaws.{explains_read}

-- The source failed where the window is empty.
pub failed : {H F : Type 0} {r : Rules H F} {h : H} (all left left' : Option (List ℕ))
    (window : List ℕ) (s : SoFar H) (line : List ℕ)
    → StandsAt r h all (prepend_known window left) s line → window ≡ [] → left' ≡ left
    → until 10 line ≡ line → length line ≤ 65536 → s.bytes + length line ≤ 1073741824
    → FailsBefore r h all left'
failed {H} {F} {r} {h} all left left' window s line stands empty same clean short within =
    explains_read all left' s line
    (subst (λ (o : Option (List ℕ)). StandsAt r h all o s line)
    (ap (λ (l : List ℕ). prepend_known l left) empty
    ∙ ap (λ (o : Option (List ℕ)). prepend_known [] o) (sym same)) stands) clean short within

-- There is a byte past the last one that a text may have.
pub past : {H F : Type 0} {r : Rules H F} {h : H} (all before left : Option (List ℕ))
    (piece : List ℕ) (s : SoFar H) (line : List ℕ) (fault : F) → StandsAt r h all before s line
    → before ≡ prepend_known piece left → until 10 line ≡ line → length line ≤ 65536
    → s.bytes + length line ≡ 1073741824 → 0 < length piece → fault ≡ r.too_many
    → IfSome all
    (λ bytes. IsRefusal fault s.number (text_read r h bytes))
past {H} {F} {r} {h} all before left piece s line fault stands is clean short at some named =
    explains_fault all left piece s line (record { fault = fault; line = s.number })
    (subst (λ (o : Option (List ℕ)). StandsAt r h all o s line) is stands)
    (λ rest. rw named (refused_past r s line (piece ++ rest) clean short at
    (omega (arith, some, length-append piece rest))))

-- The line is too long.
pub long : {H F : Type 0} {r : Rules H F} {h : H} (all before left : Option (List ℕ))
    (piece : List ℕ) (m : ℕ) (s : SoFar H) (f : Feeding) (fault : F)
    → StandsAt r h all before s (open_line f) → before ≡ prepend_known piece left
    → fed_state (open_line f) (take m piece) ≡ states.TooLong → until 10 (open_line f) ≡ open_line f
    → m ≤ length piece → s.bytes + length (open_line f) + m ≤ 1073741824 → fault ≡ r.too_long
    → IfSome all
    (λ bytes. IsRefusal fault s.number (text_read r h bytes))
long {H} {F} {r} {h} all before left piece m s f fault stands is state clean le within named =
    let line = open_line f in
    let p = take m piece in
    let u = until 10 p in
    let v = drop (length u) p in
    let over : 65536 < length line + length u = too_long f p state in
    let split : p ≡ u ++ v = until_split 10 p in
    let ls = ap length split in
    let front : until 10 (line ++ u) ≡ line ++ u =
    until_front 10 line u clean ∙ ap (λ (l : List ℕ). line ++ l) (until_twice 10 p) in
    let cut : (rest : List ℕ) → line ++ (piece ++ rest) ≡ (line ++ u)
    ++ (v ++ (drop m piece ++ rest)) = λ rest.
    ap (λ (l : List ℕ). line ++ (l ++ rest)) (sym (take-append-drop m piece))
    ∙ ap (λ (l : List ℕ). line ++ l) (append_assoc p (drop m piece) rest)
    ∙ ap (λ (l : List ℕ). line ++ (l ++ (drop m piece ++ rest))) split
    ∙ ap (λ (l : List ℕ). line ++ l) (append_assoc u v (drop m piece ++ rest))
    ∙ sym (append_assoc line u (v ++ (drop m piece ++ rest))) in
    let e : LineFault F = record { fault = fault; line = s.number } in
    explains_fault all left piece s line e
    (subst (λ (o : Option (List ℕ)). StandsAt r h all o s line) is stands)
    (λ rest. subst (λ (l : List ℕ). IsRefusal e.fault e.line (reading r s (lines l)))
    (sym (cut rest))
    (rw named (refused_long r s (line ++ u) (v ++ (drop m piece ++ rest)) front
    (omega (arith, over, length-append line u))
    (omega (arith, over, within, ls, length-append u v, length-take-le m piece le)))))

-- The line goes on.
pub partial_between : (f f' : Feeding) (piece : List ℕ) (p p' : Progress) (n : ℕ)
    → IsBetween f p → fed_state (open_line f) piece ≡ states.Partial → f' ≡ fed f piece
    → n ≡ fed_used (open_line f) piece → p.taken + length piece ≤ 1073741824
    → p'.taken ≡ p.taken + n → p'.start ≡ p.start → p'.number ≡ p.number → IsBetween f' p'
partial_between f f' piece p p' n ready state is used within taken start number =
    let g = goes_on f piece state in
    let line : open_line f' ≡ open_line f ++ piece = ap open_line is ∙ g.opened in
    let long = ap length line in
    let n_is : n ≡ length piece = used ∙ g.used in
    let counted = ap (λ (x : Feeding). x.taken) is in
    record {
      going = ap (λ (x : Feeding). is_going x.state) is ∙ g.going;
      clean = ap (until 10) line ∙ until_front 10 (open_line f) piece ready.clean
          ∙ ap (λ (l : List ℕ). open_line f ++ l) g.clean ∙ sym line;
      short = omega (arith, long, g.short, length-append (open_line f) piece);
      at = omega (arith, long, n_is, ready.at, length-append (open_line f) piece);
      counted = omega (arith, counted, g.taken, n_is, ready.counted);
      room = omega (arith, n_is, within);
      numbered = omega (arith, ready.numbered);
    }

pub partial_stands : {H F : Type 0} {r : Rules H F} {h : H} (all before left : Option (List ℕ))
    (piece window window' : List ℕ) (m n : ℕ) (s : SoFar H) (f f' : Feeding)
    → StandsAt r h all before s (open_line f) → before ≡ prepend_known piece left
    → fed_state (open_line f) (take m piece) ≡ states.Partial → f' ≡ fed f (take m piece)
    → n ≡ fed_used (open_line f) (take m piece) → m ≤ length piece → window' ≡ drop n window
    → window ≡ piece
    → StandsAt r h all (prepend_known window' left) s (open_line f')
partial_stands {H} {F} {r} {h} all before left piece window window' m n s f f' stands is state fs
    used le ws same =
    let g = goes_on f (take m piece) state in
    let n_is : n ≡ m = used ∙ g.used ∙ length-take-le m piece le in
    let line : open_line f' ≡ open_line f ++ take n piece =
    ap open_line fs ∙ g.opened ∙ ap (λ (k : ℕ). open_line f ++ take k piece) (sym n_is) in
    let on = stands_partial all left piece n s (open_line f)
    (subst (λ (o : Option (List ℕ)). StandsAt r h all o s (open_line f)) is stands) in
    subst (λ (l : List ℕ). StandsAt r h all (prepend_known l left) s (open_line f'))
    (ap (λ (l : List ℕ). drop n l) (sym same) ∙ sym ws)
    (subst (λ (l : List ℕ). StandsAt r h all (prepend_known (drop n piece) left) s l) (sym line)
    on)

-- The line is whole.
pub whole_between : (f f' : Feeding) (piece : List ℕ) (state : LineState) (p p' : Progress) (n : ℕ)
    → IsBetween f p → state ≡ fed_state (open_line f) piece
    → (state ≡ states.Whole) ⊎ (state ≡ states.Continued) → f' ≡ fed f piece
    → n ≡ fed_used (open_line f) piece → p.taken + length piece ≤ 1073741824
    → p'.taken ≡ p.taken + n → p'.start ≡ p.taken + n → p'.number ≡ p.number + 1
    → IsBetween f' p'
whole_between f f' piece state p p' n ready are which is used within taken start number =
    let g = whole f piece state are which in
    let line : open_line f' ≡ [] = ap open_line is ∙ g.opened in
    let long = ap length line in
    let n_is : n ≡ length (until 10 piece) + 1 = used ∙ g.used in
    let counted = ap (λ (x : Feeding). x.taken) is in
    record {
      going = ap (λ (x : Feeding). is_going x.state) is ∙ g.going;
      clean = ap (until 10) line ∙ sym line;
      short = omega (arith, long);
      at = omega (arith, long, taken, start);
      counted = omega (arith, counted, g.taken, n_is, ready.counted, taken);
      room = omega (arith, n_is, within, g.within, taken);
      numbered = omega (arith, n_is, ready.numbered, ready.at, start, number);
    }

-- What the piece adds to the open line ends the line.
record Ends (f : Feeding) (piece : List ℕ) (m n : ℕ) : Type 0 where
  clean : until 10 (open_line f ++ until 10 (take m piece)) ≡ open_line f
      ++ until 10 (take m piece)
  cut : open_line f ++ take n piece ≡ (open_line f ++ until 10 (take m piece)) ++ 10 ∷ []
  short : length (open_line f ++ until 10 (take m piece)) ≤ 65536
  used : n ≡ length (until 10 (take m piece)) + 1
  within : n ≤ m

ends : (f : Feeding) (piece : List ℕ) (m n : ℕ) (state : LineState)
    → state ≡ fed_state (open_line f) (take m piece) → (state ≡ states.Whole)
    ⊎ (state ≡ states.Continued)
    → n ≡ fed_used (open_line f) (take m piece) → m ≤ length piece
    → until 10 (open_line f) ≡ open_line f → Ends f piece m n
ends f piece m n state are which used le clean =
    let p = take m piece in
    let g = whole f p state are which in
    let n_is : n ≡ length (until 10 p) + 1 = used ∙ g.used in
    let most : n ≤ m = omega (arith, n_is, g.within, length-take-le m piece le) in
    let taken : take n piece ≡ until 10 p ++ 10 ∷ [] =
    sym (take-take n m piece most) ∙ ap (λ (k : ℕ). take k p) n_is ∙ g.cut in
    record {
      clean = until_front 10 (open_line f) (until 10 p) clean
          ∙ ap (λ (l : List ℕ). open_line f ++ l) (until_twice 10 p);
      cut = ap (λ (l : List ℕ). open_line f ++ l) taken
          ∙ sym (append_assoc (open_line f) (until 10 p) (10 ∷ []));
      short = omega (arith, g.short, length-append (open_line f) (until 10 p));
      used = n_is;
      within = most;
    }

pub whole_stands : {H F : Type 0} {r : Rules H F} {h : H} (all before left : Option (List ℕ))
    (piece window window' : List ℕ) (m n : ℕ) (old new : H) (p : Progress)
    (start' number' : ℕ) (f f' : Feeding)
    (state : LineState) → StandsAt r h all before (so_far p old) (open_line f)
    → before ≡ prepend_known piece left
    → state ≡ fed_state (open_line f) (take m piece) → (state ≡ states.Whole)
    ⊎ (state ≡ states.Continued) → f' ≡ fed f (take m piece)
    → n ≡ fed_used (open_line f) (take m piece) → m ≤ length piece
    → window' ≡ drop n window → window ≡ piece → until 10 (open_line f) ≡ open_line f
    → p.start + length (open_line f) ≡ p.taken → p.taken + m ≤ 1073741824
    → r.take p.number old f'.text ≡ Ok new → start' ≡ p.taken + n → number' ≡ p.number + 1
    → StandsAt r h all (prepend_known window' left)
    (record { bytes = start'; number = number'; held = new }) (open_line f')
whole_stands {H} {F} {r} {h} all before left piece window window' m n old new p start' number' f
    f' state stands is are which fs used le ws same clean at within takes bytes number =
    let e = ends f piece m n state are which used le clean in
    let g = whole f (take m piece) state are which in
    let text = open_line f ++ until 10 (take m piece) in
    let lt = length-append (open_line f) (until 10 (take m piece)) in
    let is_text : f'.text ≡ text = ap (λ (x : Feeding). x.text) fs ∙ g.text in
    let t : SoFar H = record { bytes = start'; number = number'; held = new } in
    let start : p.start + length text + 1 ≡ start' = omega (arith, lt, e.used, at, bytes) in
    let on = stands_whole all left piece n (so_far p old) (open_line f) text new
    (subst (λ (o : Option (List ℕ)). StandsAt r h all o (so_far p old) (open_line f)) is stands)
    e.clean e.cut e.short (omega (arith, start, bytes, within, e.within))
    (ap (λ (l : List ℕ). r.take p.number old l) (sym is_text) ∙ takes) in
    let later : line_later (so_far p old) text new ≡ t =
    rw (start, sym number) refl in
    subst (λ (l : List ℕ). StandsAt r h all (prepend_known l left) t (open_line f'))
    (ap (λ (l : List ℕ). drop n l) (sym same) ∙ sym ws)
    (subst (λ (l : List ℕ). StandsAt r h all (prepend_known (drop n piece) left) t l)
    (sym (ap open_line fs ∙ g.opened))
    (subst (λ (x : SoFar H). StandsAt r h all (prepend_known (drop n piece) left) x []) later on))

-- A whole line has a fault.
pub line_refused : {H F : Type 0} {r : Rules H F} {h : H}
    (all before left left' : Option (List ℕ)) (piece : List ℕ) (m n : ℕ) (old : H) (p : Progress)
    (f f' : Feeding) (state : LineState) (fail : TextFail F)
    → StandsAt r h all before (so_far p old) (open_line f) → before ≡ prepend_known piece left
    → state ≡ fed_state (open_line f) (take m piece) → (state ≡ states.Whole)
    ⊎ (state ≡ states.Continued) → f' ≡ fed f (take m piece)
    → n ≡ fed_used (open_line f) (take m piece) → m ≤ length piece
    → until 10 (open_line f) ≡ open_line f → p.start + length (open_line f) ≡ p.taken
    → p.taken + m ≤ 1073741824
    → IsLineFault fail (r.take p.number old f'.text) → Explains r h fail all left'
line_refused all before left left' piece m n old p f f' state fails.Read stands is are which fs
    used le clean at within fault = absurd fault
line_refused all before left left' piece m n old p f f' state fails.OutOfMemory stands is are
    which fs used le clean at within fault = tt
line_refused {H} {F} {r} {h} all before left left' piece m n old p f f' state (fails.Fault e)
    stands is are which fs used le clean at within found =
    let d = ends f piece m n state are which used le clean in
    let g = whole f (take m piece) state are which in
    let text = open_line f ++ until 10 (take m piece) in
    let lt = length-append (open_line f) (until 10 (take m piece)) in
    let s : SoFar H = so_far p old in
    let is_text : f'.text ≡ text = ap (λ (x : Feeding). x.text) fs ∙ g.text in
    let cut : (rest : List ℕ) → open_line f ++ (piece ++ rest) ≡ text
    ++ 10 ∷ (drop n piece ++ rest) = λ rest.
    ap (λ (l : List ℕ). open_line f ++ (l ++ rest)) (sym (take-append-drop n piece))
    ∙ ap (λ (l : List ℕ). open_line f ++ l) (append_assoc (take n piece) (drop n piece) rest)
    ∙ sym (append_assoc (open_line f) (take n piece) (drop n piece ++ rest))
    ∙ ap (λ (l : List ℕ). l ++ (drop n piece ++ rest)) d.cut
    ∙ append_assoc text (10 ∷ []) (drop n piece ++ rest) in
    explains_fault all left piece s (open_line f) e
    (subst (λ (o : Option (List ℕ)). StandsAt r h all o s (open_line f)) is stands)
    (λ rest. subst (λ (l : List ℕ). IsRefusal e.fault e.line (reading r s (lines l)))
    (sym (cut rest))
    (refused_whole r s text (drop n piece ++ rest) e d.clean d.short
    (omega (arith, lt, d.used, d.within, at, within))
    (ap (λ (l : List ℕ). r.take p.number old l) (sym is_text) ∙ found)))
