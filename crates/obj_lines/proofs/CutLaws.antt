-- The lines of a text that is fed piece by piece.
use Rattle.std.proofs.Common.{◌≡◌, ℕ, ◌+◌, ◌<◌, ◌≤◌, Bool, true, false, List, [], ◌∷◌, ◌++◌, length}
use Rattle.std.proofs.Common.{take, drop, refl, sym, ◌∙◌, ap, subst, arith, append_assoc}
use Rattle.std.proofs.Common.{length-append}
use Rattle.std.proofs.lemmas.List.{append-nil, take-append-drop}
use Rattle.std.proofs.lemmas.List.Elements.{All-nil, All-cons}
use Rattle.std.specs.List.{All, concat}
use Rattle.obj_lines.specs.declared.state.LineState.TheVariants as states
use Rattle.obj_lines.specs.Text.{until, lines, content}
use Rattle.obj_lines.specs.Feeding.{Feeding, begun, is_line, open_line, end_state, fed_state}
use Rattle.obj_lines.specs.Feeding.{fed_used, fed, finished}
use Rattle.obj_lines.specs.Cuttings.{Line, numbered, last_out, Feeds, done, empty, partial, line}
use Rattle.obj_lines.specs.Cuttings.{AnyCutting, IsShort, AnyCuttingStops}
use Rattle.obj_lines.proofs.TextLaws.{until_front, until_twice, until_split, lines_whole}
use Rattle.obj_lines.proofs.TextLaws.{lines_last, first_line}
use Rattle.obj_lines.proofs.FedLaws.{goes_on, whole_of, long_of, end_none, end_some}

numbered-append : (n m : ℕ) (xs ys : List (List ℕ)) → m ≡ n + length xs
    → numbered n (xs ++ ys) ≡ numbered n xs ++ numbered m ys
numbered-append n m [] ys is = ap (λ (k : ℕ). numbered k ys) (omega arith)
numbered-append n m (x ∷ xs) ys is =
    ap (λ (l : List Line). record { number = n; text = content (until 10 x) } ∷ l)
    (numbered-append (n + 1) m xs ys (omega arith))

-- What the bytes were that brought these lines: whole lines came before, and the open line goes on
-- with what follows.
pub record Comes (f g : Feeding) (bytes : List ℕ) (ls : List Line) : Type 0 where
  pub before : List (List ℕ)
  pub are : (tail : List ℕ) → lines (open_line f ++ (bytes ++ tail)) ≡ before
      ++ lines (open_line g ++ tail)
  pub came : ls ≡ numbered (f.whole + 1) before
  pub short : All IsShort before
  pub clean : until 10 (open_line g) ≡ open_line g
  pub whole : g.whole ≡ f.whole + length before

-- An open line without LF is without it after a piece that has none.
open_clean : (f : Feeding) (p : List ℕ) → until 10 (open_line f) ≡ open_line f
    → fed_state (open_line f) p ≡ states.Partial
    → until 10 (open_line (fed f p)) ≡ open_line (fed f p)
open_clean f p clean is =
    let w = goes_on f p is in
    ap (until 10) w.opened ∙ until_front 10 (open_line f) p clean
    ∙ ap (λ (l : List ℕ). open_line f ++ l) w.clean ∙ sym w.opened

-- The first line, where a piece brings its LF.
first_out : (f : Feeding) (p tail : List ℕ) → until 10 (open_line f) ≡ open_line f
    → is_line (fed_state (open_line f) p) ≡ true
    → lines (open_line f ++ (p ++ tail)) ≡ ((open_line f ++ until 10 p) ++ 10 ∷ [])
    ∷ lines (drop (fed_used (open_line f) p) p ++ tail)
first_out f p tail clean is =
    let w = whole_of f p is in
    let u = until 10 p in
    let rest = drop (fed_used (open_line f) p) p in
    let cut : take (fed_used (open_line f) p) p ≡ u ++ 10 ∷ [] =
    ap (λ (n : ℕ). take n p) w.used ∙ w.cut in
    let split : open_line f ++ (p ++ tail) ≡ (open_line f ++ u) ++ 10 ∷ (rest ++ tail) =
    ap (λ (l : List ℕ). open_line f ++ (l ++ tail))
    (sym (take-append-drop (fed_used (open_line f) p) p))
    ∙ ap (λ (l : List ℕ). open_line f ++ ((l ++ rest) ++ tail)) cut
    ∙ ap (λ (l : List ℕ). open_line f ++ l) (append_assoc (u ++ 10 ∷ []) rest tail
    ∙ append_assoc u (10 ∷ []) (rest ++ tail))
    ∙ sym (append_assoc (open_line f) u (10 ∷ (rest ++ tail))) in
    let front : until 10 (open_line f ++ u) ≡ open_line f ++ u =
    until_front 10 (open_line f) u clean
    ∙ ap (λ (l : List ℕ). open_line f ++ l) (until_twice 10 p) in
    ap lines split ∙ lines_whole (open_line f ++ u) (rest ++ tail) front

-- A line's bytes before its LF.
pub before_end : (text : List ℕ) → until 10 text ≡ text → until 10 (text ++ 10 ∷ []) ≡ text
before_end text clean = until_front 10 text (10 ∷ []) clean ∙ append-nil text

pub comes : (f g : Feeding) (pieces : List (List ℕ)) (ls : List Line) → Feeds f pieces ls g
    → until 10 (open_line f) ≡ open_line f → Comes f g (concat pieces) ls
comes _ _ _ _ (done f) clean = record {
  before = [];
  are = λ tail. refl;
  came = refl;
  short = All-nil IsShort;
  clean = clean;
  whole = omega arith;
}
comes _ _ _ _ (empty f g ps ls more) clean = comes f g ps ls more clean
comes _ _ _ _ (partial f g p ps ls is more) clean =
    let w = goes_on f p is in
    let r = comes (fed f p) g ps ls more (open_clean f p clean is) in
    record {
      before = r.before;
      are = λ tail.
          ap (λ (l : List ℕ). lines (open_line f ++ l)) (append_assoc p (concat ps) tail)
          ∙ ap lines (sym (append_assoc (open_line f) p (concat ps ++ tail))
          ∙ ap (λ (l : List ℕ). l ++ (concat ps ++ tail)) (sym w.opened))
          ∙ r.are tail;
      came = r.came ∙ ap (λ (n : ℕ). numbered (n + 1) r.before) w.whole;
      short = r.short;
      clean = r.clean;
      whole = omega (arith, r.whole, w.whole);
    }
comes _ _ _ _ (line f g p ps ls is more) clean =
    let w = whole_of f p is in
    let t = open_line f ++ until 10 p in
    let rest = drop (fed_used (open_line f) p) p in
    let r = comes (fed f p) g (rest ∷ ps) ls more (ap (until 10) w.opened ∙ sym w.opened) in
    let front : until 10 t ≡ t =
    until_front 10 (open_line f) (until 10 p) clean
    ∙ ap (λ (l : List ℕ). open_line f ++ l) (until_twice 10 p) in
    let text : (fed f p).text ≡ until 10 (t ++ 10 ∷ []) = w.text ∙ sym (before_end t front) in
    let short : length (until 10 (t ++ 10 ∷ [])) ≤ 65536 =
    subst (λ (l : List ℕ). length l ≤ 65536) (sym (before_end t front))
    (omega (arith, length-append (open_line f) (until 10 p), w.short)) in
    record {
      before = (t ++ 10 ∷ []) ∷ r.before;
      are = λ tail.
          ap (λ (l : List ℕ). lines (open_line f ++ l)) (append_assoc p (concat ps) tail)
          ∙ first_out f p (concat ps ++ tail) clean is
          ∙ ap (λ (l : List ℕ). (t ++ 10 ∷ []) ∷ lines l) (sym (append_assoc rest (concat ps) tail)
          ∙ ap (λ (l : List ℕ). l ++ ((rest ++ concat ps) ++ tail)) (sym w.opened))
          ∙ ap (λ (l : List (List ℕ)). (t ++ 10 ∷ []) ∷ l) (r.are tail);
      came =
          ap (λ (n : ℕ). record { number = n; text = content (fed f p).text } ∷ ls) w.number
          ∙ ap (λ (l : List ℕ). record { number = f.whole + 1; text = content l } ∷ ls) text
          ∙ ap (λ (l : List Line). record {
            number = f.whole + 1;
            text =
                content (until 10 (t ++ 10 ∷ []));
          } ∷ l)
          (r.came ∙ ap (λ (n : ℕ). numbered (n + 1) r.before) w.whole);
      short = All-cons IsShort (t ++ 10 ∷ []) r.before short r.short;
      clean = r.clean;
      whole = omega (arith, r.whole, w.whole);
    }

-- The end of input brings the last line.
last_case : (g : Feeding) (b : Bool) → is_line (end_state (open_line g)) ≡ b
    → until 10 (open_line g) ≡ open_line g
    → last_out g ≡ numbered (g.whole + 1) (lines (open_line g))
last_case g false none clean =
    rw none (ap (λ (l : List ℕ). numbered (g.whole + 1) (lines l))
    (sym (end_none (open_line g) none)))
last_case g true some clean =
    let w = end_some g some in
    rw some
    (ap (λ (n : ℕ). record { number = n; text = content (finished g).text } ∷ []) w.number
    ∙ ap (λ (l : List ℕ). record { number = g.whole + 1; text = content l } ∷ [])
    (w.text ∙ sym clean)
    ∙ ap (λ (l : List (List ℕ)). numbered (g.whole + 1) l)
    (sym (lines_last (open_line g) clean w.some)))

pub any_cutting : AnyCutting
any_cutting pieces ls g feeds =
    let w = comes begun g pieces ls feeds refl in
    let all : lines (concat pieces) ≡ w.before ++ lines (open_line g) =
    ap lines (sym (append-nil (concat pieces))) ∙ w.are []
    ∙ ap (λ (l : List ℕ). w.before ++ lines l) (append-nil (open_line g)) in
    ap (λ (l : List Line). l ++ last_out g) w.came
    ∙ ap (λ (l : List Line). numbered 1 w.before ++ l)
    (last_case g (is_line (end_state (open_line g))) refl w.clean)
    ∙ sym (numbered-append 1 (g.whole + 1) w.before (lines (open_line g)) (omega (arith, w.whole)))
    ∙ ap (numbered 1) (sym all)

-- A line that is open, or comes with this piece, has too many bytes, whatever follows.
record StartsLong (bytes : List ℕ) : Type 0 where
  long : List ℕ
  more : List (List ℕ)
  are : lines bytes ≡ long ∷ more
  too_long : 65536 < length (until 10 long)

starts_long : (front after : List ℕ) → until 10 front ≡ front → 65536 < length front
    → StartsLong (front ++ after)
starts_long front after clean long =
    let first = first_line front after clean (omega (arith, length-append front after)) in
    record {
      long = front ++ first.line;
      more = first.more;
      are = first.are;
      too_long = subst (λ (t : List ℕ). 65536 < length t)
          (sym (until_front 10 front first.line clean))
          (omega (arith, length-append front (until 10 first.line)));
    }

-- A piece after an open line, cut before its first LF.
open_split : (held p rest : List ℕ) → held ++ (p ++ rest) ≡ (held ++ until 10 p)
    ++ (drop (length (until 10 p)) p ++ rest)
open_split held p rest =
    ap (λ (t : List ℕ). held ++ (t ++ rest)) (until_split 10 p)
    ∙ ap (λ (t : List ℕ). held ++ t) (append_assoc (until 10 p) (drop (length (until 10 p)) p) rest)
    ∙ sym (append_assoc held (until 10 p) (drop (length (until 10 p)) p ++ rest))

opens_long : (held p rest : List ℕ) → until 10 held ≡ held
    → 65536 < length held + length (until 10 p) → StartsLong (held ++ (p ++ rest))
opens_long held p rest clean long =
    let front : until 10 (held ++ until 10 p) ≡ held ++ until 10 p =
    until_front 10 held (until 10 p) clean
    ∙ ap (λ (t : List ℕ). held ++ t) (until_twice 10 p) in
    subst StartsLong (sym (open_split held p rest))
    (starts_long (held ++ until 10 p) (drop (length (until 10 p)) p ++ rest) front
    (omega (arith, long, length-append held (until 10 p))))

pub any_cutting_stops : AnyCuttingStops
any_cutting_stops pieces ls g p rest feeds is =
    let w = comes begun g pieces ls feeds refl in
    let l = long_of g p is in
    let s = opens_long (open_line g) p rest w.clean l.long in
    record {
      before = w.before;
      long = s.long;
      more = s.more;
      are = w.are (p ++ rest) ∙ ap (λ (t : List (List ℕ)). w.before ++ t) s.are;
      came = w.came;
      short = w.short;
      too_long = s.too_long;
      number = omega (arith, l.number, w.whole);
    }
