-- What came of a piece, answer by answer.
use Rattle.std.proofs.Common.{◌≡◌, ℕ, ◌+◌, ◌<◌, ◌≤◌, ◌⊎◌, inl, inr, Bool, true, false, List, []}
use Rattle.std.proofs.Common.{◌∷◌, ◌++◌, length, take, nat_lt, max, refl, sym, ◌∙◌, ap, subst}
use Rattle.std.proofs.Common.{arith}
use Rattle.std.proofs.lemmas.Bool.Decides.{nat_tests}
use Rattle.std.proofs.lemmas.Bool.{ltb-true}
use Rattle.std.proofs.lemmas.List.{nil_from_length}
use Rattle.obj_lines.specs.declared.state.LineState.{LineState}
use Rattle.obj_lines.specs.declared.state.LineState.TheVariants as states
use Rattle.obj_lines.specs.Text.{until, content, is_continued}
use Rattle.obj_lines.specs.Feeding.{Feeding, opened, is_open, is_line, is_going, open_line}
use Rattle.obj_lines.specs.Feeding.{line_state, end_state, is_too_long, has_end, fed_state}
use Rattle.obj_lines.specs.Feeding.{fed_used, fed, finished, number}
use Rattle.obj_lines.proofs.TextLaws.{cut_end, no_end}

-- What a whole line's state is, in each way that it is asked for.
record IsLineState (state : LineState) : Type 0 where
  line : is_line state ≡ true
  going : is_going state ≡ true
  opened : (text : List ℕ) → opened state text ≡ []
  closed : (text : List ℕ) → is_open state text ≡ false

line_state_case : (text : List ℕ) (b : Bool) → is_continued (content text) ≡ b
    → IsLineState (line_state text)
line_state_case text true is = record {
  line = rw is refl;
  going = rw is refl;
  opened = λ t. rw is refl;
  closed = λ t. rw is refl;
}
line_state_case text false is = record {
  line = rw is refl;
  going = rw is refl;
  opened = λ t. rw is refl;
  closed = λ t. rw is refl;
}

line_state_is : (text : List ℕ) → IsLineState (line_state text)
line_state_is text = line_state_case text (is_continued (content text)) refl

-- The line goes on.
pub record GoesOn (f : Feeding) (p : List ℕ) : Type 0 where
  pub opened : open_line (fed f p) ≡ open_line f ++ p
  pub going : is_going (fed f p).state ≡ true
  pub clean : until 10 p ≡ p
  pub short : length (open_line f) + length p ≤ 65536
  pub used : fed_used (open_line f) p ≡ length p
  pub whole : (fed f p).whole ≡ f.whole
  pub taken : (fed f p).taken ≡ f.taken + length p

goes_on_case : (f : Feeding) (p : List ℕ) (tl he : Bool) → is_too_long (open_line f) p ≡ tl
    → has_end p ≡ he → fed_state (open_line f) p ≡ states.Partial → GoesOn f p
unfolding fed fed_used fed_state
goes_on_case f p true he long end is = let e : states.TooLong ≡ states.Partial = rw long at is in cc
goes_on_case f p false true long end is =
    let e : line_state (open_line f ++ until 10 p) ≡ states.Partial = rw (long, end) at is in
    let k : is_line states.Partial ≡ true =
    ap is_line (sym e) ∙ (line_state_is (open_line f ++ until 10 p)).line in cc
goes_on_case f p false false long end is =
    let all : until 10 p ≡ p = no_end 10 p (grind (arith, nat_tests)) in
    let s : length (open_line f) + length (until 10 p) ≤ 65536 = grind (arith, nat_tests) in
    record {
      opened = rw (long, end) (ap (λ (l : List ℕ). open_line f ++ l) all);
      going = rw (long, end) refl;
      clean = all;
      short = subst (λ (l : List ℕ). length (open_line f) + length l ≤ 65536) all s;
      used = rw (long, end) refl;
      whole = rw (long, end) refl;
      taken = rw (long, end) refl;
    }

pub goes_on : (f : Feeding) (p : List ℕ) → fed_state (open_line f) p ≡ states.Partial → GoesOn f p
goes_on f p is = goes_on_case f p (is_too_long (open_line f) p) (has_end p) refl refl is

-- The line is whole.
pub record IsWhole (f : Feeding) (p : List ℕ) : Type 0 where
  pub opened : open_line (fed f p) ≡ []
  pub going : is_going (fed f p).state ≡ true
  pub line : is_line (fed f p).state ≡ true
  pub text : (fed f p).text ≡ open_line f ++ until 10 p
  pub short : length (open_line f) + length (until 10 p) ≤ 65536
  pub used : fed_used (open_line f) p ≡ length (until 10 p) + 1
  pub within : length (until 10 p) + 1 ≤ length p
  pub cut : take (length (until 10 p) + 1) p ≡ until 10 p ++ 10 ∷ []
  pub whole : (fed f p).whole ≡ f.whole + 1
  pub number : number (fed f p) ≡ f.whole + 1
  pub taken : (fed f p).taken ≡ f.taken + (length (until 10 p) + 1)

-- The greater of 1 and a number from 1.
max_one : (n : ℕ) → max 1 (n + 1) ≡ n + 1
max_one n = omega arith

whole_case : (f : Feeding) (p : List ℕ) (tl he : Bool) → is_too_long (open_line f) p ≡ tl
    → has_end p ≡ he → is_line (fed_state (open_line f) p) ≡ true → IsWhole f p
unfolding fed fed_used fed_state number
whole_case f p true he long end is = let e : false ≡ true = rw long at is in cc
whole_case f p false false long end is = let e : false ≡ true = rw (long, end) at is in cc
whole_case f p false true long end is =
    let lt : length (until 10 p) < length p = grind (arith, nat_tests) in
    let s : length (open_line f) + length (until 10 p) ≤ 65536 = grind (arith, nat_tests) in
    let t = open_line f ++ until 10 p in
    let l = line_state_is t in
    record {
      opened = rw (long, end) (l.opened t);
      going = rw (long, end) l.going;
      line = rw (long, end) l.line;
      text = rw long refl;
      short = s;
      used = rw (long, end) refl;
      within = omega arith;
      cut = cut_end 10 p lt;
      whole = rw (long, end) (rw l.line refl);
      number = rw (long, end) (rw (l.closed t, l.line) (max_one f.whole));
      taken = rw (long, end) refl;
    }

pub whole_of : (f : Feeding) (p : List ℕ) → is_line (fed_state (open_line f) p) ≡ true → IsWhole f p
whole_of f p is = whole_case f p (is_too_long (open_line f) p) (has_end p) refl refl is

-- The same, from the answer's two variants.
pub whole : (f : Feeding) (p : List ℕ) (state : LineState) → state ≡ fed_state (open_line f) p
    → (state ≡ states.Whole) ⊎ (state ≡ states.Continued) → IsWhole f p
whole f p state are (inl is) = whole_of f p (ap is_line (sym are ∙ is))
whole f p state are (inr is) = whole_of f p (ap is_line (sym are ∙ is))

-- The line has too many bytes.
pub record IsLong (f : Feeding) (p : List ℕ) : Type 0 where
  pub long : 65536 < length (open_line f) + length (until 10 p)
  pub number : number (fed f p) ≡ f.whole + 1

long_case : (f : Feeding) (p : List ℕ) (tl he : Bool) → is_too_long (open_line f) p ≡ tl
    → has_end p ≡ he → fed_state (open_line f) p ≡ states.TooLong → IsLong f p
unfolding fed fed_state number
long_case f p true he long end is = record {
  long = grind (arith, nat_tests);
  number = rw long refl;
}
long_case f p false true long end is =
    let e : line_state (open_line f ++ until 10 p) ≡ states.TooLong = rw (long, end) at is in
    let k : is_line states.TooLong ≡ true =
    ap is_line (sym e) ∙ (line_state_is (open_line f ++ until 10 p)).line in cc
long_case f p false false long end is = let e : states.Partial ≡ states.TooLong =
    rw (long, end) at is in cc

pub long_of : (f : Feeding) (p : List ℕ) → fed_state (open_line f) p ≡ states.TooLong → IsLong f p
long_of f p is = long_case f p (is_too_long (open_line f) p) (has_end p) refl refl is

pub too_long : (f : Feeding) (p : List ℕ) → fed_state (open_line f) p ≡ states.TooLong
    → 65536 < length (open_line f) + length (until 10 p)
too_long f p is = (long_of f p is).long

-- No line is open at the end of input.
none_case : (line : List ℕ) (b : Bool) → nat_lt 0 (length line) ≡ b
    → is_line (end_state line) ≡ false → line ≡ []
unfolding end_state
none_case line false none is = nil_from_length line (grind (arith, nat_tests))
none_case line true some is =
    let e : is_line (line_state line) ≡ false = rw some at is in
    let k = (line_state_is line).line in cc

pub end_none : (line : List ℕ) → is_line (end_state line) ≡ false → line ≡ []
end_none line is = none_case line (nat_lt 0 (length line)) refl is

-- A line is open at the end of input.
pub record IsLast (f : Feeding) : Type 0 where
  pub some : 0 < length (open_line f)
  pub text : (finished f).text ≡ open_line f
  pub number : number (finished f) ≡ f.whole + 1

some_case : (f : Feeding) (b : Bool) → nat_lt 0 (length (open_line f)) ≡ b
    → is_line (end_state (open_line f)) ≡ true → IsLast f
unfolding finished end_state number
some_case f false none is = let e : false ≡ true = rw none at is in cc
some_case f true some is =
    let l = line_state_is (open_line f) in
    record {
      some = ltb-true 0 (length (open_line f)) some;
      text = refl;
      number = rw some (rw (l.closed (open_line f), l.line) (max_one f.whole));
    }

pub end_some : (f : Feeding) → is_line (end_state (open_line f)) ≡ true → IsLast f
end_some f is = some_case f (nat_lt 0 (length (open_line f))) refl is
