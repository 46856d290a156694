-- What contracts see of the lines of a text that comes in pieces.
use Rattle.std.specs.Prelude.{ℕ, ◌+◌, ◌-◌, List, [], ◌++◌, Bool, true, false, length, nat_lt, max}
use Rattle.std.specs.Prelude.{if◌then◌else◌}
use Rattle.obj_lines.specs.declared.limits.TheConstants.{MOST_LINE_BYTES}
use Rattle.obj_lines.specs.declared.state.LineState.{LineState}
use Rattle.obj_lines.specs.declared.state.LineState.TheVariants as states
use Rattle.obj_lines.specs.Text.{until, content, is_continued}
use Rattle.pm_io.specs.Letters.{line_feed}

-- The bytes of the open line, or of the last whole line where the last answer was that line; the
-- last answer; how many lines were whole; how many bytes were taken.
pub record Feeding : Type 0 where
  pub text : List ℕ
  pub state : LineState
  pub whole : ℕ
  pub taken : ℕ

-- Before the first byte.
abbrev pub begun : Feeding
begun = record { text = []; state = states.Partial; whole = 0; taken = 0 }

-- The answer is a line.
abbrev pub is_line : LineState → Bool
is_line states.Whole = true
is_line states.Continued = true
is_line states.Partial = false
is_line states.TooLong = false

-- More may come.
abbrev pub is_going : LineState → Bool
is_going states.Whole = true
is_going states.Continued = true
is_going states.Partial = true
is_going states.TooLong = false

-- The open line, by the last answer: after a line it is empty.
abbrev pub opened : LineState → List ℕ → List ℕ
opened states.Whole text = []
opened states.Continued text = []
opened states.Partial text = text
opened states.TooLong text = text

-- The bytes after the last LF.
abbrev pub open_line : Feeding → List ℕ
open_line f = opened f.state f.text

-- What is read of the last whole line.
abbrev pub last_line : Feeding → List ℕ
last_line f = content f.text

-- Bytes follow the last LF. Of a line that is too long they need not be kept.
abbrev pub is_open : LineState → List ℕ → Bool
is_open states.Whole text = false
is_open states.Continued text = false
is_open states.Partial text = nat_lt 0 (length text)
is_open states.TooLong text = true

-- The number of the last whole line, or of the open one where it has bytes; 1 before the first
-- byte.
unfoldable pub number : Feeding → ℕ
number f = if is_open f.state f.text then f.whole + 1 else max 1 f.whole

-- What a whole line is.
abbrev pub line_state : List ℕ → LineState
line_state text = if is_continued (content text) then states.Continued else states.Whole

-- The line that goes on with this piece has too many bytes before its LF.
abbrev pub is_too_long : List ℕ → List ℕ → Bool
is_too_long line piece = nat_lt MOST_LINE_BYTES (length line + length (until line_feed piece))

-- An LF stands in the piece.
abbrev pub has_end : List ℕ → Bool
has_end piece = nat_lt (length (until line_feed piece)) (length piece)

-- What comes of a piece after the open line.
unfoldable pub fed_state : List ℕ → List ℕ → LineState
fed_state line piece =
    if is_too_long line piece then states.TooLong
    else if has_end piece then line_state (line ++ until line_feed piece)
    else states.Partial

-- How many bytes of the piece are taken: up to the first byte too many of the line, up to the LF,
-- or all.
unfoldable pub fed_used : List ℕ → List ℕ → ℕ
fed_used line piece =
    if is_too_long line piece then MOST_LINE_BYTES + 1 - length line
    else if has_end piece then length (until line_feed piece) + 1
    else length piece

-- What the end of input makes of the open line.
unfoldable pub end_state : List ℕ → LineState
end_state line = if nat_lt 0 (length line) then line_state line else states.Partial

-- One more where the answer is a line.
abbrev pub counted : LineState → ℕ → ℕ
counted state whole = if is_line state then whole + 1 else whole

-- A piece was fed.
unfoldable pub fed : Feeding → List ℕ → Feeding
fed f piece = record {
  text =
      if is_too_long (open_line f) piece then open_line f
      else open_line f ++ until line_feed piece;
  state = fed_state (open_line f) piece;
  whole = counted (fed_state (open_line f) piece) f.whole;
  taken = f.taken + fed_used (open_line f) piece;
}

-- The input has ended.
unfoldable pub finished : Feeding → Feeding
finished f = record {
  text = open_line f;
  state = end_state (open_line f);
  whole = counted (end_state (open_line f)) f.whole;
  taken = f.taken;
}
