-- The lines that come out of a text, however it is cut into pieces.
use Rattle.std.specs.Prelude.{ℕ, ◌≡◌, ◌+◌, ◌<◌, ◌≤◌, List, [], ◌∷◌, ◌++◌, true, length, drop}
use Rattle.std.specs.Prelude.{if◌then◌else◌}
use Rattle.std.specs.List.{All, concat}
use Rattle.obj_lines.specs.declared.limits.TheConstants.{MOST_LINE_BYTES}
use Rattle.obj_lines.specs.declared.state.LineState.TheVariants as states
use Rattle.obj_lines.specs.Text.{until, lines, content}
use Rattle.obj_lines.specs.Feeding.{Feeding, begun, is_line, open_line, last_line, end_state}
use Rattle.obj_lines.specs.Feeding.{fed_state, fed_used, fed, finished, number}
use Rattle.pm_io.specs.Letters.{line_feed}

-- A line as it comes out: its number from 1, and what is read of it.
pub record Line : Type 0 where
  pub number : ℕ
  pub text : List ℕ

-- These lines as they come out, the first of which has the number n.
abbrev pub numbered : ℕ → List (List ℕ) → List Line
numbered n [] = []
numbered n (l ∷ ls) =
    record { number = n; text = content (until line_feed l) } ∷ numbered (n + 1) ls

-- The last whole line.
abbrev pub line_out : Feeding → Line
line_out f = record { number = number f; text = last_line f }

-- The line that the end of input brings, if there is one.
abbrev pub last_out : Feeding → List Line
last_out f = if is_line (end_state (open_line f)) then line_out (finished f) ∷ [] else []

-- From f on the pieces are fed, each until it is used up; an empty one may be passed over. These
-- lines come out, and g stands at the end.
pub data Feeds : Feeding → List (List ℕ) → List Line → Feeding → Type 0 where
  done : (f : Feeding) → Feeds f [] [] f
  empty : (f g : Feeding) (ps : List (List ℕ)) (ls : List Line) → Feeds f ps ls g
      → Feeds f ([] ∷ ps) ls g
  partial : (f g : Feeding) (p : List ℕ) (ps : List (List ℕ)) (ls : List Line)
      → fed_state (open_line f) p ≡ states.Partial → Feeds (fed f p) ps ls g → Feeds f (p ∷ ps) ls g
  line : (f g : Feeding) (p : List ℕ) (ps : List (List ℕ)) (ls : List Line)
      → is_line (fed_state (open_line f) p) ≡ true
      → Feeds (fed f p) (drop (fed_used (open_line f) p) p ∷ ps) ls g
      → Feeds f (p ∷ ps) (line_out (fed f p) ∷ ls) g

-- For any cutting, the lines that come out are those of the joined bytes, with their numbers.
abbrev pub AnyCutting : Type 0
AnyCutting = (pieces : List (List ℕ)) (ls : List Line) (g : Feeding) → Feeds begun pieces ls g
    → ls ++ last_out g ≡ numbered 1 (lines (concat pieces))

-- A line has no more bytes before its LF than a line may have.
abbrev pub IsShort : List ℕ → Type 0
IsShort l = length (until line_feed l) ≤ MOST_LINE_BYTES

-- Of the lines of the bytes, those came out that stand before the first with too many bytes, which
-- has the number n.
pub record LinesStopAt (out : List Line) (n : ℕ) (bytes : List ℕ) : Type 0 where
  pub before : List (List ℕ)
  pub long : List ℕ
  pub more : List (List ℕ)
  pub are : lines bytes ≡ before ++ long ∷ more
  pub came : out ≡ numbered 1 before
  pub short : All IsShort before
  pub too_long : MOST_LINE_BYTES < length (until line_feed long)
  pub number : n ≡ length before + 1

-- For any cutting, and whatever bytes follow, a line that is told to be too long is the first such
-- line of the bytes.
abbrev pub AnyCuttingStops : Type 0
AnyCuttingStops = (pieces : List (List ℕ)) (ls : List Line) (g : Feeding) (p rest : List ℕ)
    → Feeds begun pieces ls g → fed_state (open_line g) p ≡ states.TooLong
    → LinesStopAt ls (number (fed g p)) (concat pieces ++ (p ++ rest))
