-- The reading of a text, line by line, by rules.
use Rattle.std.specs.Prelude.{ℕ, ◌+◌, List, [], ◌∷◌, Bool, min, nat_lt, length, Option, Some, None}
use Rattle.std.specs.Prelude.{Result, Ok, Err, if◌then◌else◌}
use Rattle.obj_lines.specs.declared.limits.TheConstants.{MOST_LINE_BYTES, MOST_TEXT_BYTES}
use Rattle.obj_lines.specs.declared.fault.LineFault.{LineFault}
use Rattle.obj_lines.specs.Text.{until, lines}
use Rattle.obj_lines.specs.Feeding.{has_end}
use Rattle.pm_io.specs.Letters.{line_feed}

-- What is held after the line with this number, which stands here without its LF, or its fault;
-- what is wrong at the end, where the next line would have this number; and what is wrong with a
-- text and with a line of too many bytes.
pub record Rules (H F : Type 0) : Type 0 where
  pub take : ℕ → H → List ℕ → Result H (LineFault F)
  pub end : ℕ → H → Option (LineFault F)
  pub too_many : F
  pub too_long : F

-- How many bytes the lines before have, the number of the next line, and what is held.
pub record SoFar (H : Type 0) : Type 0 where
  pub bytes : ℕ
  pub number : ℕ
  pub held : H

-- The first line with a fault, that line's first fault, and the number from 1 of the byte that
-- shows it, unless that is the end of input.
pub record Refused (F : Type 0) : Type 0 where
  pub fault : F
  pub line : ℕ
  pub place : Option ℕ

-- A line with this fault, and its place.
abbrev pub refused_at : {F : Type 0} → LineFault F → Option ℕ → Refused F
refused_at e place = record { fault = e.fault; line = e.line; place = place }

-- The first byte too many of the text is among the bytes of a line of this length after so many
-- bytes, up to the first too many of the line.
abbrev pub is_past : ℕ → ℕ → Bool
is_past bytes length = nat_lt MOST_TEXT_BYTES (bytes + min length (MOST_LINE_BYTES + 1))

-- The line has too many bytes before its LF.
abbrev pub is_long : List ℕ → Bool
is_long line = nat_lt MOST_LINE_BYTES (length (until line_feed line))

-- The number from 1 of the byte that shows a line's fault, after so many bytes: the one too many in
-- the text or in the line, else the line's LF. The end of input shows it where there is none.
unfoldable pub place : ℕ → List ℕ → Option ℕ
place bytes line =
    if is_past bytes (length line) then Some (MOST_TEXT_BYTES + 1)
    else if is_long line then Some (bytes + (MOST_LINE_BYTES + 1))
    else if has_end line then Some (bytes + length line)
    else None

-- A line judged after those before it.
unfoldable pub judged : {H F : Type 0} → Rules H F → SoFar H → List ℕ → Result H (LineFault F)
judged r s line =
    if is_past s.bytes (length line) then Err (record { fault = r.too_many; line = s.number })
    else if is_long line then Err (record { fault = r.too_long; line = s.number })
    else r.take s.number s.held (until line_feed line)

-- After one line more.
abbrev pub and_line : {H : Type 0} → SoFar H → List ℕ → H → SoFar H
and_line s line h = record { bytes = s.bytes + length line; number = s.number + 1; held = h }

-- The first line with a fault ends the reading.
abbrev pub then_lines : {H F : Type 0} → Result H (LineFault F) → SoFar H → List ℕ
    → (SoFar H → Result H (Refused F)) → Result H (Refused F)
then_lines (Ok h) s line more = more (and_line s line h)
then_lines (Err e) s line more = Err (refused_at e (place s.bytes line))

abbrev pub at_end : {H F : Type 0} → Option (LineFault F) → H → Result H (Refused F)
at_end None h = Ok h
at_end (Some e) h = Err (refused_at e None)

abbrev pub reading : {H F : Type 0} → Rules H F → SoFar H → List (List ℕ) → Result H (Refused F)
reading r s [] = at_end (r.end s.number s.held) s.held
reading r s (line ∷ more) = then_lines (judged r s line) s line (λ t. reading r t more)

-- Before the first line.
abbrev pub nothing_yet : {H : Type 0} → H → SoFar H
nothing_yet h = record { bytes = 0; number = 1; held = h }

-- What is held at the end of the bytes, or their first line with a fault.
unfoldable pub text_read : {H F : Type 0} → Rules H F → H → List ℕ → Result H (Refused F)
text_read r h bytes = reading r (nothing_yet h) (lines bytes)
