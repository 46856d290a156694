-- How far the reading of a source has come.
use Rattle.std.specs.Prelude.{ℕ, ◌+◌, ◌≡◌, ◌≤◌, List, ◌++◌, true, length, Option}
use Rattle.std.specs.Io.KnownBytes.{prepend_known}
use Rattle.std.specs.Option.{option_map}
use Rattle.obj_lines.specs.declared.limits.TheConstants.{MOST_LINE_BYTES, MOST_TEXT_BYTES}
use Rattle.pm_io.specs.Bytes.{Loses}
use Rattle.obj_lines.specs.declared.step.Progress.{Progress}
use Rattle.obj_lines.specs.Text.{until, lines}
use Rattle.obj_lines.specs.Feeding.{Feeding, is_going, open_line}
use Rattle.obj_lines.specs.Rules.{Rules, SoFar, reading, text_read}
use Rattle.pm_io.specs.Letters.{line_feed}

-- What the lines before the open one gave.
abbrev pub so_far : {H : Type 0} → Progress → H → SoFar H
so_far p h = record { bytes = p.start; number = p.number; held = h }

-- Before the first line h was held, the lines before gave s, a line is open, and what is still to
-- come is known where the source tells it. The meaning of the whole is the meaning of that.
pub record StandsAt {H F : Type 0} (r : Rules H F) (h : H) (whole now : Option (List ℕ))
    (s : SoFar H) (line : List ℕ) : Type 0 where
  pub same : option_map (text_read r h) whole
      ≡ option_map (λ rest. reading r s (lines (line ++ rest))) now
  pub taken : List ℕ
  pub took : Loses whole now taken
  pub count : length taken ≡ s.bytes + length line

-- A source that had all these bytes is being read: the window holds bytes that were taken and
-- aren't read yet.
abbrev pub IsReading : {H F : Type 0} → Rules H F → H → Option (List ℕ) → List ℕ
    → Option (List ℕ) → Progress → H → Feeding → Type 0
IsReading r h whole window left p now f =
    StandsAt r h whole (prepend_known window left) (so_far p now) (open_line f)

-- What holds between two steps of the reading.
pub record IsBetween (f : Feeding) (p : Progress) : Type 0 where
  pub going : is_going f.state ≡ true
  pub clean : until line_feed (open_line f) ≡ open_line f
  pub short : length (open_line f) ≤ MOST_LINE_BYTES
  pub at : p.start + length (open_line f) ≡ p.taken
  pub counted : f.taken ≡ p.taken
  pub room : p.taken ≤ MOST_TEXT_BYTES
  pub numbered : p.number ≤ p.start + 1
