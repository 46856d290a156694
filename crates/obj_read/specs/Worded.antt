-- Whether a text has more than blanks and comments.
use Rattle.std.specs.Prelude.{ℕ, List, [], ◌∷◌, Bool, false, ◌||◌}
use Rattle.obj_lines.specs.Text.{until, lines, content}
use Rattle.obj_read.specs.Fields.{has_field}
use Rattle.pm_io.specs.Letters.{line_feed}

-- One of these lines has a field in what is read of it: neither its LF, nor a CR before that, nor a
-- comment.
abbrev pub some_worded : List (List ℕ) → Bool
some_worded [] = false
some_worded (line ∷ more) = has_field (content (until line_feed line)) || some_worded more

-- One of the lines of the bytes has.
unfoldable pub holds_words : List ℕ → Bool
holds_words bytes = some_worded (lines bytes)
