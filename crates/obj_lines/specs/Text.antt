-- The lines of a text, and what is read of a line.
use Rattle.std.specs.Prelude.{ℕ, ◌-◌, List, [], ◌∷◌, Bool, ◌==◌, length, take, slice_index_or}
use Rattle.std.specs.Prelude.{if◌then◌else◌}
use Rattle.pm_io.specs.Bytes.{onto}
use Rattle.pm_io.specs.Letters.{line_feed, carriage_return, hash_sign, backslash}

-- The bytes before the first that is this one.
abbrev pub until : ℕ → List ℕ → List ℕ
until stop [] = []
until stop (b ∷ bs) = if b == stop then [] else b ∷ until stop bs

-- The lines of the bytes, each with its LF. What follows the last LF is a line if it isn't empty.
abbrev pub lines : List ℕ → List (List ℕ)
lines [] = []
lines (b ∷ bs) = if b == line_feed then (line_feed ∷ []) ∷ lines bs else onto b (lines bs)

-- The last byte is this one, which isn't 0.
abbrev pub ends_with : ℕ → List ℕ → Bool
ends_with b bytes = slice_index_or bytes (length bytes - 1) 0 == b

-- Without one CR at the end.
unfoldable pub without_cr : List ℕ → List ℕ
without_cr bytes = if ends_with carriage_return bytes then take (length bytes - 1) bytes else bytes

-- What is read of a line that stands here without its LF: no CR at its end, and no comment.
unfoldable pub content : List ℕ → List ℕ
content text = until hash_sign (without_cr text)

-- A backslash is the last byte.
unfoldable pub is_continued : List ℕ → Bool
is_continued bytes = ends_with backslash bytes
