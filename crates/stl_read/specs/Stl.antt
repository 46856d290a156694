-- What a file gives, a text or a binary one.
use Rattle.std.specs.Prelude.{ℕ, Bool, false, not, ◌&&◌, List, [], ◌∷◌, Result, codes}
use Rattle.std.specs.Prelude.{if◌then◌else◌}
use Rattle.stl_read.specs.declared.fault.Refused.{Refused}
use Rattle.stl_read.specs.Ascii.{is_word, text_meaning}
use Rattle.stl_read.specs.Binary.{has_its_length, binary_meaning}
use Rattle.stl_read.specs.Vertices.{Triangles}

abbrev pub begins_solid : List ℕ → Bool
begins_solid (a ∷ b ∷ c ∷ d ∷ e ∷ more) = is_word (codes "solid") (a ∷ b ∷ c ∷ d ∷ e ∷ [])
begins_solid _ = false

-- A text begins with `solid`; so do some binary files, which have the length that they tell.
unfoldable pub is_text : List ℕ → Bool
is_text bytes = begins_solid bytes && not (has_its_length bytes)

-- The points and triangles of a file, or its first fault, at the line of a text or the byte of a
-- binary file.
unfoldable pub stl_meaning_of : List ℕ → Result Triangles Refused
stl_meaning_of bytes = if is_text bytes then text_meaning bytes else binary_meaning bytes
