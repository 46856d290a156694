-- The coat that follows a stream text: what the vertices and faces of the input have, in the order
-- of the input.
use Rattle.std.specs.Prelude.{◌≡◌, ℕ, ◌+◌, ◌-◌, ◌≤◌, ◌*◌, ◌/◌, ◌%◌, nat_lt, nat_le, ◌==◌, ℤ}
use Rattle.std.specs.Prelude.{Bool, not, ◌&&◌, if◌then◌else◌, List, length, take, drop, map, codes}
use Rattle.std.specs.Prelude.{slice_index_or, Option, Some, None, Result, Ok, Err}
use Rattle.std.specs.Int.{w32, cast_signed}
use Rattle.std.specs.List.{range_with_len, starts_with, position}
use Rattle.std.specs.Option.{option_or}
use Rattle.pm_base.specs.declared.limits.TheConstants.{MOST_FACES, MOST_VERTICES}
use Rattle.pm_fits.specs.Faults.{is_number}
use Rattle.paint.specs.declared.refused.Refused.{Refused}
use Rattle.paint.specs.declared.refused.Refused.TheVariants as coats
use Rattle.paint.specs.declared.sizes.Sizes.{Sizes}
use Rattle.paint.specs.declared.coat.CoatFail.{CoatFail}
use Rattle.paint.specs.declared.coat.CoatFail.TheVariants as fails

-- There are no more vertices and faces than a hierarchy has.
abbrev pub AreSizes : Sizes → Type 0
AreSizes s = (s.vertices ≤ MOST_VERTICES) × (s.faces ≤ MOST_FACES)

-- So many bytes from a place on.
abbrev pub part : ℕ → ℕ → List ℕ → List ℕ
part from n bytes = take n (drop from bytes)

abbrev pub byte_at : List ℕ → ℕ → ℕ
byte_at bytes at = slice_index_or bytes at 0

-- The number that four bytes from a place on are, the least first.
unfoldable pub word_at : List ℕ → ℕ → ℕ
word_at bytes at =
    byte_at bytes at + 256 * (byte_at bytes (at + 1) + 256 * (byte_at bytes (at + 2)
    + 256 * byte_at bytes (at + 3)))

-- The signed numbers that bytes are, four bytes each.
abbrev pub signed_at : List ℕ → ℕ → ℤ
signed_at bytes i = cast_signed w32 (word_at bytes (4 * i))

unfoldable pub signed_numbers : List ℕ → List ℤ
signed_numbers bytes = map (signed_at bytes) (range_with_len 0 (length bytes / 4))

-- The parts that are there: 1 colours, 2 texture coordinates, 4 pages, added up.
abbrev pub has_colours : Sizes → Bool
has_colours s = s.parts % 2 == 1

abbrev pub has_coordinates : Sizes → Bool
has_coordinates s = s.parts / 2 % 2 == 1

abbrev pub has_pages : Sizes → Bool
has_pages s = s.parts / 4 % 2 == 1

-- At least one is there, and no other.
abbrev pub are_parts : ℕ → Bool
are_parts parts = nat_le 1 parts && nat_le parts 7

-- How many bytes each has: three or eight for each vertex, one for each face.
unfoldable pub colour_bytes : Sizes → ℕ
colour_bytes s = if has_colours s then 3 * s.vertices else 0

unfoldable pub coordinate_bytes : Sizes → ℕ
coordinate_bytes s = if has_coordinates s then 8 * s.vertices else 0

unfoldable pub page_bytes : Sizes → ℕ
page_bytes s = if has_pages s then s.faces else 0

-- How many bytes fill n bytes up to whole words.
unfoldable pub filler : ℕ → ℕ
filler n = (4 - n % 4) % 4

-- Where each ends, and the next begins behind its filler. The head has 20 bytes.
unfoldable pub colours_end : Sizes → ℕ
colours_end s = 20 + colour_bytes s

unfoldable pub coordinates_from : Sizes → ℕ
coordinates_from s = colours_end s + filler (colour_bytes s)

unfoldable pub pages_from : Sizes → ℕ
pages_from s = coordinates_from s + coordinate_bytes s

unfoldable pub pages_end : Sizes → ℕ
pages_end s = pages_from s + page_bytes s

unfoldable pub coat_end : Sizes → ℕ
coat_end s = pages_end s + filler (page_bytes s)

-- What is wrong with the head of a coat for so many vertices and faces.
unfoldable pub head_fault : ℕ → ℕ → List ℕ → Option Refused
head_fault vertices faces bytes =
    if not (starts_with (λ a b. a == b) bytes (codes "COAT")) then Some coats.NoCoat
    else if nat_lt (length bytes) 20 then Some (coats.Cut (length bytes))
    else if not (word_at bytes 4 == 1) then Some coats.Version
    else if not (word_at bytes 8 == vertices) then Some coats.Vertices
    else if not (word_at bytes 12 == faces) then Some coats.Faces
    else if not (are_parts (word_at bytes 16)) then Some coats.Parts
    else None

-- The first number that isn't one of them, and the first byte of n that isn't 0. Faults tell a byte
-- by its number from 1.
abbrev pub number_told : ℕ → Option ℕ → Option Refused
number_told from None = None
number_told from (Some i) = Some (coats.Number (from + 4 * i + 1))

unfoldable pub number_fault : ℕ → List ℤ → Option Refused
number_fault from numbers = number_told from (position (λ n. not (is_number n)) numbers)

abbrev pub filler_told : ℕ → Option ℕ → Option Refused
filler_told from None = None
filler_told from (Some i) = Some (coats.Filler (from + i + 1))

unfoldable pub filler_fault : ℕ → List ℕ → Option Refused
filler_fault from bytes = filler_told from (position (λ b. not (b == 0)) bytes)

-- What each part has.
unfoldable pub colours_of : Sizes → List ℕ → List ℕ
colours_of s bytes = part 20 (colour_bytes s) bytes

unfoldable pub coordinates_of : Sizes → List ℕ → List ℤ
coordinates_of s bytes = signed_numbers (part (coordinates_from s) (coordinate_bytes s) bytes)

unfoldable pub pages_of : Sizes → List ℕ → List ℕ
pages_of s bytes = part (pages_from s) (page_bytes s) bytes

-- What is wrong with the fillers, and with the end.
unfoldable pub fillers_fault : Sizes → List ℕ → Option Refused
fillers_fault s bytes =
    option_or
    (filler_fault (colours_end s) (part (colours_end s) (filler (colour_bytes s)) bytes))
    (filler_fault (pages_end s) (part (pages_end s) (filler (page_bytes s)) bytes))

unfoldable pub end_fault : Sizes → List ℕ → Option Refused
end_fault s bytes =
    if nat_lt (coat_end s) (length bytes) then Some (coats.Trailing (coat_end s + 1)) else None

-- What is wrong with a coat that has all its bytes, and with what follows a head.
unfoldable pub whole_fault : Sizes → List ℕ → Option Refused
whole_fault s bytes =
    option_or
    (option_or (number_fault (coordinates_from s) (coordinates_of s bytes))
    (fillers_fault s bytes)) (end_fault s bytes)

unfoldable pub parts_fault : Sizes → List ℕ → Option Refused
parts_fault s bytes =
    if nat_lt (length bytes) (coat_end s) then Some (coats.Cut (length bytes))
    else whole_fault s bytes

-- What a coat says.
pub record Coat : Type 0 where
  pub sizes : Sizes
  pub colours : List ℕ
  pub coordinates : List ℤ
  pub pages : List ℕ

abbrev pub sizes_of : ℕ → ℕ → List ℕ → Sizes
sizes_of vertices faces bytes =
    record { vertices = vertices; faces = faces; parts = word_at bytes 16 }

abbrev pub coat_with : Sizes → List ℕ → Coat
coat_with s bytes = record {
  sizes = s;
  colours = colours_of s bytes;
  coordinates = coordinates_of s bytes;
  pages = pages_of s bytes;
}

-- The first fault of bytes that should be a coat for so many vertices and faces.
unfoldable pub coat_fault : ℕ → ℕ → List ℕ → Option Refused
coat_fault vertices faces bytes =
    option_or (head_fault vertices faces bytes)
    (parts_fault (sizes_of vertices faces bytes) bytes)

-- The coat that they are, or that fault.
abbrev pub told_of : Option Refused → Coat → Result Coat Refused
told_of None coat = Ok coat
told_of (Some fault) coat = Err fault

unfoldable pub coat_of : ℕ → ℕ → List ℕ → Result Coat Refused
coat_of vertices faces bytes =
    told_of (coat_fault vertices faces bytes)
    (coat_with (sizes_of vertices faces bytes) bytes)

-- Why no coat is read: its fault, or want of memory.
abbrev pub IsFail : Option Refused → CoatFail → Type 0
IsFail fault (fails.Refused e) = fault ≡ Some e
IsFail fault fails.OutOfMemory = Unit {0}
