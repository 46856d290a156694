-- A binary file: 80 bytes, the count of facets, and 50 bytes for each, which are a normal, three
-- corners and two bytes of attributes. A number has its least byte first.
use Rattle.std.specs.Prelude.{ℕ, suc, zero, ◌+◌, ◌*◌, List, nat_lt, length}
use Rattle.std.specs.Prelude.{Bool, not, nat_le, ◌==◌, ◌&&◌}
use Rattle.std.specs.Prelude.{slice_index_or, ℤ, Result, Ok, Err, if◌then◌else◌}
use Rattle.pm_base.specs.declared.limits.TheConstants.{MOST_FACES}
use Rattle.pm_base.specs.Place.{Place}
use Rattle.float_read.specs.declared.fault.FloatFault.{FloatFault}
use Rattle.float_read.specs.Floats.{float_coordinate, binary32}
use Rattle.stl_read.specs.declared.fault.StlFault.TheVariants as faults
use Rattle.stl_read.specs.declared.fault.Refused.{Refused}
use Rattle.stl_read.specs.Refusals.{◌>>=◌, refused, of_number}
use Rattle.stl_read.specs.Vertices.{Triangles, Corner, Facet, corner_of, no_triangles, with_facet}

abbrev pub byte_at : List ℕ → ℕ → ℕ
byte_at bytes at = slice_index_or bytes at 0

-- The number that four bytes from a place on are.
unfoldable pub word_at : List ℕ → ℕ → ℕ
word_at bytes at =
    byte_at bytes at + 256 * (byte_at bytes (at + 1) + 256 * (byte_at bytes (at + 2)
    + 256 * byte_at bytes (at + 3)))

abbrev pub placed : ℕ → Result ℤ FloatFault → Result ℤ Refused
placed at (Ok x) = Ok x
placed at (Err fault) = refused (of_number fault) at

-- The coordinate that the bytes from a place on are.
unfoldable pub coordinate_at : List ℕ → ℕ → Result ℤ Refused
coordinate_at bytes at = placed at (float_coordinate binary32 (word_at bytes at))

unfoldable pub point_at : List ℕ → ℕ → Result Place Refused
point_at bytes at =
    coordinate_at bytes at >>= λ x. coordinate_at bytes (at + 4) >>= λ y.
    coordinate_at bytes (at + 8) >>= λ z. Ok (record { x = x; y = y; z = z })

unfoldable pub corner_at : List ℕ → ℕ → List Place → Result Corner Refused
corner_at bytes at points = point_at bytes at >>= corner_of at points

-- The vertices of the facet from a place on.
unfoldable pub facet_at : List ℕ → ℕ → List Place → Result Facet Refused
facet_at bytes at points =
    corner_at bytes (at + 12) points >>= λ a. corner_at bytes (at + 24) a.points >>= λ b.
    corner_at bytes (at + 36) b.points >>= λ c. Ok (record {
      corners = record { a = a.vertex; b = b.vertex; c = c.vertex };
      points = c.points;
    })

-- The facet from a place on has attributes: its last two bytes aren't 0.
unfoldable pub has_attributes : List ℕ → ℕ → Bool
has_attributes bytes at = not (byte_at bytes (at + 48) == 0 && byte_at bytes (at + 49) == 0)

-- With so many facets from a place on.
abbrev pub with_facets : List ℕ → Triangles → ℕ → ℕ → Result Triangles Refused
with_facets bytes t at zero = Ok t
with_facets bytes t at (suc n) =
    facet_at bytes at t.points >>= λ f.
    with_facets bytes (with_facet t f (has_attributes bytes at)) (at + 50) n

unfoldable pub facet_count : List ℕ → ℕ
facet_count bytes = word_at bytes 80

-- The bytes are as many as the count of facets tells.
unfoldable pub has_its_length : List ℕ → Bool
has_its_length bytes =
    nat_le 84 (length bytes) && 84 + 50 * facet_count bytes == length bytes

-- The count of facets, where the bytes are as many as it tells.
unfoldable pub count_of : List ℕ → Result ℕ Refused
count_of bytes =
    if nat_lt (length bytes) 84 then refused faults.CutOff (length bytes)
    else if nat_lt (length bytes) (84 + 50 * facet_count bytes) then
    refused faults.CutOff (length bytes)
    else if nat_lt (84 + 50 * facet_count bytes) (length bytes) then
    refused faults.MoreBytes (84 + 50 * facet_count bytes)
    else if nat_lt MOST_FACES (facet_count bytes) then refused faults.TooManyFaces 80
    else Ok (facet_count bytes)

-- The points and triangles of a binary file, or its first fault, at its byte.
unfoldable pub binary_meaning : List ℕ → Result Triangles Refused
binary_meaning bytes = count_of bytes >>= with_facets bytes no_triangles 84
