-- The numbers of a file whose numbers are bytes.
use Rattle.std.specs.Prelude.{ℕ, ◌+◌, ◌*◌, nat_lt, List, slice_index_or, ℤ, pos, ◌-ℤ◌}
use Rattle.std.specs.Prelude.{Option, Some, None, Result, if◌then◌else◌}
use Rattle.float_read.specs.declared.fault.FloatFault.{FloatFault}
use Rattle.float_read.specs.Floats.{float_coordinate, whole_coordinate, binary32, binary64}
use Rattle.ply_read.specs.declared.declared.Order.{Order}
use Rattle.ply_read.specs.declared.declared.Order.TheVariants as orders
use Rattle.ply_read.specs.declared.declared.ScalarType.{ScalarType}
use Rattle.ply_read.specs.declared.declared.ScalarType.TheVariants as types

-- How many bytes a number has.
abbrev pub size : ScalarType → ℕ
size types.Int8 = 1
size types.Uint8 = 1
size types.Int16 = 2
size types.Uint16 = 2
size types.Int32 = 4
size types.Uint32 = 4
size types.Float32 = 4
size types.Float64 = 8

abbrev pub byte_at : List ℕ → ℕ → ℕ
byte_at bytes at = slice_index_or bytes at 0

-- A number of two halves, of which the second is the greater one, or the first.
abbrev pub pair : Order → ℕ → ℕ → ℕ → ℕ
pair orders.Little base first second = first + base * second
pair orders.Big base first second = base * first + second

-- The number that so many bytes from a place on are.
unfoldable pub two_bytes : Order → List ℕ → ℕ → ℕ
two_bytes order bytes at = pair order 256 (byte_at bytes at) (byte_at bytes (at + 1))

unfoldable pub four_bytes : Order → List ℕ → ℕ → ℕ
four_bytes order bytes at =
    pair order 65536 (two_bytes order bytes at) (two_bytes order bytes (at + 2))

unfoldable pub eight_bytes : Order → List ℕ → ℕ
eight_bytes order bytes =
    pair order 4294967296 (four_bytes order bytes 0) (four_bytes order bytes 4)

-- A number whose upper half stands for those below 0.
unfoldable pub signed : ℕ → ℕ → ℤ
signed half n = if nat_lt n half then pos n else pos n -ℤ pos (2 * half)

-- The coordinate that the bytes of a number are.
unfoldable pub binary_coordinate : Order → ScalarType → List ℕ → Result ℤ FloatFault
binary_coordinate o types.Int8 bytes = whole_coordinate (signed 128 (byte_at bytes 0))
binary_coordinate o types.Uint8 bytes = whole_coordinate (pos (byte_at bytes 0))
binary_coordinate o types.Int16 bytes = whole_coordinate (signed 32768 (two_bytes o bytes 0))
binary_coordinate o types.Uint16 bytes = whole_coordinate (pos (two_bytes o bytes 0))
binary_coordinate o types.Int32 bytes = whole_coordinate (signed 2147483648 (four_bytes o bytes 0))
binary_coordinate o types.Uint32 bytes = whole_coordinate (pos (four_bytes o bytes 0))
binary_coordinate o types.Float32 bytes = float_coordinate binary32 (four_bytes o bytes 0)
binary_coordinate o types.Float64 bytes = float_coordinate binary64 (eight_bytes o bytes)

abbrev pub below : ℕ → ℕ → Option ℕ
below half n = if nat_lt n half then Some n else None

-- The whole number from 0 on that they are.
unfoldable pub binary_whole : Order → ScalarType → List ℕ → Option ℕ
binary_whole o types.Int8 bytes = below 128 (byte_at bytes 0)
binary_whole o types.Uint8 bytes = Some (byte_at bytes 0)
binary_whole o types.Int16 bytes = below 32768 (two_bytes o bytes 0)
binary_whole o types.Uint16 bytes = Some (two_bytes o bytes 0)
binary_whole o types.Int32 bytes = below 2147483648 (four_bytes o bytes 0)
binary_whole o types.Uint32 bytes = Some (four_bytes o bytes 0)
binary_whole o _ bytes = None
