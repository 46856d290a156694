-- What the words of a header stand for.
use Rattle.std.specs.Prelude.{ℕ, ◌||◌, List, Bool, true, false, Option, Some, None, codes}
use Rattle.std.specs.Prelude.{if◌then◌else◌}
use Rattle.ply_read.specs.declared.declared.Encoding.{Encoding}
use Rattle.ply_read.specs.declared.declared.Encoding.TheVariants as encodings
use Rattle.ply_read.specs.declared.declared.Order.TheVariants as orders
use Rattle.ply_read.specs.declared.declared.ScalarType.{ScalarType}
use Rattle.ply_read.specs.declared.declared.ScalarType.TheVariants as types
use Rattle.ply_read.specs.declared.declared.Role.{Role}
use Rattle.ply_read.specs.declared.declared.Role.TheVariants as roles
use Rattle.ply_read.specs.declared.declared.Kind.{Kind}
use Rattle.ply_read.specs.declared.declared.Kind.TheVariants as kinds
use Rattle.ply_read.specs.Lines.{is_word}

unfoldable pub encoding_of : List ℕ → Option Encoding
encoding_of word =
    if is_word (codes "ascii") word then Some encodings.Ascii
    else if is_word (codes "binary_little_endian") word then Some (encodings.Binary orders.Little)
    else if is_word (codes "binary_big_endian") word then Some (encodings.Binary orders.Big)
    else None

-- Each type has two names.
unfoldable pub type_of : List ℕ → Option ScalarType
type_of word =
    if is_word (codes "char") word || is_word (codes "int8") word then Some types.Int8
    else if is_word (codes "uchar") word || is_word (codes "uint8") word then Some types.Uint8
    else if is_word (codes "short") word || is_word (codes "int16") word then Some types.Int16
    else if is_word (codes "ushort") word || is_word (codes "uint16") word then Some types.Uint16
    else if is_word (codes "int") word || is_word (codes "int32") word then Some types.Int32
    else if is_word (codes "uint") word || is_word (codes "uint32") word then Some types.Uint32
    else if is_word (codes "float") word || is_word (codes "float32") word then Some types.Float32
    else if is_word (codes "double") word || is_word (codes "float64") word then Some types.Float64
    else None

-- Its numbers are whole.
abbrev pub is_whole_type : ScalarType → Bool
is_whole_type types.Float32 = false
is_whole_type types.Float64 = false
is_whole_type _ = true

unfoldable pub is_normal : List ℕ → Bool
is_normal word = is_word (codes "nx") word || is_word (codes "ny") word || is_word (codes "nz") word

unfoldable pub is_colour : List ℕ → Bool
is_colour word =
    is_word (codes "red") word || is_word (codes "green") word || is_word (codes "blue") word
    || is_word (codes "alpha") word || is_word (codes "r") word || is_word (codes "g") word
    || is_word (codes "b") word || is_word (codes "a") word
    || is_word (codes "diffuse_red") word || is_word (codes "diffuse_green") word
    || is_word (codes "diffuse_blue") word

unfoldable pub is_texture : List ℕ → Bool
is_texture word =
    is_word (codes "s") word || is_word (codes "t") word || is_word (codes "u") word
    || is_word (codes "v") word || is_word (codes "texture_u") word
    || is_word (codes "texture_v") word || is_word (codes "texcoord") word
    || is_word (codes "texnumber") word

unfoldable pub role_of : List ℕ → Role
role_of word =
    if is_word (codes "x") word then roles.X
    else if is_word (codes "y") word then roles.Y
    else if is_word (codes "z") word then roles.Z
    else if is_word (codes "vertex_indices") word || is_word (codes "vertex_index") word
    then roles.Corners
    else if is_normal word then roles.Normal
    else if is_colour word then roles.Colour
    else if is_texture word then roles.Texture
    else roles.Other

unfoldable pub kind_of : List ℕ → Kind
kind_of word =
    if is_word (codes "vertex") word then kinds.Vertex
    else if is_word (codes "face") word then kinds.Face
    else kinds.Other
