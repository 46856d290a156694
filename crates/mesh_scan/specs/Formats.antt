-- Which format a file has, by its first bytes. Byte 35 is `#`; 255, 254 begin a text of 16 bits a
-- letter.
use Rattle.std.specs.Prelude.{ℕ, ◌-◌, ◌==◌, Bool, false, ◌&&◌, ◌||◌, List, [], ◌∷◌, ◌++◌, length}
use Rattle.std.specs.Prelude.{nat_lt, nat_eq, take, drop, slice_index_or, Option, Some, None, codes}
use Rattle.std.specs.Prelude.{if◌then◌else◌}
use Rattle.std.specs.Char.{is_ascii_whitespace}
use Rattle.std.specs.List.{starts_with, prefix_len}
use Rattle.std.specs.Str.{str_eq_ignore_ascii_case}
use Rattle.mesh_scan.specs.declared.format.TheConstants.{FIRST_BYTES}
use Rattle.mesh_scan.specs.declared.format.Foreign.{Foreign}
use Rattle.mesh_scan.specs.declared.format.Foreign.TheVariants as foreign
use Rattle.mesh_scan.specs.declared.format.Format.{Format}
use Rattle.mesh_scan.specs.declared.format.Format.TheVariants as formats

-- The bytes begin with these.
abbrev pub begins : List ℕ → List ℕ → Bool
begins bytes word = starts_with nat_eq bytes word

-- A line that is `ply` alone comes first.
unfoldable pub is_ply : List ℕ → Bool
is_ply bytes = begins bytes (codes "ply\n") || begins bytes (codes "ply" ++ 13 ∷ [])

-- A text begins with FF FE or FE FF.
unfoldable pub is_wide : List ℕ → Bool
is_wide bytes = begins bytes (255 ∷ 254 ∷ []) || begins bytes (254 ∷ 255 ∷ [])

-- The last byte of the count of facets that a binary STL file has is 0.
unfoldable pub is_binary_stl : List ℕ → Bool
is_binary_stl bytes =
    nat_lt (FIRST_BYTES - 1) (length bytes) && slice_index_or bytes (FIRST_BYTES - 1) 0 == 0

abbrev pub is_solid : List ℕ → Bool
is_solid word = str_eq_ignore_ascii_case word (codes "solid")

-- The first five bytes are `solid`, in letters of either case.
abbrev pub begins_solid : List ℕ → Bool
begins_solid (a ∷ b ∷ c ∷ d ∷ e ∷ more) = is_solid (a ∷ b ∷ c ∷ d ∷ e ∷ [])
begins_solid _ = false

-- What a file of meshes and scenes is that isn't read, or an archive or a document.
unfoldable pub scene_of : List ℕ → Option Foreign
scene_of bytes =
    if begins bytes (codes "glTF") then Some foreign.Gltf
    else if begins bytes (codes "OFF") then Some foreign.Off
    else if begins bytes (codes "Kaydara") then Some foreign.Fbx
    else if begins bytes (80 ∷ 75 ∷ 3 ∷ 4 ∷ []) then Some foreign.Zip
    else if begins bytes (31 ∷ 139 ∷ []) then Some foreign.Gzip
    else if begins bytes (codes "%PDF") then Some foreign.Pdf
    else None

-- What a picture is. A TIFF file may begin as a 3D Studio file does.
unfoldable pub picture_of : List ℕ → Option Foreign
picture_of bytes =
    if begins bytes (137 ∷ codes "PNG") then Some foreign.Png
    else if begins bytes (255 ∷ 216 ∷ 255 ∷ []) then Some foreign.Jpeg
    else if begins bytes (codes "GIF8") then Some foreign.Gif
    else if begins bytes (73 ∷ 73 ∷ 42 ∷ 0 ∷ []) || begins bytes (77 ∷ 77 ∷ 0 ∷ 42 ∷ []) then
    Some foreign.Tiff
    else if begins bytes (codes "MM") then Some foreign.ThreeDs
    else None

abbrev pub or_picture : List ℕ → Option Foreign → Option Foreign
or_picture bytes (Some kind) = Some kind
or_picture bytes None = picture_of bytes

-- The kind of a file that is known and not read.
unfoldable pub foreign_of : List ℕ → Option Foreign
foreign_of bytes = or_picture bytes (scene_of bytes)

abbrev pub after_white : List ℕ → List ℕ
after_white bytes = drop (prefix_len is_ascii_whitespace bytes) bytes

abbrev pub opens_object : List ℕ → Bool
opens_object (byte ∷ rest) = byte == 123 && begins (after_white rest) (34 ∷ [])
opens_object [] = false

-- An object of JSON begins, as in a glTF text: `{` and `"`, with nothing but white space before
-- them.
unfoldable pub is_json : List ℕ → Bool
is_json bytes = opens_object (after_white bytes)

-- The format without a name at the front: `solid`, or a count of facets; JSON; else OBJ.
unfoldable pub text_by : List ℕ → Format
text_by bytes =
    if begins_solid bytes || is_binary_stl bytes then formats.Stl
    else if is_json bytes then formats.Foreign foreign.Json
    else formats.Obj

abbrev pub or_mesh : List ℕ → Option Foreign → Format
or_mesh bytes (Some kind) = formats.Foreign kind
or_mesh bytes None = text_by bytes

-- The format by the first bytes: a comment of an OBJ text or a text of 16 bits a letter, which is
-- refused as an OBJ text; `ply`; a name of a kind that isn't read; and else what `text_by` says.
unfoldable pub format_by : List ℕ → Format
format_by bytes =
    if begins bytes (codes "#") || is_wide bytes then formats.Obj
    else if is_ply bytes then formats.Ply
    else or_mesh bytes (foreign_of bytes)

abbrev pub format_of : List ℕ → Format
format_of bytes = format_by (take FIRST_BYTES bytes)
